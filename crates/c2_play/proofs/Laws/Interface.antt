-- The Programming Interface against its bytes: a put and a get run well, with every delay, and the flash
-- keeps J all the while.
use mathlib.Core.Path.{◌≡◌, refl}
use mathlib.Core.Bool.{Bool, true, false, not, ◌&&◌}
use mathlib.Core.List.{List, ◌∷◌, ◌++◌}
use Prim.Native.Nat.{ℕ, zero, suc, ◌+◌, ◌-◌, ◌*◌, ◌/◌, ◌<◌, ◌≤◌}
use native.Mathlib.Nat.{not-suc-le-zero}
use native.Mathlib.Omega.{arith}
use borrow.Author.Tests.{lt-ltb, eq-eqb, ne_eqb}
use lib.Dec.{eqb, eqb-suc-zero}
use Rattle.numbers.specs.Numbers.{bad_status}
use Rattle.laws.specs.Bytes.{Bytes}
use Rattle.c2_wire.specs.Bits.{bit, odd}
use Rattle.c2_wire.specs.Exchange.{Exchange, Outcome, outcome}
use Rattle.c2_wire.specs.Frames.{frame, framed}
use Rattle.c2_wire.specs.declared.Frame.TheVariants.{AddressWrite, AddressRead, DataWrite, DataRead}
use Rattle.settings.specs.Registers.{pairs_of, are_registers, are_pairs}
use Rattle.c2_order.specs.Acts.{Act, address_write, input_taken, output_ready, put, get, status}
use Rattle.c2_order.specs.Conversation.{limits, polling, conversation}
use Rattle.c2_target.specs.declared.Command.{Command}
use Rattle.c2_target.specs.declared.Output.{Output}
use Rattle.c2_target.specs.declared.Output.TheVariants.{Empty, Status}
use Rattle.c2_target.specs.declared.Link.{Link}
use Rattle.c2_target.specs.declared.Met.{Met}
use Rattle.c2_target.specs.declared.Device.{Device}
use Rattle.c2_target.specs.declared.Target.{Target}
use Rattle.c2_target.specs.Delays.{Setup, delay, next_place}
use Rattle.c2_target.specs.Commands.{takes_put, some_output, first_byte, other_bytes}
use Rattle.c2_target.specs.Interface.{link, device, in_busy, out_ready, status_bits, linked, shown, given, late_of, place_after, put_byte, get_byte, counted, next_keys, begun, prepared, frame_does}
use Rattle.c2_target.specs.Target.{stepped}
use Rattle.c2_target.proofs.Laws.Interface.{delay_byte, late_byte, status_small}
use Rattle.c2_play.proofs.Laws.Frames.{idle, leads, address_write_leads, address_read_leads, data_write_leads, data_read_leads}
use Rattle.c2_play.proofs.Laws.Leads.{Leads, leads_now}

-- What settings, wanted pairs, delays and limits have to be for a session to run as the rules say. Delays are
-- bytes, so 256 reads are enough for any poll.
pub record Fit (u : Setup) (l r : ℕ) : Type 0 where
  pub low : 3 ≤ u.settings.fpdat
  pub high : u.settings.fpdat < 256
  pub id : u.settings.id < 256
  pub registers : are_registers u.settings.fpdat (pairs_of u.settings.pairs) ≡ true
  pub register_bytes : Bytes u.settings.pairs.registers
  pub value_bytes : Bytes u.settings.pairs.values
  pub wanted : are_pairs u.settings.fpdat u.wanted ≡ true
  pub delays : Bytes u.delays
  pub some : 1 ≤ u.wait
  pub wait : u.wait ≤ l
  pub reads : 256 ≤ r

-- the device with the interface on, at the FPDAT address, with these wanted pairs met
abbrev pub at_fpdat : Setup → Met → Link → Device
at_fpdat u m l = device u.settings.fpdat true 0 m l

pub linked_at_fpdat : (u : Setup) (m : Met) (l : Link) → linked u.settings (at_fpdat u m l) ≡ true
unfolding linked
linked_at_fpdat u m l = eq-eqb u.settings.fpdat u.settings.fpdat refl

-- while the interface is not busy InBusy reads 0, and a read is one of the e reads
idle_status : (c : Command) (o : Output) (t : ℕ) → input_taken (status_bits (link c o 0 t)) ≡ true
unfolding input_taken status_bits out_ready in_busy bit odd
idle_status c o t = go (eqb t 0 && some_output o)
  where
    go : (b : Bool) → not (odd ((bit b + 2 * 0) / 2)) ≡ true
    go true = refl
    go false = refl

counted_idle : (c : Command) (o : Output) (t : ℕ) → counted (link c o 0 t) ≡ link c o 0 (t - 1)
unfolding counted in_busy
counted_idle c o t = refl

busy_status : (c : Command) (o : Output) (b t : ℕ) → input_taken (status_bits (link c o (suc b) t)) ≡ false
unfolding input_taken status_bits out_ready in_busy bit odd
busy_status c o b t = rw (lt-ltb 0 (suc b) (omega arith))

counted_busy : (c : Command) (o : Output) (b t : ℕ) → counted (link c o (suc b) t) ≡ link c o b t
unfolding counted in_busy
counted_busy c o b t =
    let one : suc b - 1 ≡ b = omega arith in
    rw (lt-ltb 0 (suc b) (omega arith), one)

-- OutReady reads 1 once the e reads are over, and until then 0
is_ready : (c : Command) (o : Output) → some_output o ≡ true → out_ready (link c o 0 0) ≡ true
unfolding out_ready in_busy
is_ready c o h = h

ready_status : (c : Command) (o : Output) → some_output o ≡ true → output_ready (status_bits (link c o 0 0)) ≡ true
unfolding output_ready status_bits in_busy bit odd
ready_status c o h = rw (is_ready c o h)

late_status : (c : Command) (o : Output) (t : ℕ) → output_ready (status_bits (link c o 0 (suc t))) ≡ false
unfolding output_ready status_bits out_ready in_busy bit odd
late_status c o t = rw (eqb-suc-zero t)

-- What a run is to keep: the flash is in J until the run ends, and then the target and the flash are in Z,
-- which implies J.
pub record Kept (J : List ℕ → Type 0) (Z : Target → List ℕ → Type 0) : Type 0 where
  pub last : (t : Target) (f : List ℕ) → Z t f → J f

module _ (u : Setup) (l r : ℕ) (fit : Fit u l r) (m : Met) (end : Outcome) (J : List ℕ → Type 0) (Z : Target → List ℕ → Type 0) (kept : Kept J Z) where
  -- whether the device is prepared
  abbrev pub ready : Bool
  ready = prepared u.wanted m

  pub now : (e : Exchange) (t : Target) (f : List ℕ) → leads u end J Z e t f → J f
  now e t f g = leads_now (stepped u) end J Z kept.last e t f g

  -- each of the four frames at FPDAT runs well, if what follows does
  pub fpdat_address : (x : Link) (k : ℕ → Exchange) (p : ℕ) (f : List ℕ) → leads u end J Z (k 0) (idle p false (at_fpdat u m x)) f
      → leads u end J Z (framed l (frame AddressWrite u.settings.fpdat) k) (idle p false (at_fpdat u m x)) f
  unfolding frame_does begun
  fpdat_address x k p f g = address_write_leads u end J Z l u.settings.fpdat k p false (at_fpdat u m x) f fit.high (now _ _ _ g) g

  pub fpdat_write : (x : Link) (b : ℕ) (k : ℕ → Exchange) (p : ℕ) (f : List ℕ) → b < 256 → J f
      → leads u end J Z (k 0) (idle (put_byte u ready x b (next_place u.delays p) f).place false (at_fpdat u m (put_byte u ready x b (next_place u.delays p) f).link))
      (put_byte u ready x b (next_place u.delays p) f).flash
      → leads u end J Z (framed l (frame DataWrite b) k) (idle p false (at_fpdat u m x)) f
  unfolding frame_does begun next_keys
  fpdat_write x b k p f h j g =
      data_write_leads u end J Z l b k p false (at_fpdat u m x) f fit.some fit.wait h j
      (rw (linked_at_fpdat u m x, ne_eqb u.settings.fpdat 2 (λ e. omega (arith, fit.low))) g)

  pub fpdat_status : (x : Link) (k : ℕ → Exchange) (p : ℕ) (f : List ℕ) → leads u end J Z (k (status_bits x)) (idle p false (at_fpdat u m (counted x))) f
      → leads u end J Z (framed l (frame AddressRead 0) k) (idle p false (at_fpdat u m x)) f
  unfolding frame_does begun shown
  fpdat_status x k p f g =
      address_read_leads u end J Z l k p false (at_fpdat u m x) f (rw (linked_at_fpdat u m x) (status_small x)) (now _ _ _ g) (rw (linked_at_fpdat u m x) g)

  pub fpdat_read : (x : Link) (k : ℕ → Exchange) (p : ℕ) (f : List ℕ) → out_ready x ≡ true → first_byte x.output f < 256 → J f
      → leads u end J Z (k (first_byte x.output f)) (idle (get_byte u x (next_place u.delays p) f).place false (at_fpdat u m (get_byte u x (next_place u.delays p) f).link))
      (get_byte u x (next_place u.delays p) f).flash
      → leads u end J Z (framed l (frame DataRead 0) k) (idle p false (at_fpdat u m x)) f
  unfolding frame_does begun given
  fpdat_read x k p f o h j g =
      data_read_leads u end J Z l k p false (at_fpdat u m x) f fit.some fit.wait (rw (linked_at_fpdat u m x, o) h) j (rw (linked_at_fpdat u m x, o) g)

  -- these acts run well from this command, output and flash, between two frames at FPDAT with no put running
  unfoldable pub Good : List Act → Command → Output → List ℕ → Type 0
  Good acts c o f = (t p : ℕ) → t < 256 → leads u end J Z (conversation (limits l r) acts) (idle p false (at_fpdat u m (link c o 0 t))) f

  pub good_now : (acts : List Act) (c : Command) (o : Output) (f : List ℕ) → Good acts c o f → J f
  unfolding Good
  good_now acts c o f g = now _ _ _ (g 0 0 (omega arith))

  -- a poll for InBusy 0 takes the reads of d, and one that shows it
  polls_busy : (n b : ℕ) (k : Exchange) (c : Command) (o : Output) (t p : ℕ) (f : List ℕ) → b < n → t < 256
      → ((t : ℕ) → t < 256 → leads u end J Z k (idle p false (at_fpdat u m (link c o 0 t))) f)
      → leads u end J Z (polling l n input_taken k) (idle p false (at_fpdat u m (link c o b t))) f
  unfolding polling
  polls_busy zero b k c o t p f hb ht g = absurd (not-suc-le-zero hb)
  polls_busy (suc n) zero k c o t p f hb ht g = fpdat_status _ _ _ _ (rw (idle_status c o t, counted_idle c o t) (g (t - 1) (omega arith)))
  polls_busy (suc n) (suc b) k c o t p f hb ht g =
      fpdat_status _ _ _ _ (rw (busy_status c o b t, counted_busy c o b t) (polls_busy n b k c o t p f (omega arith) ht g))

  -- a poll for OutReady 1 takes the reads of e, and one that shows it
  polls_late : (n t : ℕ) (k : Exchange) (c : Command) (o : Output) (p : ℕ) (f : List ℕ) → t < n → some_output o ≡ true
      → leads u end J Z k (idle p false (at_fpdat u m (link c o 0 0))) f
      → leads u end J Z (polling l n output_ready k) (idle p false (at_fpdat u m (link c o 0 t))) f
  unfolding polling
  polls_late zero t k c o p f h w g = absurd (not-suc-le-zero h)
  polls_late (suc n) zero k c o p f h w g = fpdat_status _ _ _ _ (rw (ready_status c o w, counted_idle c o 0) g)
  polls_late (suc n) (suc t) k c o p f h w g =
      let one : suc t - 1 ≡ t = omega arith in
      fpdat_status _ _ _ _ (rw (late_status c o t, counted_idle c o (suc t), one) (polls_late n t k c o p f (omega arith) w g))

  -- a byte put runs well: the command takes it
  pub put_good : (b : ℕ) (acts : List Act) (c : Command) (o : Output) (f : List ℕ) → b < 256 → J f
      → Good acts (takes_put u.settings ready c b f).command (takes_put u.settings ready c b f).output (takes_put u.settings ready c b f).flash
      → Good (put b ++ acts) c o f
  unfolding Good put put_byte conversation
  put_good b acts c o f h j g t p ht =
      let q = next_place u.delays p in
      let x = takes_put u.settings ready c b f in
      fpdat_write _ b _ p f h j
      (polls_busy r (delay u.delays q) (conversation (limits l r) acts) x.command x.output
      (late_of u.delays x.output (next_place u.delays q)) (place_after u.delays x.output (next_place u.delays q)) x.flash
      (omega (arith, delay_byte u.delays q fit.delays, fit.reads)) (late_byte u.delays x.output _ fit.delays) (λ t ht. g t _ ht))

  -- a byte got runs well: it is the first of the output
  pub get_good : (b : ℕ) (bad : Outcome) (acts : List Act) (c : Command) (o : Output) (f : List ℕ) → b < 256 → some_output o ≡ true → first_byte o f ≡ b
      → Good acts c (other_bytes o) f → Good (get b bad ++ acts) c o f
  unfolding Good get get_byte conversation
  get_good b bad acts c o f h w e g t p ht =
      polls_late r t _ c o p f (omega (arith, fit.reads)) w
      (fpdat_read (link c o 0 0) _ p f (is_ready c o w) (rw e h) (now _ _ _ (g 0 0 (omega arith)))
      (rw (e, eq-eqb b b refl, is_ready c o w) (g _ _ (late_byte u.delays (other_bytes o) _ fit.delays))))

  -- a byte got that is not the one expected ends the run with the number that goes with it
  pub get_ends : (b : ℕ) (acts : List Act) (c : Command) (o : Output) (f : List ℕ) → some_output o ≡ true → first_byte o f < 256
      → eqb (first_byte o f) b ≡ false → J f → ((t p : ℕ) → Z (idle p false (at_fpdat u m (link c (other_bytes o) 0 t))) f)
      → Good (get b end ++ acts) c o f
  unfolding Good get get_byte conversation Leads
  get_ends b acts c o f w h e j z t p ht =
      polls_late r t _ c o p f (omega (arith, fit.reads)) w
      (fpdat_read (link c o 0 0) _ p f (is_ready c o w) h j (rw (e, is_ready c o w) (refl, z _ _)))

  -- a status of 0x0D runs well
  pub status_good : (acts : List Act) (c : Command) (f : List ℕ) → Good acts c Empty f → Good (status ++ acts) c (Status true) f
  unfolding status some_output first_byte other_bytes
  status_good acts c f g = get_good 0x0d (outcome bad_status) acts c (Status true) f (omega arith) refl refl g

  pub address_good : (acts : List Act) (c : Command) (o : Output) (f : List ℕ) → Good acts c o f → Good (address_write u.settings.fpdat ∷ acts) c o f
  unfolding Good conversation
  address_good acts c o f g t p ht = fpdat_address _ _ _ _ (g t p ht)

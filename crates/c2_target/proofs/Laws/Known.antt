-- A step that is not refused leads from a state that exists to another, and keeps the flash's length and its
-- bytes.
use mathlib.Core.Path.{◌≡◌, refl, ◌∙◌}
use mathlib.Core.Bool.{Bool, true, false, cond, ◌&&◌}
use mathlib.Core.List.{List, [], ◌∷◌, ◌++◌}
use Prim.Native.Nat.{ℕ, zero, suc, ◌+◌, ◌-◌, ◌*◌, ◌%◌, ◌<◌, ◌≤◌}
use native.Mathlib.Nat.{mul-le-mul_right, mod-lt}
use native.Mathlib.Omega.{arith}
use borrow.Author.Tests.{ltb-true, leb-true, eqb-true, eqb-false, lt-ltb, le-leb, eq-eqb}
use lib.Bits.{bit_and, and_le_l}
use lib.Dec.{eqb, ltb, leb}
use lib.ListN.{length, get_or, take, drop, set, replicate, length-append, length-replicate, length-drop, length-set}
use lib.Seq.{length-take-le}
use Rattle.laws.proofs.Tests.{both, by_test}
use Rattle.laws.specs.Bytes.{Bytes}
use Rattle.c2_wire.specs.Step.{Step, released, driven, reset, pause, off}
use Rattle.c2_wire.proofs.Laws.Bits.{bytes_take, bytes_drop}
use Rattle.settings.specs.declared.Settings.{Settings}
use Rattle.c2_order.specs.Acts.{coded_length}
use Rattle.c2_target.specs.declared.Command.{Command}
use Rattle.c2_target.specs.declared.Command.TheVariants.{Ready, ErasePage, EraseConfirm, High, Low, LengthCode, Byte, PastEnd}
use Rattle.c2_target.specs.declared.Output.{Output}
use Rattle.c2_target.specs.declared.Output.TheVariants.{Empty, Status, StatusBlock, Block}
use Rattle.c2_target.specs.declared.Effect.{Effect}
use Rattle.c2_target.specs.declared.Effect.TheVariants.{Nothing, SetAddress, Write, CountDown, Read}
use Rattle.c2_target.specs.declared.Point.{Point}
use Rattle.c2_target.specs.declared.Point.TheVariants.{Start, Ins, WriteLength, ReadLength, Address, Data, LongData, Wait, Waiting, Send, Stop}
use Rattle.c2_target.specs.declared.Link.{Link}
use Rattle.c2_target.specs.declared.Met.{Met}
use Rattle.c2_target.specs.declared.Device.{Device}
use Rattle.c2_target.specs.declared.Target.{Target}
use Rattle.c2_target.specs.Delays.{Setup, delay}
use Rattle.c2_target.specs.Commands.{PutTaken, erased, stored, in_flash, opens, takes_put, first_byte, other_bytes}
use Rattle.c2_target.specs.Interface.{link, device, Served, Acted, in_busy, out_ready, linked, shown, given, put_byte, get_byte, counted, next_keys, begun, frame_does}
use Rattle.c2_target.specs.Strobes.{Turn, line, strobed_at}
use Rattle.c2_target.specs.Known.{hearing, is_byte, known_effect, after_its_wait, known_point, most_keys, is_count, known_block, known_command, known_output, known_link, known}
use Rattle.c2_target.specs.Target.{cleared, after_reset, after_pause, stepped}
use Rattle.laws.proofs.Bytes.{getD_byte}
use Rattle.c2_target.proofs.Laws.Interface.{delay_byte, late_byte, status_small}
use Rattle.c2_target.proofs.Laws.KnownPoint.{and_true, ins_known, write_length_known, read_length_known, address_known, data_known, long_data_known, sent_known, wait_known}

-- bytes that are joined, repeated or set in a list are bytes
bytes_append : (a b : List ℕ) → Bytes a → Bytes b → Bytes (a ++ b)
bytes_append [] b h g = g
bytes_append (x ∷ a) b h g = (h.0, bytes_append a b h.1 g)

bytes_replicate : (n x : ℕ) → x < 256 → Bytes (replicate n x)
bytes_replicate zero x h = tt
bytes_replicate (suc n) x h = (h, bytes_replicate n x h)

bytes_set : (a : List ℕ) (i x : ℕ) → Bytes a → x < 256 → Bytes (set a i x)
bytes_set [] zero x h g = tt
bytes_set [] (suc i) x h g = tt
bytes_set (y ∷ a) zero x h g = (g, h.1)
bytes_set (y ∷ a) (suc i) x h g = (h.0, bytes_set a i x h.1 g)

-- an erase and a byte stored keep the flash's length, and that it is bytes
length_erased : (size count p : ℕ) (f : List ℕ) → p < count → length f ≡ size * count → length (erased size p f) ≡ length f
unfolding erased
length_erased size count p f h e =
    let inside : suc p * size ≤ count * size = mul-le-mul_right size h in
    let w : length (take (p * size) f) ≡ p * size = length-take-le (p * size) f (omega arith) in
    simp (length-append, w, length-replicate, length-drop) (omega arith)

bytes_erased : (size p : ℕ) (f : List ℕ) → Bytes f → Bytes (erased size p f)
unfolding erased
bytes_erased size p f h =
    bytes_append (take (p * size) f) (replicate size 0xff ++ drop (p * size + size) f) (bytes_take (p * size) f h)
    (bytes_append (replicate size 0xff) (drop (p * size + size) f) (bytes_replicate size 0xff (omega arith)) (bytes_drop (p * size + size) f h))

length_stored : (a b : ℕ) (f : List ℕ) → length (stored a b f) ≡ length f
unfolding stored
length_stored a b f = length-set f a (bit_and (get_or f a 0) b)

bytes_stored : (a b : ℕ) (f : List ℕ) → Bytes f → Bytes (stored a b f)
unfolding stored
bytes_stored a b f h = bytes_set f a _ h (omega (arith, and_le_l (get_or f a 0) b, getD_byte f a h))

-- a length code means 1 to 256 bytes
coded_count : (b : ℕ) → b < 256 → is_count (coded_length b) ≡ true
unfolding coded_length is_count
coded_count b h =
    by_test (eqb b 0) (λ e. rw e)
    (λ e. rw e (and_true (le-leb 1 b (omega (arith, eqb-false b 0 e))) (le-leb b 256 (omega arith))))

-- one byte less of a block is still a block's count
count_less : (n : ℕ) → is_count n ≡ true → ltb 1 n ≡ true → is_count (n - 1) ≡ true
unfolding is_count
count_less n k e =
    let h = both (leb 1 n) (leb n 256) k in
    and_true (le-leb 1 (n - 1) (omega (arith, ltb-true 1 n e))) (le-leb (n - 1) 256 (omega (arith, leb-true n 256 h.1)))

block_less : (end a n : ℕ) → known_block end a n ≡ true → ltb 1 n ≡ true → known_block end (a + 1) (n - 1) ≡ true
unfolding known_block
block_less end a n k e =
    let h = both (is_count n) (leb (a + n) end) k in
    and_true (count_less n h.0 e) (le-leb (a + 1 + (n - 1)) end (omega (arith, leb-true (a + n) end h.1, ltb-true 1 n e)))

-- what a byte put leaves exists
pub record Took (count : ℕ) (f : List ℕ) (x : PutTaken) : Type 0 where
  pub size : length x.flash ≡ length f
  pub bytes : Bytes x.flash
  pub command : known_command count (length f) x.command ≡ true
  pub output : known_output (length f) x.output ≡ true

-- a command that is turned away where the device is not prepared exists
turned : (ready : Bool) (count end : ℕ) (c : Command) → known_command count end c ≡ true → known_command count end (cond ready c Ready) ≡ true
unfolding known_command
turned true count end c k = k
turned false count end c k = refl

takes_known : (s : Settings) (ready : Bool) (c : Command) (b : ℕ) (f : List ℕ) → b < 256 → Bytes f → length f ≡ s.size * s.count
    → known_command s.count (length f) c ≡ true → Took s.count f (takes_put s ready c b f)
unfolding takes_put opens in_flash known_command known_output known_block is_byte
takes_known s ready Ready b f hb hf ef k =
    by_test (eqb b 0x08) (λ e. rw e (record { size = refl; bytes = hf; command = turned ready s.count (length f) ErasePage refl; output = refl }))
    (λ e. rw e (by_test (eqb b 0x07) (λ e. rw e (record { size = refl; bytes = hf; command = turned ready s.count (length f) (High true) refl; output = refl }))
    (λ e. rw e (by_test (eqb b 0x06) (λ e. rw e (record { size = refl; bytes = hf; command = refl; output = refl }))
    (λ e. rw e (record { size = refl; bytes = hf; command = refl; output = refl }))))))
takes_known s ready ErasePage b f hb hf ef k =
    by_test (ltb b s.count) (λ e. rw e (record { size = refl; bytes = hf; command = e; output = refl }))
    (λ e. rw e (record { size = refl; bytes = hf; command = refl; output = refl }))
takes_known s ready (EraseConfirm p) b f hb hf ef k =
    by_test (eqb b 0x00)
    (λ e. rw e (record { size = length_erased s.size s.count p f (ltb-true p s.count k) ef; bytes = bytes_erased s.size p f hf; command = refl; output = refl }))
    (λ e. rw e (record { size = refl; bytes = hf; command = refl; output = refl }))
takes_known s ready (High w) b f hb hf ef k = record { size = refl; bytes = hf; command = lt-ltb b 256 hb; output = refl }
takes_known s ready (Low w h) b f hb hf ef k =
    record { size = refl; bytes = hf; command = lt-ltb (h * 256 + b) 65536 (omega (arith, ltb-true h 256 k)); output = refl }
takes_known s ready (LengthCode true a) b f hb hf ef k =
    by_test (leb (a + coded_length b) (length f))
    (λ e. rw e (record { size = refl; bytes = hf; command = and_true (coded_count b hb) e; output = refl }))
    (λ e. rw e (record { size = refl; bytes = hf; command = coded_count b hb; output = refl }))
takes_known s ready (LengthCode false a) b f hb hf ef k =
    by_test (leb (a + coded_length b) (length f))
    (λ e. rw e (record { size = refl; bytes = hf; command = refl; output = and_true (coded_count b hb) e }))
    (λ e. rw e (record { size = refl; bytes = hf; command = refl; output = refl }))
takes_known s ready (Byte a n) b f hb hf ef k =
    by_test (ltb 1 n)
    (λ e. rw e (record { size = length_stored a b f; bytes = bytes_stored a b f hf; command = block_less (length f) a n k e; output = refl }))
    (λ e. rw e (record { size = length_stored a b f; bytes = bytes_stored a b f hf; command = refl; output = refl }))
takes_known s ready (PastEnd n) b f hb hf ef k =
    by_test (ltb 1 n)
    (λ e. rw e (record { size = refl; bytes = hf; command = count_less n k e; output = refl }))
    (λ e. rw e (record { size = refl; bytes = hf; command = refl; output = refl }))

-- what a put, a get or a count leaves of the interface exists
record Serves (count : ℕ) (f : List ℕ) (x : Served) : Type 0 where
  size : length x.flash ≡ length f
  bytes : Bytes x.flash
  link : known_link count (length f) x.link ≡ true

-- a device exists, fact by fact
pub record DeviceKnown (count end : ℕ) (d : Device) : Type 0 where
  pub address : is_byte d.address ≡ true
  pub link : known_link count end d.link ≡ true

-- what a frame leaves at its STOP exists
record Acts (count : ℕ) (f : List ℕ) (x : Acted) : Type 0 where
  size : length x.flash ≡ length f
  bytes : Bytes x.flash
  device : DeviceKnown count (length f) x.device

link_is : (count end : ℕ) (c : Command) (o : Output) (b e : ℕ) → known_command count end c ≡ true → known_output end o ≡ true → b < 256 → e < 256
    → known_link count end (link c o b e) ≡ true
unfolding known_link is_byte
link_is count end c o b e hc ho hb he = and_true hc (and_true ho (and_true (lt-ltb b 256 hb) (lt-ltb e 256 he)))

record LinkSays (count end : ℕ) (l : Link) : Type 0 where
  command : known_command count end l.command ≡ true
  output : known_output end l.output ≡ true
  busy : l.busy < 256
  late : l.late < 256

link_says : (count end : ℕ) (l : Link) → known_link count end l ≡ true → LinkSays count end l
unfolding known_link is_byte
link_says count end l k =
    let a = both (known_command count end l.command) (known_output end l.output && (ltb l.busy 256 && ltb l.late 256)) k in
    let b = both (known_output end l.output) (ltb l.busy 256 && ltb l.late 256) a.1 in
    let c = both (ltb l.busy 256) (ltb l.late 256) b.1 in
    record { command = a.0; output = b.0; busy = ltb-true l.busy 256 c.0; late = ltb-true l.late 256 c.1 }

other_known : (end : ℕ) (o : Output) → known_output end o ≡ true → known_output end (other_bytes o) ≡ true
unfolding known_output other_bytes
other_known end Empty k = refl
other_known end (Status ok) k = refl
other_known end (StatusBlock a n) k = k
other_known end (Block a n) k = by_test (ltb 1 n) (λ e. rw e (block_less end a n k e)) (λ e. rw e)

first_small : (o : Output) (f : List ℕ) → Bytes f → first_byte o f < 256
unfolding first_byte
first_small Empty f h = omega arith
first_small (Status true) f h = omega arith
first_small (Status false) f h = omega arith
first_small (StatusBlock a n) f h = omega arith
first_small (Block a n) f h = getD_byte f a h

keys_few : (a n b : ℕ) → leb (next_keys a n b) 3 ≡ true
unfolding next_keys
keys_few a n b =
    by_test (eqb a 0x02)
    (λ e. rw e (by_test (eqb b 0x02) (λ e. rw e) (λ e. rw e (by_test (eqb b 0x04 && eqb n 1) (λ e. rw e)
    (λ e. rw e (by_test (eqb b 0x01 && eqb n 2) (λ e. rw e) (λ e. rw e)))))))
    (λ e. rw e)

-- two key writes may be counted at any point
few_keys : (p : Point) (n : ℕ) → leb n 2 ≡ true → leb n (most_keys p) ≡ true
unfolding most_keys
few_keys Start n h = le-leb n 3 (omega (arith, leb-true n 2 h))
few_keys (Ins m v) n h = h
few_keys (WriteLength m v) n h = h
few_keys (ReadLength m v) n h = h
few_keys (Address m v) n h = h
few_keys (Data m v) n h = h
few_keys (LongData m) n h = h
few_keys (Wait m e) n h = h
few_keys (Waiting z m e) n h = h
few_keys (Send m v e) n h = h
few_keys (Stop e) n h = h

-- no more than three key writes are counted at any point
pub three_keys : (p : Point) (n : ℕ) → leb n (most_keys p) ≡ true → n ≤ 3
unfolding most_keys
three_keys Start n h = leb-true n 3 h
three_keys (Ins m v) n h = omega (arith, leb-true n 2 h)
three_keys (WriteLength m v) n h = omega (arith, leb-true n 2 h)
three_keys (ReadLength m v) n h = omega (arith, leb-true n 2 h)
three_keys (Address m v) n h = omega (arith, leb-true n 2 h)
three_keys (Data m v) n h = omega (arith, leb-true n 2 h)
three_keys (LongData m) n h = omega (arith, leb-true n 2 h)
three_keys (Wait m e) n h = omega (arith, leb-true n 2 h)
three_keys (Waiting z m e) n h = omega (arith, leb-true n 2 h)
three_keys (Send m v e) n h = omega (arith, leb-true n 2 h)
three_keys (Stop e) n h = omega (arith, leb-true n 2 h)

-- a START takes three key writes away
begun_few : (d : Device) → leb d.keys 3 ≡ true → leb (begun d).keys 2 ≡ true
unfolding begun
begun_few d h =
    by_test (eqb d.keys 3) (λ e. rw e)
    (λ e. rw e (le-leb d.keys 2 (omega (arith, leb-true d.keys 3 h, eqb-false d.keys 3 e))))

-- a state that exists, fact by fact
pub record Exists (u : Setup) (t : Target) (f : List ℕ) : Type 0 where
  pub flash : length f ≡ u.settings.size * u.settings.count
  pub point : known_point u.wait t.point ≡ true
  pub keys : leb t.device.keys (most_keys t.point) ≡ true
  pub device : DeviceKnown u.settings.count (length f) t.device

pub known_says : (u : Setup) (t : Target) (f : List ℕ) → known u t f ≡ true → Exists u t f
unfolding known
known_says u t f k =
    let d = t.device in
    let a = both (eqb (length f) (u.settings.size * u.settings.count)) _ k in
    let b = both (known_point u.wait t.point) _ a.1 in
    let c = both (leb d.keys (most_keys t.point)) _ b.1 in
    let e = both (is_byte d.address) _ c.1 in
    record {
      flash = eqb-true (length f) (u.settings.size * u.settings.count) a.0;
      point = b.0;
      keys = c.0;
      device = record { address = e.0; link = e.1 };
    }

pub known_is : (u : Setup) (t : Target) (f : List ℕ) → Exists u t f → known u t f ≡ true
unfolding known
known_is u t f k =
    and_true (eq-eqb (length f) (u.settings.size * u.settings.count) k.flash)
    (and_true k.point (and_true k.keys (and_true k.device.address k.device.link)))

-- the target and the flash after a step exist, and the flash is bytes
pub record Stays (u : Setup) (x : Turn) : Type 0 where
  pub bytes : Bytes x.flash
  pub exists : Exists u x.target x.flash

-- what the target is lent are bytes: the ID, and the delays
pub record Lent (u : Setup) : Type 0 where
  pub id : u.settings.id < 256
  pub delays : Bytes u.delays
  pub wait : 1 ≤ u.wait

module _ (u : Setup) (lent : Lent u) where
  abbrev count : ℕ
  count = u.settings.count

  shown_small : (end : ℕ) (d : Device) → DeviceKnown count end d → shown u.settings d < 256
  unfolding shown is_byte
  shown_small end d k =
      by_test (linked u.settings d) (λ e. rw e (status_small d.link)) (λ e. rw e (ltb-true d.address 256 k.address))

  given_small : (d : Device) (f : List ℕ) → Bytes f → given u.settings d f < 256
  unfolding given
  given_small d f h =
      by_test (linked u.settings d)
      (λ e. rw e (by_test (out_ready d.link) (λ e. rw e (first_small d.link.output f h)) (λ e. rw e (omega arith))))
      (λ e. rw e (by_test (eqb d.address 0) (λ e. rw e lent.id) (λ e. rw e (omega arith))))

  begun_known : (end : ℕ) (d : Device) → DeviceKnown count end d → DeviceKnown count end (begun d)
  unfolding begun
  begun_known end d k = record { address = k.address; link = k.link }

  put_known : (ready : Bool) (l : Link) (b p : ℕ) (f : List ℕ) → b < 256 → Bytes f → length f ≡ u.settings.size * count → known_link count (length f) l ≡ true
      → Serves count f (put_byte u ready l b p f)
  unfolding put_byte
  put_known ready l b p f hb hf ef k =
      let x = takes_known u.settings ready l.command b f hb hf ef (link_says count (length f) l k).command in
      record {
        size = x.size;
        bytes = x.bytes;
        link = link_is count (length f) _ _ _ _ x.command x.output (delay_byte u.delays p lent.delays) (late_byte u.delays _ _ lent.delays);
      }

  get_known : (l : Link) (p : ℕ) (f : List ℕ) → Bytes f → known_link count (length f) l ≡ true → Serves count f (get_byte u l p f)
  unfolding get_byte
  get_known l p f hf k =
      let x = link_says count (length f) l k in
      by_test (out_ready l)
      (λ e. rw e (record {
        size = refl;
        bytes = hf;
        link = link_is count (length f) _ _ _ _ x.command (other_known (length f) l.output x.output) x.busy (late_byte u.delays _ _ lent.delays);
      }))
      (λ e. rw e (record { size = refl; bytes = hf; link = k }))

  counted_known : (end : ℕ) (l : Link) → known_link count end l ≡ true → known_link count end (counted l) ≡ true
  unfolding counted
  counted_known end l k =
      let x = link_says count end l k in
      link_is count end _ _ _ _ x.command x.output (omega (arith, x.busy))
      (by_test (in_busy l) (λ e. rw e x.late) (λ e. rw e (omega (arith, x.late))))

  does_known : (e : Effect) (d : Device) (p : ℕ) (f : List ℕ) → known_effect e ≡ true → Bytes f → length f ≡ u.settings.size * count
      → DeviceKnown count (length f) d → Acts count f (frame_does u e d p f)
  unfolding frame_does known_effect is_byte
  does_known Nothing d p f ke hf ef k = record { size = refl; bytes = hf; device = k }
  does_known (SetAddress a) d p f ke hf ef k =
      record { size = refl; bytes = hf; device = record { address = ke; link = k.link } }
  does_known (Write b) d p f ke hf ef k = by_test (linked u.settings d) (λ e. rw e (put (put_known _ d.link b p f (ltb-true b 256 ke) hf ef k.link)))
      (λ e. rw e (put (record { size = refl; bytes = hf; link = k.link })))
    where
      put : {m : Met} {x : Served} → Serves count f x
          → Acts count f (record { device = device d.address d.on (next_keys d.address d.keys b) m x.link; place = x.place; flash = x.flash })
      put s = record { size = s.size; bytes = s.bytes; device = record { address = k.address; link = s.link } }
  does_known CountDown d p f ke hf ef k =
      record {
        size = refl;
        bytes = hf;
        device = record {
          address = k.address;
          link = by_test (linked u.settings d) (λ e. rw e (counted_known (length f) d.link k.link)) (λ e. rw e k.link);
        };
      }
  does_known Read d p f ke hf ef k = by_test (linked u.settings d) (λ e. rw e (got (get_known d.link p f hf k.link)))
      (λ e. rw e (got (record { size = refl; bytes = hf; link = k.link })))
    where
      got : {x : Served} → Serves count f x
          → Acts count f (record { device = device d.address d.on d.keys d.met x.link; place = x.place; flash = x.flash })
      got s = record { size = s.size; bytes = s.bytes; device = record { address = k.address; link = s.link } }

  does_keys : (e : Effect) (d : Device) (p : ℕ) (f : List ℕ) → leb d.keys 2 ≡ true → leb (frame_does u e d p f).device.keys 3 ≡ true
  unfolding frame_does most_keys
  does_keys Nothing d p f h = few_keys Start d.keys h
  does_keys (SetAddress a) d p f h = few_keys Start d.keys h
  does_keys (Write b) d p f h = keys_few d.address d.keys b
  does_keys CountDown d p f h = few_keys Start d.keys h
  does_keys Read d p f h = few_keys Start d.keys h

  -- a strobe leads to a point where as many key writes may be counted as are
  strobe_keys : (p : Point) (t : Target) (f : List ℕ) (x : Step) → leb t.device.keys (most_keys p) ≡ true
      → let r = (strobed_at u p t f x).target in leb r.device.keys (most_keys r.point) ≡ true
  unfolding strobed_at most_keys
  strobe_keys Start t f x h = begun_few t.device h
  strobe_keys (Ins n v) t f x h = few_keys (strobed_at u (Ins n v) t f x).target.point t.device.keys h
  strobe_keys (WriteLength n v) t f x h = few_keys (strobed_at u (WriteLength n v) t f x).target.point t.device.keys h
  strobe_keys (ReadLength n v) t f x h = few_keys (strobed_at u (ReadLength n v) t f x).target.point t.device.keys h
  strobe_keys (Address n v) t f x h = few_keys (strobed_at u (Address n v) t f x).target.point t.device.keys h
  strobe_keys (Data n v) t f x h = few_keys (strobed_at u (Data n v) t f x).target.point t.device.keys h
  strobe_keys (LongData n) t f x h = few_keys (strobed_at u (LongData n) t f x).target.point t.device.keys h
  strobe_keys (Wait n g) t f x h = few_keys (strobed_at u (Wait n g) t f x).target.point t.device.keys h
  strobe_keys (Waiting z n g) t f x h = few_keys (strobed_at u (Waiting z n g) t f x).target.point t.device.keys h
  strobe_keys (Send n v g) t f x h = few_keys (strobed_at u (Send n v g) t f x).target.point t.device.keys h
  strobe_keys (Stop g) t f x h = does_keys g t.device t.place f h

  moves : (p : Point) (t : Target) (f : List ℕ) (x : Step) → t.point ≡ p → Bytes f → Exists u t f → Stays u (strobed_at u p t f x)
  unfolding strobed_at known_point known_effect hearing
  moves Start t f x e hf k =
      record {
        bytes = hf;
        exists = record {
          flash = k.flash;
          point = refl;
          keys = strobe_keys Start t f x (rw e at k.keys);
          device = begun_known (length f) t.device k.device;
        };
      }
  moves (Ins n v) t f x e hf k =
      record {
        bytes = hf;
        exists = record {
          flash = k.flash;
          device = k.device;
          keys = strobe_keys (Ins n v) t f x (rw e at k.keys);
          point = ins_known u.wait u.settings t.device n v (line x) (shown_small (length f) t.device k.device) (rw e at k.point);
        };
      }
  moves (WriteLength n v) t f x e hf k =
      record { bytes = hf; exists = record { flash = k.flash; device = k.device; keys = strobe_keys (WriteLength n v) t f x (rw e at k.keys); point = write_length_known u.wait n v (line x) (rw e at k.point) } }
  moves (ReadLength n v) t f x e hf k =
      record { bytes = hf; exists = record { flash = k.flash; device = k.device; keys = strobe_keys (ReadLength n v) t f x (rw e at k.keys); point = read_length_known u.wait n v (line x) (rw e at k.point) } }
  moves (Address n v) t f x e hf k =
      record { bytes = hf; exists = record { flash = k.flash; device = k.device; keys = strobe_keys (Address n v) t f x (rw e at k.keys); point = address_known u.wait n v (line x) (rw e at k.point) } }
  moves (Data n v) t f x e hf k =
      record { bytes = hf; exists = record { flash = k.flash; device = k.device; keys = strobe_keys (Data n v) t f x (rw e at k.keys); point = data_known u.wait n v (line x) (rw e at k.point) } }
  moves (LongData n) t f x e hf k =
      record { bytes = hf; exists = record { flash = k.flash; device = k.device; keys = strobe_keys (LongData n) t f x (rw e at k.keys); point = long_data_known u.wait n (rw e at k.point) } }
  moves (Wait n g) t f x e hf k =
      record {
        bytes = hf;
        exists = record {
          flash = k.flash;
          device = k.device;
          keys = strobe_keys (Wait n g) t f x (rw e at k.keys);
          point = wait_known u.wait u (delay u.delays t.place % u.wait) n g t.device f (given_small t.device f hf)
              (mod-lt (delay u.delays t.place) lent.wait) (rw e at k.point);
        };
      }
  moves (Waiting z n g) t f x e hf k =
      let h = both (ltb (z + 1) u.wait) (after_its_wait n g) (rw e at k.point) in
      record {
        bytes = hf;
        exists = record {
          flash = k.flash;
          device = k.device;
          keys = strobe_keys (Waiting z n g) t f x (rw e at k.keys);
          point = wait_known u.wait u z n g t.device f (given_small t.device f hf) (omega (arith, ltb-true (z + 1) u.wait h.0)) h.1;
        };
      }
  moves (Send n v g) t f x e hf k =
      record { bytes = hf; exists = record { flash = k.flash; device = k.device; keys = strobe_keys (Send n v g) t f x (rw e at k.keys); point = sent_known u.wait n v g (rw e at k.point) } }
  moves (Stop g) t f x e hf k =
      let r = does_known g t.device t.place f (rw e at k.point) hf k.flash k.device in
      record { bytes = r.bytes; exists = record { flash = r.size ∙ k.flash; point = refl; keys = strobe_keys (Stop g) t f x (rw e at k.keys); device = rw r.size r.device } }

  pub stepped_known : (t : Target) (f : List ℕ) (x : Step) → Bytes f → Exists u t f → Stays u (stepped u t f x)
  unfolding stepped after_reset after_pause cleared known_point most_keys known_link known_command known_output is_byte
  stepped_known t f released hf k = moves t.point t f released refl hf k
  stepped_known t f (driven b) hf k = moves t.point t f (driven b) refl hf k
  stepped_known t f reset hf k =
      record { bytes = hf; exists = record { flash = k.flash; point = refl; keys = refl; device = record { address = refl; link = refl } } }
  stepped_known t f pause hf k =
      record {
        bytes = hf;
        exists = record { flash = k.flash; point = k.point; keys = k.keys; device = record { address = k.device.address; link = k.device.link } };
      }
  stepped_known t f off hf k = record { bytes = hf; exists = k }

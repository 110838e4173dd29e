-- What holds of the acts that an order is made of holds of every act of it.
use mathlib.Core.Path.{◌≡◌, refl}
use mathlib.Core.List.{List, [], ◌∷◌, map}
use mathlib.Core.Logic.{inr}
use Prim.Native.Nat.{ℕ, zero, suc, ◌+◌, ◌*◌, ◌/◌, ◌<◌, ◌≤◌}
use native.Mathlib.Omega.{arith}
use lib.ListN.{length, take, drop}
use Rattle.numbers.specs.Numbers.{bad_status, compare_differs, other_device}
use Rattle.laws.specs.Bytes.{Bytes}
use Rattle.c2_wire.specs.Bits.{bits}
use Rattle.c2_wire.specs.Exchange.{Outcome, outcome}
use Rattle.c2_wire.specs.Step.{reset, pause, drives}
use Rattle.c2_wire.specs.Field.{RESET, PAUSE, master}
use Rattle.c2_wire.specs.Frames.{sends, ins_code, frame}
use Rattle.c2_wire.specs.declared.Frame.{Frame}
use Rattle.c2_wire.specs.declared.Frame.TheVariants.{AddressWrite, DataWrite}
use Rattle.c2_wire.proofs.Laws.Bits.{bytes_take, bytes_drop}
use Rattle.c2_wire.proofs.Laws.Place.{Whole}
use Rattle.c2_wire.proofs.Laws.Frames.{masters, masters_frame, whole_address_write, whole_data_write, whole_step}
use Rattle.settings.specs.declared.Settings.{Settings}
use Rattle.settings.specs.Accepted.{tidied}
use Rattle.settings.specs.Registers.{Pair, pairs_of}
use Rattle.settings.proofs.Laws.Registers.{tidy_pairs}
use Rattle.c2_order.specs.Acts.{Act, poll, expect, reset_pulse, pause_20_ms, address_write, data_write, input_taken, output_ready, put, get, status, puts, compares, Block, erase, block_command, block_write, block_read}
use Rattle.c2_order.specs.Order.{Page, pages, blocks, joined, lead, pair_acts, preparation, page_acts, order, session_order}
use Rattle.c2_order.specs.Claims.{LastNumber}
use Rattle.c2_order.proofs.Laws.Valid.{Framed, Sound, Every, none, more, ◌then◌}

-- a fact of each kind of act that orders are made of
pub record Ground (P : Act → Type 0) : Type 0 where
  pub resets : P reset_pulse
  pub pauses : P pause_20_ms
  pub addresses : (a : ℕ) → P (address_write a)
  pub writes : (b : ℕ) → P (data_write b)
  pub takes : P (poll input_taken)
  pub readies : P (poll output_ready)
  pub expects : (x : ℕ) (o : Outcome) → x < 256 → LastNumber o.number → P (expect x o)

module _ (P : Act → Type 0) (g : Ground P) where
  every_put : (b : ℕ) → Every P (put b)
  unfolding put
  every_put b = more (g.writes b) (more g.takes none)

  every_get : (b : ℕ) (o : Outcome) → b < 256 → LastNumber o.number → Every P (get b o)
  unfolding get
  every_get b o h e = more g.readies (more (g.expects b o h e) none)

  every_status : Every P status
  unfolding status
  every_status = every_get 13 (outcome bad_status) (omega arith) (inr (omega arith, omega arith))

  every_puts : (bs : List ℕ) → Every P (puts bs)
  unfolding puts
  every_puts [] = none
  every_puts (b ∷ bs) = every_put b then every_puts bs

  every_compares : (o : ℕ) (bs : List ℕ) → Bytes bs → Every P (compares o bs)
  unfolding compares
  every_compares o [] h = none
  every_compares o (b ∷ bs) h = every_get b (record { number = compare_differs; offset = o }) h.0 (inr (omega arith, omega arith)) then every_compares (suc o) bs h.1

  pub every_erase : (f p : ℕ) → Every P (erase f p)
  unfolding erase
  every_erase f p = more (g.addresses f) (every_put 8) then every_status then every_put p then every_status then every_put 0 then every_status

  every_command : (f c : ℕ) (b : Block) → Every P (block_command f c b)
  unfolding block_command
  every_command f c b = more (g.addresses f) (every_put c) then every_status then every_put _ then every_put _ then every_put _

  pub every_block_write : (f : ℕ) (b : Block) → Every P (block_write f b)
  unfolding block_write
  every_block_write f b = every_command f 7 b then every_puts b.bytes then every_status

  pub every_block_read : (f : ℕ) (b : Block) → Bytes b.bytes → Every P (block_read f b)
  unfolding block_read
  every_block_read f b h = every_command f 6 b then every_status then every_compares b.offset b.bytes h

  pub every_blocks : (acts : Block → List Act) → ((b : Block) → Bytes b.bytes → Every P (acts b)) → (n a o : ℕ) (bs : List ℕ) → Bytes bs
      → Every P (joined (map acts (blocks n a o bs)))
  unfolding blocks joined
  every_blocks acts f zero a o bs h = none
  every_blocks acts f (suc n) a o bs h =
      f (record { address = a; offset = o; bytes = take 256 bs }) (bytes_take 256 bs h)
      then every_blocks acts f n (a + 256) (o + 256) (drop 256 bs) (bytes_drop 256 bs h)

  pub every_page : (s : Settings) (p : Page) → Bytes p.bytes → Every P (page_acts s p)
  unfolding page_acts
  every_page s p h =
      every_erase s.fpdat p.number
      then every_blocks (block_write s.fpdat) (λ b _. every_block_write s.fpdat b) (s.size / 256) (p.number * s.size) p.offset p.bytes h
      then every_blocks (block_read s.fpdat) (every_block_read s.fpdat) (s.size / 256) (p.number * s.size) p.offset p.bytes h

  pub every_pages : (s : Settings) (o : ℕ) (ns bs : List ℕ) → Bytes bs → Every P (joined (map (page_acts s) (pages s.size o ns bs)))
  unfolding pages joined
  every_pages s o [] bs h = none
  every_pages s o (n ∷ ns) bs h =
      every_page s (record { number = n; offset = o; bytes = take s.size bs }) (bytes_take s.size bs h)
      then every_pages s (o + s.size) ns (drop s.size bs) (bytes_drop s.size bs h)

  pub every_lead : (s : Settings) → s.id < 256 → Every P (lead s)
  unfolding lead
  every_lead s h =
      more g.resets (more (g.expects s.id (outcome other_device) h (inr (omega arith, omega arith))) (more g.resets (more (g.addresses 2)
      (more (g.writes 2) (more (g.writes 4) (more (g.writes 1) (more g.pauses none)))))))

  pub every_pairs : (ps : List Pair) → Every P (joined (map pair_acts ps))
  unfolding joined pair_acts
  every_pairs [] = none
  every_pairs (p ∷ ps) = more (g.addresses p.register) (more (g.writes p.value) (every_pairs ps))

  every_preparation : (s : Settings) → s.id < 256 → Every P (preparation s)
  unfolding preparation
  every_preparation s h = every_lead s h then every_pairs (pairs_of s.pairs)

  pub every_session : (s : Settings) → s.id < 256 → (first : ℕ) (image : List ℕ) → Bytes image → Every P (session_order s first image)
  unfolding session_order order
  every_session s i first image h = every_preparation s i then every_pages s 0 _ image h then more g.resets none

-- what a session keeps of settings has their order
pub tidied_order : (t : Settings) (first : ℕ) (image : List ℕ) → t.pairs.count ≤ 4 → session_order (tidied t) first image ≡ session_order t first image
unfolding session_order order preparation lead page_acts
tidied_order t first image h = rw (tidy_pairs t.pairs h)

-- the acts that orders are made of are sound
pub sound : Ground Sound
unfolding frame sends ins_code bits masters drives master
sound =
    let of_frame : (f : Frame) (a : ℕ) → Whole 1 (frame f a) → 0 < length (frame f a) → Framed (frame f a)
    = λ f a w h. record { whole = w; some = h; own = masters_frame f a } in
    record {
      resets = record { whole = whole_step RESET reset; some = omega arith; own = refl };
      pauses = record { whole = whole_step PAUSE pause; some = omega arith; own = refl };
      addresses = λ a. of_frame AddressWrite a (whole_address_write a) (omega arith);
      writes = λ b. of_frame DataWrite b (whole_data_write b) (omega arith);
      takes = tt;
      readies = tt;
      expects = λ x o h e. tt;
    }

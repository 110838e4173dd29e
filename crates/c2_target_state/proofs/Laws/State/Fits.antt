-- The state of a target that exists says that target: its numbers fit their fields.
use mathlib.Core.Path.{◌≡◌, refl}
use mathlib.Core.Bool.{Bool, true, ◌&&◌, ◌||◌}
use mathlib.Core.List.{List}
use Prim.Native.Nat.{ℕ, ◌+◌, ◌*◌, ◌%◌, ◌^◌, ◌<◌, ◌≤◌}
use native.Mathlib.Nat.{mod-eq_of_lt, pow-le-pow_right}
use native.Mathlib.Omega.{arith}
use Rattle.std.proofs.lemmas.Bool.Decides.{nat_tests}
use borrow.Author.Tests.{ltb-true, leb-true, eqb-true}
use lib.Dec.{eqb, ltb, leb}
use lib.ListN.{length}
use Rattle.laws.proofs.Tests.{both, by_test, passes}
use Rattle.numbers.specs.Numbers.{bad_fpdat, bad_page_size, bad_page_count}
use Rattle.c2_wire.specs.Bits.{bit}
use Rattle.settings.specs.declared.Settings.{Settings}
use Rattle.settings.specs.declared.Pairs.{Pairs}
use Rattle.settings.specs.Accepted.{is_fpdat, is_page_size, is_page_count, settings_refusal}
use Rattle.c2_target.specs.declared.Command.{Command}
use Rattle.c2_target.specs.declared.Command.TheVariants.{Ready, ErasePage, EraseConfirm, High, Low, LengthCode, Byte, PastEnd}
use Rattle.c2_target.specs.declared.Output.{Output}
use Rattle.c2_target.specs.declared.Output.TheVariants.{Empty, Status, StatusBlock, Block}
use Rattle.c2_target.specs.declared.Effect.{Effect}
use Rattle.c2_target.specs.declared.Effect.TheVariants.{Nothing, SetAddress, Write, CountDown, Read}
use Rattle.c2_target.specs.declared.Point.{Point}
use Rattle.c2_target.specs.declared.Point.TheVariants.{Start, Ins, WriteLength, ReadLength, Address, Data, LongData, Wait, Waiting, Send, Stop}
use Rattle.c2_target.specs.declared.Met.{Met}
use Rattle.c2_target.specs.declared.Device.{Device}
use Rattle.c2_target.specs.declared.Target.{Target}
use Rattle.c2_target.specs.Delays.{setup}
use Rattle.c2_target.specs.Interface.{link, device}
use Rattle.c2_target.specs.Strobes.{target}
use Rattle.c2_target.specs.Known.{hearing, is_byte, known_effect, after_its_wait, is_sent, known_point, is_count, known_block, known_command, known_output, known_link, known}
use Rattle.c2_target.proofs.Laws.Known.{known_says, three_keys}
use Rattle.c2_target_state.specs.State.{effect_code, effect_byte, point_fields, command_fields, output_fields, state_of, effect_of, later_point, state_point, command_of, output_of, met_of, target_read}
use Rattle.c2_target_step.proofs.Laws.Known.{hearing_bytes, byte_says, block_says}

bit_back : (b : Bool) → eqb (bit b) 1 ≡ b
unfolding bit
bit_back b = grind (arith, nat_tests)

-- what a frame does at its STOP is read back
effect_back : (e : Effect) → known_effect e ≡ true → effect_of (effect_code e) (effect_byte e) ≡ e
unfolding effect_of effect_code effect_byte known_effect
effect_back Nothing k = refl
effect_back (SetAddress a) k = let h = byte_says a k in rw (mod-eq_of_lt h)
effect_back (Write b) k = let h = byte_says b k in rw (mod-eq_of_lt h)
effect_back CountDown k = refl
effect_back Read k = refl

-- the bits after a WAIT fit a byte
long_bits : (n : ℕ) → (eqb n 0 || (eqb n 16 || (eqb n 24 || eqb n 32))) ≡ true → n < 256
long_bits n k = grind (arith, nat_tests)

waits_effect : (n : ℕ) (e : Effect) → after_its_wait n e ≡ true → (n < 256) × (known_effect e ≡ true)
unfolding after_its_wait known_effect
waits_effect n Nothing k = (long_bits n k, refl)
waits_effect n (SetAddress a) k = cc
waits_effect n (Write b) k = let h = both (eqb n 0) (is_byte b) k in let z = eqb-true n 0 h.0 in (omega arith, h.1)
waits_effect n CountDown k = cc
waits_effect n Read k = let z = eqb-true n 8 k in (omega arith, refl)

-- bits that are sent fit a byte, and so does their value
sent_byte : (n v : ℕ) → (leb n 8 && ltb v (2 ^ n)) ≡ true → (n < 256) × (v < 256)
sent_byte n v k =
    let h = both (leb n 8) (ltb v (2 ^ n)) k in
    let a : n ≤ 8 = leb-true n 8 h.0 in
    let b : v < 2 ^ n = ltb-true v (2 ^ n) h.1 in
    let p = pow-le-pow_right {n = 2} (omega arith) {i = n} {j = 8} a in
    (omega arith, omega arith)

record Sent (n v : ℕ) (e : Effect) : Type 0 where
  pub left : n < 256
  pub value : v < 256
  pub effect : known_effect e ≡ true

sent_effect : (n v : ℕ) (e : Effect) → is_sent n v e ≡ true → Sent n v e
unfolding is_sent known_effect
sent_effect n v Nothing k =
    let h = both (leb n 32) (eqb v 0) k in
    let a = leb-true n 32 h.0 in
    let b = eqb-true v 0 h.1 in
    record { left = omega arith; value = omega arith; effect = refl }
sent_effect n v (SetAddress a) k = cc
sent_effect n v (Write b) k = cc
sent_effect n v CountDown k = let h = sent_byte n v k in record { left = h.0; value = h.1; effect = refl }
sent_effect n v Read k = let h = sent_byte n v k in record { left = h.0; value = h.1; effect = refl }

heard_back : (w n v : ℕ) → w ≤ 8 → hearing w n v ≡ true → (n % 256 ≡ n) × (v % 256 ≡ v)
heard_back w n v h k = let g = hearing_bytes w n v h k in (mod-eq_of_lt (omega arith), mod-eq_of_lt g.1)

-- the point is read back, whatever stands beside it
module _ (place : ℕ) (mark : Bool) (d : Device) where
  point_back : (l : ℕ) → l < 256 → (p : Point) → known_point l p ≡ true → state_point (state_of (target p place mark d)) ≡ p
  unfolding known_point state_point later_point state_of point_fields
  point_back l few Start k = refl
  point_back l few (Ins n v) k = let h = heard_back 2 n v (omega arith) k in rw (h.0, h.1)
  point_back l few (WriteLength n v) k = let h = heard_back 2 n v (omega arith) k in rw (h.0, h.1)
  point_back l few (ReadLength n v) k = let h = heard_back 2 n v (omega arith) k in rw (h.0, h.1)
  point_back l few (Address n v) k = let h = heard_back 8 n v (omega arith) k in rw (h.0, h.1)
  point_back l few (Data n v) k = let h = heard_back 8 n v (omega arith) k in rw (h.0, h.1)
  point_back l few (LongData n) k =
      let h = leb-true n 32 (both (leb 1 n) (leb n 32) k).1 in
      let e : n % 256 ≡ n = mod-eq_of_lt (omega arith) in
      rw e
  point_back l few (Wait n e) k = let h = waits_effect n e k in rw (mod-eq_of_lt h.0, effect_back e h.1)
  point_back l few (Waiting z n e) k =
      let g = both (ltb (z + 1) l) (after_its_wait n e) k in
      let h = waits_effect n e g.1 in
      let m = ltb-true (z + 1) l g.0 in
      let i : z % 256 ≡ z = mod-eq_of_lt (omega arith) in
      rw (i, mod-eq_of_lt h.0, effect_back e h.1)
  point_back l few (Send n v e) k =
      let h = sent_effect n v e (both (leb 1 n) (is_sent n v e) k).1 in
      rw (mod-eq_of_lt h.left, mod-eq_of_lt h.value, effect_back e h.effect)
  point_back l few (Stop e) k = rw (effect_back e k)

count_says : (n : ℕ) → is_count n ≡ true → n ≤ 256
unfolding is_count
count_says n k = leb-true n 256 (both (leb 1 n) (leb n 256) k).1

-- a block in a flash of at most 65,536 bytes fits two bytes each for address and length
block_back : (end a n : ℕ) → end ≤ 65536 → known_block end a n ≡ true → (a % 65536 ≡ a) × (n % 65536 ≡ n)
unfolding known_block
block_back end a n h k =
    let g = block_says end a n k in
    let c = count_says n (both (is_count n) (leb (a + n) end) k).0 in
    (mod-eq_of_lt (omega arith), mod-eq_of_lt (omega arith))

-- the command and the output are read back
module _ (p : Point) (place : ℕ) (mark : Bool) (address : ℕ) (on : Bool) (keys : ℕ) (met : Met) (busy late : ℕ) (end : ℕ) (small : end ≤ 65536) where
  command_back : (pages : ℕ) → pages ≤ 256 → (c : Command) (o : Output) → known_command pages end c ≡ true
      → command_of (state_of (target p place mark (device address on keys met (link c o busy late)))) ≡ c
  unfolding known_command command_of state_of command_fields
  command_back pages few Ready o k = refl
  command_back pages few ErasePage o k = refl
  command_back pages few (EraseConfirm q) o k =
      let h = ltb-true q pages k in
      let e : q % 256 ≡ q = mod-eq_of_lt (omega arith) in
      rw e
  command_back pages few (High w) o k = rw (bit_back w)
  command_back pages few (Low w h) o k = let g = byte_says h k in rw (bit_back w, mod-eq_of_lt g)
  command_back pages few (LengthCode w a) o k = let g = ltb-true a 65536 k in rw (bit_back w, mod-eq_of_lt g)
  command_back pages few (Byte a n) o k = let h = block_back end a n small k in rw (h.0, h.1)
  command_back pages few (PastEnd n) o k =
      let h = count_says n k in
      let e : n % 65536 ≡ n = mod-eq_of_lt (omega arith) in
      rw e

  output_back : (c : Command) (o : Output) → known_output end o ≡ true
      → output_of (state_of (target p place mark (device address on keys met (link c o busy late)))) ≡ o
  unfolding known_output output_of state_of output_fields
  output_back c Empty k = refl
  output_back c (Status ok) k = rw (bit_back ok)
  output_back c (StatusBlock a n) k = let h = block_back end a n small k in rw (h.0, h.1)
  output_back c (Block a n) k = let h = block_back end a n small k in rw (h.0, h.1)

-- the sizes of accepted settings
record Sized (s : Settings) : Type 0 where
  pub bytes : s.size * s.count ≤ 65536
  pub pages : s.count ≤ 128

sized : (s : Settings) → settings_refusal s ≡ 0 → Sized s
unfolding settings_refusal is_page_size is_page_count
sized s h =
    let a = passes (is_fpdat s.fpdat) _ bad_fpdat (omega arith) h in
    let b = passes (eqb s.size 512 || eqb s.size 1024) _ bad_page_size (omega arith) a.1 in
    let c = passes (leb 1 s.count && leb (s.size * s.count) 65536) _ bad_page_count (omega arith) b.1 in
    let m = leb-true (s.size * s.count) 65536 (both (leb 1 s.count) (leb (s.size * s.count) 65536) c.0).1 in
    record { bytes = m; pages = pages_few s.size s.count b.0 m }
  where
    pages_few : (size count : ℕ) → (eqb size 512 || eqb size 1024) ≡ true → size * count ≤ 65536 → count ≤ 128
    pages_few size count k m =
        by_test (eqb size 512) (λ e. let w = rw (eqb-true size 512 e) at m in omega arith)
        (λ e. let w = rw (eqb-true size 1024 (rw e at k)) at m in omega arith)

-- a target is read back if its parts are
parts : (t : Target) → state_point (state_of t) ≡ t.point → command_of (state_of t) ≡ t.device.link.command → output_of (state_of t) ≡ t.device.link.output
    → t.device.address % 256 ≡ t.device.address → t.device.keys % 256 ≡ t.device.keys → t.device.link.busy % 256 ≡ t.device.link.busy
    → t.device.link.late % 256 ≡ t.device.link.late → target_read (state_of t) ≡ t
unfolding target_read met_of state_of
parts t p c o a y b e =
    let m = t.device.met in
    rw (p, c, o, bit_back t.collision, bit_back t.device.on, a, y, b, e, bit_back m.first, bit_back m.second, bit_back m.third, bit_back m.fourth)

-- a target that exists is read back
pub target_back : (s : Settings) (w : Pairs) (t : Target) (f ds : List ℕ) → settings_refusal s ≡ 0 → s.wait < 256 → known (setup s w ds) t f ≡ true
    → target_read (state_of t) ≡ t
unfolding target_read known_link is_byte
target_back s pairs t f ds r byte k =
    let d = t.device in
    let l = d.link in
    let z = sized s r in
    let w = known_says (setup s pairs ds) t f k in
    let k1 = both (known_command s.count (length f) l.command) _ w.device.link in
    let k2 = both (known_output (length f) l.output) _ k1.1 in
    let k3 = both (ltb l.busy 256) (ltb l.late 256) k2.1 in
    let few : s.count ≤ 256 = omega (arith, z.pages) in
    let small : length f ≤ 65536 = omega (arith, z.bytes, w.flash) in
    let p = point_back t.place t.collision d s.wait byte t.point w.point in
    let c = command_back t.point t.place t.collision d.address d.on d.keys d.met l.busy l.late (length f) small s.count few l.command l.output k1.0 in
    let o = output_back t.point t.place t.collision d.address d.on d.keys d.met l.busy l.late (length f) small l.command l.output k2.0 in
    let a : d.address % 256 ≡ d.address = mod-eq_of_lt (ltb-true d.address 256 w.device.address) in
    let y : d.keys % 256 ≡ d.keys = mod-eq_of_lt (omega (arith, three_keys t.point d.keys w.keys)) in
    let b : l.busy % 256 ≡ l.busy = mod-eq_of_lt (ltb-true l.busy 256 k3.0) in
    let e : l.late % 256 ≡ l.late = mod-eq_of_lt (ltb-true l.late 256 k3.1) in
    parts t p c o a y b e

-- A strobe leads from a point that a frame has to another.
use mathlib.Core.Path.{◌≡◌, refl}
use mathlib.Core.Bool.{Bool, true, false, cond, ◌&&◌, ◌||◌}
use mathlib.Core.List.{List}
use Prim.Native.Nat.{ℕ, zero, suc, ◌+◌, ◌-◌, ◌*◌, ◌/◌, ◌^◌, ◌<◌, ◌≤◌}
use native.Mathlib.Nat.{pow-suc}
use native.Mathlib.Numerals.{add-one}
use native.Mathlib.Omega.{arith}
use borrow.Author.Tests.{ltb-true, ltb-false, leb-true, eqb-true, eqb-false, lt-ltb, le-leb, eq-eqb}
use lib.Dec.{eqb, ltb, leb, eqb-suc-zero}
use Rattle.laws.proofs.Tests.{both, by_test}
use Rattle.c2_wire.specs.Bits.{bit}
use Rattle.c2_wire.specs.Frames.{ins_code}
use Rattle.c2_wire.specs.declared.Frame.TheVariants.{AddressRead, DataWrite, DataRead}
use Rattle.settings.specs.declared.Settings.{Settings}
use Rattle.c2_target.specs.declared.Effect.{Effect}
use Rattle.c2_target.specs.declared.Effect.TheVariants.{Nothing, SetAddress, Write, CountDown, Read}
use Rattle.c2_target.specs.declared.Point.TheVariants.{LongData, Send}
use Rattle.c2_target.specs.declared.Device.{Device}
use Rattle.c2_target.specs.Delays.{Setup}
use Rattle.c2_target.specs.Interface.{shown, given}
use Rattle.c2_target.specs.Strobes.{sending, frame_begins, after_ins, after_write_length, after_read_length, after_address, after_data, after_long_data, value_sent, after_wait}
use Rattle.c2_target.specs.Known.{hearing, is_byte, known_effect, after_its_wait, is_sent, known_point}

pub and_true : {a b : Bool} → a ≡ true → b ≡ true → (a && b) ≡ true
and_true p q = rw (p, q)

pub not_both : false ≡ true → ⊥
not_both e = let z : ◌≡◌ {A = ℕ} 0 1 = cc in omega arith

hearing_is : (w n v : ℕ) → n < w → v < 2 ^ n → hearing w n v ≡ true
unfolding hearing
hearing_is w n v h g = and_true (lt-ltb n w h) (lt-ltb v (2 ^ n) g)

-- bits heard are fewer than the field has, and their value fits them
pub hearing_says : (w n v : ℕ) → hearing w n v ≡ true → (n < w) × (v < 2 ^ n)
unfolding hearing
hearing_says w n v e = let h = both (ltb n w) (ltb v (2 ^ n)) e in (ltb-true n w h.0, ltb-true v (2 ^ n) h.1)

-- a value with one bit more, above those heard, fits one bit more
one_more : (n v : ℕ) (b : Bool) → v < 2 ^ n → v + bit b * 2 ^ n < 2 ^ (n + 1)
unfolding bit
one_more n v true h = rw add-one (omega (arith, pow-suc 2 n))
one_more n v false h = rw add-one (omega (arith, pow-suc 2 n))

-- the last bit of a field: all of its bits are heard
all_heard : (w n v : ℕ) (b : Bool) → hearing w n v ≡ true → ltb (n + 1) w ≡ false → v + bit b * 2 ^ n < 2 ^ w
all_heard w n v b k e =
    let h = hearing_says w n v k in
    let m : n + 1 ≡ w = omega (arith, ltb-false (n + 1) w e) in
    rw m at (one_more n v b h.1)

more_heard : (w n v : ℕ) (b : Bool) → hearing w n v ≡ true → ltb (n + 1) w ≡ true → hearing w (n + 1) (v + bit b * 2 ^ n) ≡ true
more_heard w n v b k e = hearing_is w (n + 1) (v + bit b * 2 ^ n) (ltb-true (n + 1) w e) (one_more n v b (hearing_says w n v k).1)

module _ (l : ℕ) where
  begins_known : (s : Settings) (d : Device) (v : ℕ) → shown s d < 256 → known_point l (frame_begins s d v) ≡ true
  unfolding frame_begins sending known_point is_sent hearing
  begins_known s d v h =
      by_test (eqb v (ins_code DataRead)) (λ e. rw e)
      (λ e. rw e (by_test (eqb v (ins_code DataWrite)) (λ e. rw e)
      (λ e. rw e (by_test (eqb v (ins_code AddressRead)) (λ e. rw e (lt-ltb (shown s d) 256 h)) (λ e. rw e)))))

  pub ins_known : (s : Settings) (d : Device) (n v : ℕ) (b : Bool) → shown s d < 256 → hearing 2 n v ≡ true
      → known_point l (after_ins s d (n + 1) (v + bit b * 2 ^ n)) ≡ true
  unfolding after_ins known_point
  ins_known s d n v b h k =
      by_test (ltb (n + 1) 2) (λ e. rw e (more_heard 2 n v b k e)) (λ e. rw e (begins_known s d (v + bit b * 2 ^ n) h))

  pub write_length_known : (n v : ℕ) (b : Bool) → hearing 2 n v ≡ true → known_point l (after_write_length (n + 1) (v + bit b * 2 ^ n)) ≡ true
  unfolding after_write_length known_point hearing
  write_length_known n v b k =
      by_test (ltb (n + 1) 2) (λ e. rw e (more_heard 2 n v b k e))
      (λ e. rw e (by_test (eqb (v + bit b * 2 ^ n) 0) (λ z. rw z)
      (λ z. rw z (long (v + bit b * 2 ^ n) (all_heard 2 n v b k e)))))
    where
      long : (x : ℕ) → x < 4 → (leb 1 (8 * (x + 1)) && leb (8 * (x + 1)) 32) ≡ true
      long x h = and_true (le-leb 1 (8 * (x + 1)) (omega arith)) (le-leb (8 * (x + 1)) 32 (omega arith))

  pub read_length_known : (n v : ℕ) (b : Bool) → hearing 2 n v ≡ true → known_point l (after_read_length (n + 1) (v + bit b * 2 ^ n)) ≡ true
  unfolding after_read_length known_point after_its_wait
  read_length_known n v b k =
      by_test (ltb (n + 1) 2) (λ e. rw e (more_heard 2 n v b k e)) (λ e. rw e (go (v + bit b * 2 ^ n) (all_heard 2 n v b k e)))
    where
      go : (x : ℕ) → x < 4 → after_its_wait (8 * (x + 1)) (cond (eqb x 0) Read Nothing) ≡ true
      go zero h = refl
      go (suc zero) h = refl
      go (suc (suc zero)) h = refl
      go (suc (suc (suc zero))) h = refl
      go (suc (suc (suc (suc x)))) h = absurd (omega arith)

  pub address_known : (n v : ℕ) (b : Bool) → hearing 8 n v ≡ true → known_point l (after_address (n + 1) (v + bit b * 2 ^ n)) ≡ true
  unfolding after_address known_point known_effect is_byte
  address_known n v b k =
      by_test (ltb (n + 1) 8) (λ e. rw e (more_heard 8 n v b k e)) (λ e. rw e (lt-ltb _ 256 (all_heard 8 n v b k e)))

  pub data_known : (n v : ℕ) (b : Bool) → hearing 8 n v ≡ true → known_point l (after_data (n + 1) (v + bit b * 2 ^ n)) ≡ true
  unfolding after_data known_point after_its_wait is_byte
  data_known n v b k =
      by_test (ltb (n + 1) 8) (λ e. rw e (more_heard 8 n v b k e)) (λ e. rw e (lt-ltb _ 256 (all_heard 8 n v b k e)))

  pub long_data_known : (n : ℕ) → known_point l (LongData n) ≡ true → known_point l (after_long_data n) ≡ true
  unfolding after_long_data known_point after_its_wait
  long_data_known n k =
      let h = both (leb 1 n) (leb n 32) k in
      by_test (ltb 1 n)
      (λ e. rw e (and_true (le-leb 1 (n - 1) (omega (arith, ltb-true 1 n e))) (le-leb (n - 1) 32 (omega (arith, leb-true n 32 h.1)))))
      (λ e. rw e)

  -- the point before bits are sent, or the STOP, exists
  send_known : (n v : ℕ) (e : Effect) → known_effect e ≡ true → (1 ≤ n → is_sent n v e ≡ true) → known_point l (sending n v e) ≡ true
  unfolding sending known_point
  send_known zero v e k h = k
  send_known (suc n) v e k h = rw (eqb-suc-zero n) (and_true (le-leb 1 (suc n) (omega arith)) (h (omega arith)))

  pub sent_known : (n v : ℕ) (e : Effect) → known_point l (Send n v e) ≡ true → known_point l (sending (n - 1) (v / 2) e) ≡ true
  unfolding known_point known_effect is_sent
  sent_known n v e k =
      let h = both (leb 1 n) (is_sent n v e) k in
      go e (leb-true 1 n h.0) h.1
    where
      halved : 1 ≤ n → (leb n 8 && ltb v (2 ^ n)) ≡ true → (leb (n - 1) 8 && ltb (v / 2) (2 ^ (n - 1))) ≡ true
      halved one k =
          let h = both (leb n 8) (ltb v (2 ^ n)) k in
          let m : suc (n - 1) ≡ n = omega arith in
          let g : v < 2 ^ suc (n - 1) = rw m (ltb-true v (2 ^ n) h.1) in
          and_true (le-leb (n - 1) 8 (omega (arith, leb-true n 8 h.0))) (lt-ltb (v / 2) (2 ^ (n - 1)) (omega (arith, pow-suc 2 (n - 1))))

      go : (e : Effect) → 1 ≤ n → is_sent n v e ≡ true → known_point l (sending (n - 1) (v / 2) e) ≡ true
      go Nothing one k =
          let h = both (leb n 32) (eqb v 0) k in
          send_known (n - 1) (v / 2) Nothing refl
          (λ _. and_true (le-leb (n - 1) 32 (omega (arith, leb-true n 32 h.0))) (eq-eqb (v / 2) 0 (omega (arith, eqb-true v 0 h.1))))
      go (SetAddress a) one k = absurd (not_both k)
      go (Write b) one k = absurd (not_both k)
      go CountDown one k = send_known (n - 1) (v / 2) CountDown refl (λ _. halved one k)
      go Read one k = send_known (n - 1) (v / 2) Read refl (λ _. halved one k)

  -- the point after a strobe of a WAIT exists, where fewer zeros are left than the limit
  pub wait_known : (u : Setup) (z n : ℕ) (e : Effect) (d : Device) (f : List ℕ) → given u.settings d f < 256 → z < l → after_its_wait n e ≡ true
      → known_point l (after_wait u z n e d f) ≡ true
  unfolding after_wait known_point known_effect is_sent after_its_wait value_sent
  wait_known u z n e d f g h k =
      by_test (eqb z 0) (λ q. rw q (go e k)) (λ q. rw q (and_true (lt-ltb (z - 1 + 1) l (omega (arith, eqb-false z 0 q))) k))
    where
      few : (eqb n 0 || (eqb n 16 || (eqb n 24 || eqb n 32))) ≡ true → n ≤ 32
      few k =
          by_test (eqb n 0) (λ e. omega (arith, eqb-true n 0 e))
          (λ a. by_test (eqb n 16) (λ e. omega (arith, eqb-true n 16 e))
          (λ b. by_test (eqb n 24) (λ e. omega (arith, eqb-true n 24 e))
          (λ c. omega (arith, eqb-true n 32 (rw (a, b, c) at k)))))

      go : (e : Effect) → after_its_wait n e ≡ true → known_point l (sending n (value_sent u e d f) e) ≡ true
      go Nothing k = send_known n 0 Nothing refl (λ _. and_true (le-leb n 32 (few k)) refl)
      go (SetAddress a) k = absurd (not_both k)
      go (Write b) k =
          let h = both (eqb n 0) (is_byte b) k in
          send_known n 0 (Write b) h.1 (λ q. absurd (omega (arith, eqb-true n 0 h.0)))
      go CountDown k = absurd (not_both k)
      go Read k =
          let h : n ≡ 8 = eqb-true n 8 k in
          send_known n (given u.settings d f) Read refl
          (λ _. rw h (lt-ltb (given u.settings d f) 256 g))

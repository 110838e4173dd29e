-- Laws of the map of bits.
use mathlib.Core.Path.{◌≡◌, refl, sym, ap, ◌∙◌}
use mathlib.Core.List.{List}
use Prim.Native.Nat.{ℕ, zero, suc, ◌+◌, ◌*◌, ◌/◌, ◌%◌, ◌^◌, ◌≤◌, ◌<◌}
use native.Mathlib.Omega.{arith}
use native.Mathlib.Decide.{dec_lt, ℕ_discrete}
use native.Mathlib.Nat.{div-div-eq-div-mul, pow-succ', zero-div}
use lib.ListN.{length, get_or, set, replicate, get_or-replicate, get_or-eq_default, length-replicate}
use lib.Seq.{get_or-set_same, get_or-set_other}
use Rattle.laws.proofs.Below.{same_below}
use Rattle.hex_read.specs.Code.Map.{map_bit, marked_at, Run, Clash}

-- a higher bit is a bit of the half
half : (b k : ℕ) → map_bit b (suc k) ≡ map_bit (b / 2) k
unfolding map_bit
half b k = ap (λ n. b / n % 2) (pow-succ' 2 k) ∙ ap (λ n. n % 2) (sym (div-div-eq-div-mul b 2 (2 ^ k)))

halves : (b k : ℕ) → (b + 2 ^ suc k) / 2 ≡ b / 2 + 2 ^ k
halves b k = ap (λ n. (b + n) / 2) (pow-succ' 2 k) ∙ omega arith

bit_zero : (b : ℕ) → map_bit b 0 ≡ b % 2
unfolding map_bit
bit_zero b = ap (λ n. n % 2) (omega arith)

one_zero : 2 ^ 0 ≡ 1
one_zero = refl

-- the bit that is added, the others, and the room for it
pub bit_same : (b k : ℕ) → map_bit b k ≡ 0 → map_bit (b + 2 ^ k) k ≡ 1
bit_same b zero e = let z = bit_zero b in bit_zero (b + 1) ∙ omega arith
bit_same b (suc k) e = half (b + 2 ^ suc k) k ∙ ap (λ n. map_bit n k) (halves b k) ∙ bit_same (b / 2) k (sym (half b k) ∙ e)

pub bit_other : (b k j : ℕ) → map_bit b k ≡ 0 → (j ≡ k → ⊥) → map_bit (b + 2 ^ k) j ≡ map_bit b j
bit_other b zero zero e n = absurd (n refl)
bit_other b zero (suc j) e n =
    let z = bit_zero b in
    half (b + 1) j ∙ ap (λ x. map_bit x j) (let y : (b + 1) / 2 ≡ b / 2 = omega arith in y) ∙ sym (half b j)
bit_other b (suc k) zero e n =
    bit_zero (b + 2 ^ suc k) ∙ ap (λ x. (b + x) % 2) (pow-succ' 2 k) ∙ omega arith ∙ sym (bit_zero b)
bit_other b (suc k) (suc j) e n =
    half (b + 2 ^ suc k) j ∙ ap (λ x. map_bit x j) (halves b k) ∙ bit_other (b / 2) k j (sym (half b k) ∙ e) (λ q. n (ap suc q)) ∙ sym (half b j)

pub bit_room : (w b k : ℕ) → b < 2 ^ w → k < w → map_bit b k ≡ 0 → b + 2 ^ k < 2 ^ w
bit_room zero b k h l e = absurd (omega arith)
bit_room (suc w) b zero h l e = let p = pow-succ' 2 w in let z = bit_zero b in omega (arith, one_zero)
bit_room (suc w) b (suc k) h l e =
    let p = pow-succ' 2 w in
    let q = pow-succ' 2 k in
    let r = bit_room w (b / 2) k (omega arith) (omega arith) (sym (half b k) ∙ e) in
    omega arith

-- a shift of 1 by less than 8 stays in a byte
pub shifted : (k : ℕ) → k < 8 → (1 * 2 ^ k) % 256 ≡ 2 ^ k
shifted k h = same_below (λ k. (1 * 2 ^ k) % 256) (λ k. 2 ^ k) 8 refl k h

-- a map with nothing marked
pub clear_marked : (n k : ℕ) → marked_at (replicate n 0) k ≡ 0
unfolding marked_at map_bit
clear_marked n k = ap (λ x. x / 2 ^ (k % 8) % 2) (zeros (dec_lt (k / 8) n)) ∙ none (k % 8)
  where
    zeros : Dec (k / 8 < n) → ◌≡◌ {A = ℕ} (get_or (replicate n 0) (k / 8) 0) 0
    zeros (yes y) = get_or-replicate n (k / 8) 0 0 y
    zeros (no y) = get_or-eq_default (replicate n 0) 0 {n = k / 8} (rw (length-replicate {A = ℕ} n 0) (omega arith))

    none : (j : ℕ) → 0 / 2 ^ j % 2 ≡ 0
    none j = ap (λ x. x % 2) (zero-div (2 ^ j))

-- one address more
module _ (m : List ℕ) (k : ℕ) (h : k / 8 < length m) (e : map_bit (get_or m (k / 8) 0) (k % 8) ≡ 0) where
  pub mark_same : marked_at (set m (k / 8) (get_or m (k / 8) 0 + 2 ^ (k % 8))) k ≡ 1
  unfolding marked_at
  mark_same =
      ap (λ b. map_bit b (k % 8)) (get_or-set_same m (k / 8) (get_or m (k / 8) 0 + 2 ^ (k % 8)) 0 h)
      ∙ bit_same (get_or m (k / 8) 0) (k % 8) e

  pub mark_other : (j : ℕ) → (j ≡ k → ⊥) → marked_at (set m (k / 8) (get_or m (k / 8) 0 + 2 ^ (k % 8))) j ≡ marked_at m j
  unfolding marked_at
  mark_other j n = go (ℕ_discrete (j / 8) (k / 8))
    where
      go : Dec (j / 8 ≡ k / 8) → map_bit (get_or (set m (k / 8) (get_or m (k / 8) 0 + 2 ^ (k % 8))) (j / 8) 0) (j % 8) ≡ map_bit (get_or m (j / 8) 0) (j % 8)
      go (yes y) =
          ap (λ x. map_bit (get_or (set m (k / 8) (get_or m (k / 8) 0 + 2 ^ (k % 8))) x 0) (j % 8)) y
          ∙ ap (λ x. map_bit x (j % 8)) (get_or-set_same m (k / 8) (get_or m (k / 8) 0 + 2 ^ (k % 8)) 0 h)
          ∙ bit_other (get_or m (k / 8) 0) (k % 8) (j % 8) e (λ q. n (omega arith))
          ∙ ap (λ x. map_bit (get_or m x 0) (j % 8)) (sym y)
      go (no y) = ap (λ x. map_bit x (j % 8)) (get_or-set_other m (k / 8) (j / 8) (get_or m (k / 8) 0 + 2 ^ (k % 8)) 0 y)

-- a run, from its first address on
pub run_none : (m : List ℕ) (a : ℕ) → Run m m a 0
run_none m a =
    record { free = λ k g h. absurd (omega arith); inside = λ k g h. absurd (omega arith); outside = λ k n. refl }

module _ (old m : List ℕ) (a i : ℕ) (r : Run old m a i) (h : (a + i) / 8 < length m) where
  pub run_more : map_bit (get_or m ((a + i) / 8) 0) ((a + i) % 8) ≡ 0
      → Run old (set m ((a + i) / 8) (get_or m ((a + i) / 8) 0 + 2 ^ ((a + i) % 8))) a (i + 1)
  unfolding marked_at
  run_more e =
      record {
        free = λ k g l. frees k g l (dec_lt k (a + i));
        inside = λ k g l. ins k g l (dec_lt k (a + i));
        outside = λ k n. mark_other m (a + i) h e k (λ q. n (omega arith) (omega arith)) ∙ r.outside k (λ g l. n g (omega arith));
      }
    where
      last : (k : ℕ) → a ≤ k → k < a + (i + 1) → (k < a + i → ⊥) → k ≡ a + i
      last k g l n = omega (arith, n)

      frees : (k : ℕ) → a ≤ k → k < a + (i + 1) → Dec (k < a + i) → marked_at old k ≡ 0
      frees k g l (yes y) = r.free k g y
      frees k g l (no y) =
          let q = last k g l y in
          sym (r.outside k (λ s t. y t)) ∙ ap (λ x. marked_at m x) q ∙ e

      ins : (k : ℕ) → a ≤ k → k < a + (i + 1) → Dec (k < a + i) → marked_at (set m ((a + i) / 8) (get_or m ((a + i) / 8) 0 + 2 ^ ((a + i) % 8))) k ≡ 1
      ins k g l (yes y) = mark_other m (a + i) h e k (λ q. omega arith) ∙ r.inside k g y
      ins k g l (no y) =
          ap (λ x. marked_at (set m ((a + i) / 8) (get_or m ((a + i) / 8) 0 + 2 ^ ((a + i) % 8))) x) (last k g l y) ∙ mark_same m (a + i) h e

  pub run_stops : (n : ℕ) → i < n → (map_bit (get_or m ((a + i) / 8) 0) ((a + i) % 8) ≡ 0 → ⊥) → Clash old a n
  unfolding marked_at
  run_stops n l e =
      record {
        k = a + i;
        from = omega arith;
        below = omega arith;
        set = λ z. e (r.outside (a + i) (λ g q. absurd (omega arith)) ∙ z);
      }

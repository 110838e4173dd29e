-- Laws of the loop over a row of digits: whether all are digits, and the low byte of the sum of their bytes.
use Rattle.std.proofs.Common.{◌≡◌, ℕ, ◌+◌, ◌*◌, ◌%◌, ◌<◌, true, false, List, [], ◌∷◌, ◌++◌, length, get_or, sym, refl, ap, ◌∙◌, arith}
use borrow.Author.Tests.{lt-ltb}
use Rattle.hex_format.specs.Digits.{digit, all_digits, octets}
use Rattle.hex_format.specs.Lines.{sum}
use Rattle.hex_format.proofs.Laws.Digits.{octet_is}
use Rattle.hex_format.proofs.Laws.Lines.{low_byte}

-- where so much of the row is left, the sum is t
pub record Weighing (s left : List ℕ) (t : ℕ) : Type 0 where
  pub even : length left % 2 ≡ 0
  pub good : all_digits left ≡ all_digits s
  pub added : (t + sum (octets left)) % 256 ≡ sum (octets s) % 256
  pub low : t < 256

pub starts : (s : List ℕ) → length s % 2 ≡ 0 → Weighing s s 0
starts s e = record { even = e; good = refl; added = ap (λ n. n % 256) (omega arith); low = omega arith }

-- two digits more
module _ (s left later : List ℕ) (t : ℕ) (w : Weighing s left t) where
  pub goes_on : (p : List ℕ) → left ≡ p ++ later → length p ≡ 2 → digit (get_or p 0 0) < 16 → digit (get_or p 1 0) < 16
      → Weighing s later ((t + (digit (get_or p 0 0) * 16 + digit (get_or p 1 0))) % 256)
  unfolding sum octets all_digits
  goes_on [] e h d f = absurd (omega arith)
  goes_on (a ∷ []) e h d f = absurd (omega arith)
  goes_on (a ∷ b ∷ x ∷ p) e h d f = absurd (omega arith)
  goes_on (a ∷ b ∷ []) e h d f =
      let n : length left ≡ length later + 2 = ap length e ∙ omega arith in
      let g : all_digits left ≡ all_digits later = ap all_digits e ∙ rw (lt-ltb (digit a) 16 d, lt-ltb (digit b) 16 f) in
      record {
        even = omega (arith, w.even);
        good = sym g ∙ w.good;
        added =
            low_byte t _ _
            ∙ ap (λ o. (t + (o + sum (octets later))) % 256) (sym (octet_is a b d f))
            ∙ sym (ap (λ l. (t + sum (octets l)) % 256) e)
            ∙ w.added;
        low = omega arith;
      }

  pub stops : (p : List ℕ) → left ≡ p ++ later → length p ≡ 2 → digit (get_or p 0 0) ≡ 16 → all_digits s ≡ false
  unfolding all_digits
  stops [] e h d = absurd (omega arith)
  stops (a ∷ p) e h d = sym w.good ∙ ap all_digits e ∙ rw d

  pub stops_low : (p : List ℕ) → left ≡ p ++ later → length p ≡ 2 → digit (get_or p 0 0) < 16 → digit (get_or p 1 0) ≡ 16
      → all_digits s ≡ false
  unfolding all_digits
  stops_low [] e h d f = absurd (omega arith)
  stops_low (a ∷ []) e h d f = absurd (omega arith)
  stops_low (a ∷ b ∷ p) e h d f = sym w.good ∙ ap all_digits e ∙ rw (lt-ltb (digit a) 16 d, f)

pub is_done : (s left : List ℕ) (t : ℕ) → Weighing s left t → length left < 2 → (all_digits s ≡ true) × (t ≡ sum (octets s) % 256)
unfolding all_digits sum octets
is_done s [] t w h = (sym w.good, omega (arith, w.low, w.added))
is_done s (a ∷ []) t w h = absurd (omega (arith, w.even))
is_done s (a ∷ b ∷ left) t w h = absurd (omega arith)

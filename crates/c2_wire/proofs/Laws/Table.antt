-- A rule of a table at each of its entries, by one test over them all; and the table of the driven steps.
use mathlib.Core.Path.{◌≡◌, ap, subst, ◌∙◌}
use mathlib.Core.Bool.{Bool, true, ◌&&◌}
use mathlib.Core.List.{List, [], ◌∷◌}
use Prim.Native.Nat.{ℕ, zero, suc, ◌+◌, ◌*◌, ◌/◌, ◌%◌, ◌<◌}
use native.Mathlib.Nat.{not-suc-le-zero, zero-add}
use native.Mathlib.Omega.{arith}
use borrow.Author.Tests.{eqb-true}
use lib.Dec.{eqb}
use lib.ListN.{length, get_or}
use Rattle.laws.proofs.Tests.{both}
use Rattle.c2_wire.specs.Bits.{bits}
use Rattle.c2_wire.specs.Code.Script.{code_word, driven_codes, table_codes}

-- a test of a place and its entry passes at every entry; the places count from i
abbrev pub every : (ℕ → ℕ → Bool) → (i : ℕ) → List ℕ → Bool
every f i [] = true
every f i (x ∷ xs) = f i x && every f (suc i) xs

from : (f : ℕ → ℕ → Bool) (xs : List ℕ) (i : ℕ) → every f i xs ≡ true → (k : ℕ) → k < length xs → f (i + k) (get_or xs k 0) ≡ true
from f [] i e k h = absurd (not-suc-le-zero h)
from f (x ∷ xs) i e zero h = let p : i + 0 ≡ i = omega arith in rw p (both (f i x) (every f (suc i) xs) e).0
from f (x ∷ xs) i e (suc k) h =
    let p : i + suc k ≡ suc i + k = omega arith in
    rw p (from f xs (suc i) (both (f i x) (every f (suc i) xs) e).1 k (omega arith))

-- the test passes at each place of the table
pub at_place : (f : ℕ → ℕ → Bool) (xs : List ℕ) → every f 0 xs ≡ true → (k : ℕ) → k < length xs → f k (get_or xs k 0) ≡ true
at_place f xs e k h = subst (λ (m : ℕ). f m (get_or xs k 0) ≡ true) (zero-add k) (from f xs 0 e k h)

-- the rule of the driven steps, lowest bit first: at place k stands the step of bit k / 256 of byte k % 256
unfoldable pub right : (place entry : ℕ) → Bool
right k x = eqb x (get_or (driven_codes (k % 256)) (k / 256) 0)

-- a table with that rule has for each byte its driven steps
module _ (t : List ℕ) (long : length t ≡ 2048) (test : every right 0 t ≡ true) (a : ℕ) (small : a < 256) where
  entry : (k i : ℕ) → i < 8 → k ≡ a + 256 * i → get_or t k 0 ≡ get_or (driven_codes a) i 0
  unfolding right
  entry k i h e =
      let byte : k % 256 ≡ a = omega arith in
      let bit : k / 256 ≡ i = omega arith in
      eqb-true (get_or t k 0) (get_or (driven_codes (k % 256)) (k / 256) 0) (at_place right t test k (omega arith))
      ∙ ap (λ (n : ℕ). get_or (driven_codes n) (k / 256) 0) byte
      ∙ ap (λ (n : ℕ). get_or (driven_codes a) n 0) bit

  pub table_drives : table_codes t a ≡ driven_codes a
  unfolding table_codes driven_codes bits
  table_drives =
      rw (
        entry a 0 (omega arith) (omega arith),
        entry (a + 256) 1 (omega arith) (omega arith),
        entry (a + 512) 2 (omega arith) (omega arith),
        entry (a + 768) 3 (omega arith) (omega arith),
        entry (a + 1024) 4 (omega arith) (omega arith),
        entry (a + 1280) 5 (omega arith) (omega arith),
        entry (a + 1536) 6 (omega arith) (omega arith),
        entry (a + 1792) 7 (omega arith) (omega arith),
      )

-- the word of a table's eight codes for a byte, two by two
pub pairs : (t : List ℕ) (a : ℕ)
    → code_word (get_or t a 0 ∷ get_or t (a + 256) 0 ∷ [])
    + code_word (get_or t (a + 512) 0 ∷ get_or t (a + 768) 0 ∷ []) * 256
    + (code_word (get_or t (a + 1024) 0 ∷ get_or t (a + 1280) 0 ∷ [])
    + code_word (get_or t (a + 1536) 0 ∷ get_or t (a + 1792) 0 ∷ []) * 256)
    * 65536
    ≡ code_word (table_codes t a)
unfolding code_word table_codes
pairs t a = omega arith

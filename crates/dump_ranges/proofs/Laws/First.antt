-- Laws of the place of the first difference.
use mathlib.Core.Path.{◌≡◌, refl, ap, ◌∙◌}
use mathlib.Core.List.{List, [], ◌∷◌}
use Prim.Native.Nat.{ℕ, zero, suc, ◌+◌, ◌*◌, ◌/◌, ◌%◌, ◌<◌, ◌≤◌}
use native.Mathlib.Nat.{mul-add-div_right, mul-add-mod_self_right, div-eq_of_lt, mod-eq_of_lt}
use native.Mathlib.Omega.{arith}
use borrow.Author.Tests.{eq-eqb, ne_eqb, lt-ltb, le-ltb}
use lib.Dec.{eqb}
use lib.ListN.{length, get_or}
use Rattle.laws.proofs.Tests.{by_test}
use Rattle.dump_ranges.specs.Ranges.{Range, grown, ranges_from, equal_bytes}
use Rattle.dump_ranges.specs.Answers.{first_found}
use Rattle.dump_ranges.proofs.Laws.Ranges.{grown_some}

-- It is the place before which all bytes are equal and at which they differ, or the dumps' length.
pub first_is : (p : ℕ) (a b : List ℕ) → length a ≡ length b → p ≤ length a → ((k : ℕ) → k < p → get_or a k 0 ≡ get_or b k 0)
    → (p < length a → get_or a p 0 ≡ get_or b p 0 → ⊥) → equal_bytes a b ≡ p
unfolding equal_bytes
first_is zero [] b e h f g = refl
first_is (suc p) [] b e h f g = absurd (omega arith)
first_is p (x ∷ a) [] e h f g = absurd (omega arith)
first_is zero (x ∷ a) (y ∷ b) e h f g = rw (ne_eqb x y (g (omega arith)))
first_is (suc p) (x ∷ a) (y ∷ b) e h f g =
    rw (eq-eqb x y (f 0 (omega arith)))
    (ap suc (first_is p a b (omega arith) (omega arith) (λ k l. f (suc k) (omega arith)) (λ l. g (omega arith))))

-- The quick form says equal where all bytes are equal.
pub none_found : (size : ℕ) (a b : List ℕ) → length a ≡ length b → ((k : ℕ) → k < length a → get_or a k 0 ≡ get_or b k 0)
    → record { number = 0; differs = 0; page = 0; offset = 0 } ≡ first_found size a b
unfolding first_found
none_found size a b e f =
    rw (first_is (length a) a b e (omega arith) f (λ h. absurd (omega arith)), le-ltb (length a) (length a) (omega arith))

-- The quick form tells page and offset of the place up to which all bytes are equal.
pub found_at : (size page offset : ℕ) (a b : List ℕ) → length a ≡ length b → offset < size → page * size + offset < length a
    → ((k : ℕ) → k < page * size + offset → get_or a k 0 ≡ get_or b k 0)
    → (get_or a (page * size + offset) 0 ≡ get_or b (page * size + offset) 0 → ⊥)
    → record { number = 0; differs = 1; page = page; offset = offset } ≡ first_found size a b
unfolding first_found
found_at size page offset a b e h l f g =
    let p : page * size + offset ≤ length a = omega arith in
    let place = first_is (page * size + offset) a b e p f (λ _. g) in
    let z : 0 < size = omega arith in
    let d : (page * size + offset) / size ≡ page =
    mul-add-div_right z page offset ∙ ap (λ (n : ℕ). page + n) (div-eq_of_lt h) ∙ omega arith in
    let m : (page * size + offset) % size ≡ offset = mul-add-mod_self_right page size offset ∙ mod-eq_of_lt h in
    rw (place, lt-ltb (page * size + offset) (length a) l, d, m)

-- The first range starts at the place of the first difference; where there is none, there is no range.
unfoldable pub start_of : List Range → ℕ
start_of [] = 0
start_of (r ∷ rs) = r.start

grown_start : (p : ℕ) (rs : List Range) → start_of (grown p rs) ≡ p
unfolding grown start_of
grown_start p [] = refl
grown_start p (x ∷ rs) = by_test (eqb x.start (suc p)) (λ t. rw t) (λ t. rw t)

pub first_start : (p : ℕ) (a b : List ℕ) → length a ≡ length b → equal_bytes a b < length a
    → start_of (ranges_from p a b) ≡ p + equal_bytes a b
unfolding equal_bytes ranges_from
first_start p [] b e = λ h. absurd (omega arith)
first_start p (x ∷ a) [] e = λ h. absurd (omega arith)
first_start p (x ∷ a) (y ∷ b) e =
    by_test (eqb x y) (λ t. rw t (λ h. first_start (suc p) a b (omega arith) (omega arith) ∙ omega arith))
    (λ t. rw t (λ h. grown_start p (ranges_from (suc p) a b) ∙ omega arith))

pub no_range : (p : ℕ) (a b : List ℕ) → length a ≡ length b → length a ≤ equal_bytes a b → ranges_from p a b ≡ []
unfolding equal_bytes ranges_from
no_range p [] b e = λ h. refl
no_range p (x ∷ a) [] e = λ h. refl
no_range p (x ∷ a) (y ∷ b) e =
    by_test (eqb x y) (λ t. rw t (λ h. no_range (suc p) a b (omega arith) (omega arith))) (λ t. rw t (λ h. absurd (omega arith)))

pub some_range : (p : ℕ) (a b : List ℕ) → length a ≡ length b → equal_bytes a b < length a → 0 < length (ranges_from p a b)
unfolding equal_bytes ranges_from
some_range p [] b e = λ h. absurd (omega arith)
some_range p (x ∷ a) [] e = λ h. absurd (omega arith)
some_range p (x ∷ a) (y ∷ b) e =
    by_test (eqb x y) (λ t. rw t (λ h. some_range (suc p) a b (omega arith) (omega arith)))
    (λ t. rw t (λ h. grown_some p (ranges_from (suc p) a b)))

-- Laws of the ranges of two dumps, followed from the beginning on: equal bytes are passed, a run of differing
-- bytes is the next range.
use mathlib.Core.Path.{◌≡◌, refl, ap, ◌∙◌}
use mathlib.Core.Bool.{true, false}
use mathlib.Core.List.{List, [], ◌∷◌}
use mathlib.Core.Logic.{by_cases}
use Prim.Native.Nat.{ℕ, zero, suc, ◌+◌, ◌<◌, ◌≤◌}
use native.Mathlib.Omega.{arith}
use native.Mathlib.Decide.{dec_lt}
use borrow.Author.Tests.{eq-eqb, ne_eqb, eqb-true, eqb-false}
use lib.Dec.{eqb}
use lib.ListN.{length, drop, get_or, drop_of_length-le}
use lib.Seq.{drop-cons}
use Rattle.laws.proofs.Tests.{by_test}
use Rattle.dump_ranges.specs.Ranges.{Range, range, grown, ranges_from}
use Rattle.dump_ranges.specs.Claims.{Rising}

-- The ranges from a place on start there or later, rise and don't touch.
pub rising_from : (q p : ℕ) (rs : List Range) → q ≤ p → Rising p rs → Rising q rs
rising_from q p [] h r = tt
rising_from q p (x ∷ rs) h r = (omega arith, r.1, r.2)

rising_grown : (p : ℕ) (rs : List Range) → Rising (suc p) rs → Rising p (grown p rs)
unfolding grown
rising_grown p [] r = (omega arith, omega arith, tt)
rising_grown p (x ∷ rs) r = by_test (eqb x.start (suc p)) joins apart
  where
    joins : eqb x.start (suc p) ≡ true → Rising p (grown p (x ∷ rs))
    joins t = let e = eqb-true x.start (suc p) t in rw t (omega arith, omega arith, rising_from _ _ rs (omega arith) r.2)

    apart : eqb x.start (suc p) ≡ false → Rising p (grown p (x ∷ rs))
    apart t = let e = eqb-false x.start (suc p) t in rw t (omega arith, omega arith, (omega arith, r.1, r.2))

pub rises : (p : ℕ) (a b : List ℕ) → Rising p (ranges_from p a b)
unfolding ranges_from
rises p [] b = tt
rises p (x ∷ a) [] = tt
rises p (x ∷ a) (y ∷ b) =
    let rest = ranges_from (suc p) a b in
    by_test (eqb x y) (λ t. rw t (rising_from p (suc p) rest (omega arith) (rises (suc p) a b)))
    (λ t. rw t (rising_grown p rest (rises (suc p) a b)))

-- What is left of the ranges at a place of the dumps.
abbrev pub left : (a b : List ℕ) → ℕ → List Range
left a b p = ranges_from p (drop p a) (drop p b)

-- An equal byte is in none of them; a differing one grows them.
pub step_equal : (a b : List ℕ) (p : ℕ) → p < length a → p < length b → get_or a p 0 ≡ get_or b p 0 → left a b p ≡ left a b (suc p)
unfolding ranges_from
step_equal a b p h k e = rw (drop-cons a p 0, drop-cons b p 0, eq-eqb (get_or a p 0) (get_or b p 0) e)

pub step_differs : (a b : List ℕ) (p : ℕ) → p < length a → p < length b → (get_or a p 0 ≡ get_or b p 0 → ⊥)
    → left a b p ≡ grown p (left a b (suc p))
unfolding ranges_from
step_differs a b p h k e = rw (drop-cons a p 0, drop-cons b p 0, ne_eqb (get_or a p 0) (get_or b p 0) e)

-- At a place that differs a range is left; at the end there is none.
pub grown_some : (p : ℕ) (rs : List Range) → 0 < length (grown p rs)
unfolding grown
grown_some p [] = omega arith
grown_some p (x ∷ rs) = by_test (eqb x.start (suc p)) (λ t. rw t (omega arith)) (λ t. rw t (omega arith))

pub more_left : (a b : List ℕ) (p : ℕ) → p < length a → p < length b → (get_or a p 0 ≡ get_or b p 0 → ⊥) → 0 < length (left a b p)
more_left a b p h k e = rw (step_differs a b p h k e) (grown_some p (left a b (suc p)))

pub at_end : (a b : List ℕ) (p : ℕ) → length a ≤ p → left a b p ≡ []
unfolding ranges_from
at_end a b p h = rw (drop_of_length-le a {i = p} h)

-- A differing byte before ranges that start later than right behind it is one by itself; before one that
-- starts there it grows it.
pub stands_alone : (p : ℕ) (rs : List Range) → Rising (suc (suc p)) rs → grown p rs ≡ range p 1 ∷ rs
unfolding grown
stands_alone p [] r = refl
stands_alone p (x ∷ rs) r = rw (ne_eqb x.start (suc p) (λ e. omega arith))

module _ (a b : List ℕ) (long : length a ≡ length b) where
  -- Equal bytes are passed.
  pub passes : (n p e : ℕ) → p + n ≡ e → e ≤ length a → ((k : ℕ) → p ≤ k → k < e → get_or a k 0 ≡ get_or b k 0) → left a b p ≡ left a b e
  passes zero p e q h f = ap (left a b) (omega arith)
  passes (suc n) p e q h f =
      step_equal a b p (omega arith) (omega arith) (f p (omega arith) (omega arith))
      ∙ passes n (suc p) e (omega arith) h (λ k g l. f k (omega arith) l)

  pub past_equal : (e : ℕ) → (e < length a → get_or a e 0 ≡ get_or b e 0) → Rising (suc e) (left a b e)
  past_equal e g =
      by_cases (dec_lt e (length a))
      (λ h. rw (step_equal a b e h (omega arith) (g h)) (rises (suc e) (drop (suc e) a) (drop (suc e) b)))
      (λ h. rw (at_end a b e (omega arith)) tt)

  grows : (p n : ℕ) (rs : List Range) → grown p (range (suc p) n ∷ rs) ≡ range p (suc n) ∷ rs
  unfolding grown
  grows p n rs = rw (eq-eqb (suc p) (suc p) refl)

  pub runs : (n p e : ℕ) → p + suc n ≡ e → e ≤ length a → ((k : ℕ) → p ≤ k → k < e → get_or a k 0 ≡ get_or b k 0 → ⊥)
      → (e < length a → get_or a e 0 ≡ get_or b e 0) → left a b p ≡ range p (suc n) ∷ left a b e
  runs zero p e q h f g =
      step_differs a b p (omega arith) (omega arith) (f p (omega arith) (omega arith)) ∙ ap (λ (k : ℕ). grown p (left a b k)) (omega arith)
      ∙ stands_alone p (left a b e) (rising_from _ _ (left a b e) (omega arith) (past_equal e g))
  runs (suc n) p e q h f g =
      step_differs a b p (omega arith) (omega arith) (f p (omega arith) (omega arith))
      ∙ ap (grown p) (runs n (suc p) e (omega arith) h (λ k l m. f k (omega arith) m) g)
      ∙ grows p (suc n) (left a b e)

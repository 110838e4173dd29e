-- Laws of covered places: the ranges of two dumps cover exactly those that differ, and no other ranges that
-- rise cover the same.
use mathlib.Core.Path.{◌≡◌, refl, ap, sym, subst, ◌∙◌}
use mathlib.Core.Bool.{true, false}
use mathlib.Core.List.{List, [], ◌∷◌}
use mathlib.Core.Logic.{◌⊎◌, inl, inr, ⊎_elim, by_cases}
use Prim.Native.Nat.{ℕ, zero, suc, ◌+◌, ◌-◌, ◌<◌, ◌≤◌}
use native.Mathlib.Omega.{arith}
use native.Mathlib.Decide.{dec_lt}
use borrow.Author.Tests.{eqb-true, eqb-false, ne_eqb}
use lib.Dec.{eqb}
use lib.ListN.{length}
use Rattle.laws.proofs.Tests.{by_test}
use Rattle.dump_ranges.specs.Ranges.{Range, range, grown, ranges_from}
use Rattle.dump_ranges.specs.Claims.{DiffersAt, InRange, Covered, Rising, Each}

-- Ranges grown by a place cover that place and what they covered before, and nothing else.
grown_covers : (p k : ℕ) (rs : List Range) → (k ≡ p) ⊎ Covered rs k → Covered (grown p rs) k
unfolding grown
grown_covers p k [] c = ⊎_elim (λ e. inl (omega arith, omega arith)) (λ n. absurd n) c
grown_covers p k (x ∷ rs) c = by_test (eqb x.start (suc p)) joins apart
  where
    joins : eqb x.start (suc p) ≡ true → Covered (grown p (x ∷ rs)) k
    joins t =
        let s = eqb-true x.start (suc p) t in
        rw t (⊎_elim (λ e. inl (omega arith, omega arith)) (⊎_elim (λ i. inl (omega arith, omega arith)) (λ l. inr l)) c)

    apart : eqb x.start (suc p) ≡ false → Covered (grown p (x ∷ rs)) k
    apart t = rw t (⊎_elim (λ e. inl (omega arith, omega arith)) (λ l. inr l) c)

-- the first range, grown by the place before it
first_grown : (p k : ℕ) (x : Range) → x.start ≡ suc p → InRange (range p (suc x.length)) k → (k ≡ p) ⊎ InRange x k
first_grown p k x s i = by_cases (dec_lt p k) (λ h. inr (omega arith, omega arith)) (λ h. inl (omega arith))

grown_only : (p k : ℕ) (rs : List Range) → Covered (grown p rs) k → (k ≡ p) ⊎ Covered rs k
unfolding grown
grown_only p k [] = λ c. ⊎_elim (λ i. inl (omega arith)) (λ n. absurd n) c
grown_only p k (x ∷ rs) = by_test (eqb x.start (suc p)) joins apart
  where
    joins : eqb x.start (suc p) ≡ true → Covered (grown p (x ∷ rs)) k → (k ≡ p) ⊎ Covered (x ∷ rs) k
    joins t =
        let s = eqb-true x.start (suc p) t in
        rw t (⊎_elim (λ i. ⊎_elim (λ e. inl e) (λ h. inr (inl h)) (first_grown p k x s i)) (λ l. inr (inr l)))

    apart : eqb x.start (suc p) ≡ false → Covered (grown p (x ∷ rs)) k → (k ≡ p) ⊎ Covered (x ∷ rs) k
    apart t = rw t (⊎_elim (λ i. inl (omega arith)) (λ l. inr l))

-- a differing place is covered
pub covers : (p j : ℕ) (a b : List ℕ) → length a ≡ length b → DiffersAt a b j → Covered (ranges_from p a b) (p + j)
unfolding ranges_from
covers p j [] b e d = absurd (omega arith)
covers p j (x ∷ a) [] e d = absurd (omega arith)
covers p zero (x ∷ a) (y ∷ b) e d = rw (ne_eqb x y d.1) (grown_covers p (p + 0) (ranges_from (suc p) a b) (inl (omega arith)))
covers p (suc j) (x ∷ a) (y ∷ b) e d =
    let s : suc p + j ≡ p + suc j = omega arith in
    let rest : Covered (ranges_from (suc p) a b) (p + suc j) = rw s at (covers (suc p) j a b (omega arith) (omega arith, d.1)) in
    by_test (eqb x y) (λ t. rw t rest) (λ t. rw t (grown_covers p (p + suc j) (ranges_from (suc p) a b) (inr rest)))

-- a covered place differs
later : (p k x y : ℕ) (a b : List ℕ) → (suc p ≤ k) × DiffersAt a b (k - suc p) → (p ≤ k) × DiffersAt (x ∷ a) (y ∷ b) (k - p)
later p k x y a b d = let h = d.0 in let s : k - p ≡ suc (k - suc p) = omega arith in (omega arith, rw s (omega (arith, d.1.0), d.1.1))

here : (p k x y : ℕ) (a b : List ℕ) → (x ≡ y → ⊥) → k ≡ p → (p ≤ k) × DiffersAt (x ∷ a) (y ∷ b) (k - p)
here p k x y a b n q = let s : k - p ≡ 0 = omega arith in (omega arith, rw s (omega arith, n))

pub covered_differs : (p k : ℕ) (a b : List ℕ) → length a ≡ length b → Covered (ranges_from p a b) k → (p ≤ k) × DiffersAt a b (k - p)
unfolding ranges_from
covered_differs p k [] b e = λ c. absurd c
covered_differs p k (x ∷ a) [] e = λ c. absurd c
covered_differs p k (x ∷ a) (y ∷ b) e =
    let rest = covered_differs (suc p) k a b (omega arith) in
    by_test (eqb x y) (λ t. rw t (λ c. later p k x y a b (rest c)))
    (λ t.
    let now = here p k x y a b (eqb-false x y t) in
    rw t (λ c. ⊎_elim now (λ l. later p k x y a b (rest l)) (grown_only p k (ranges_from (suc p) a b) c)))

-- Ranges that rise cover nothing before the place from which they rise.
pub covered_from : (q k : ℕ) (rs : List Range) → Rising q rs → Covered rs k → q ≤ k
covered_from q k [] r c = absurd c
covered_from q k (x ∷ rs) r c = ⊎_elim (λ i. omega arith) (λ l. let h = covered_from (suc (x.start + x.length)) k rs r.2 l in omega arith) c

-- A range among others that rise: it has a first place, and the places right before and right behind it are
-- not covered.
pub record Among (rs : List Range) (r : Range) : Type 0 where
  pub first : Covered rs r.start
  pub before : (k : ℕ) → suc k ≡ r.start → Covered rs k → ⊥
  pub behind : Covered rs (r.start + r.length) → ⊥

pub each_of : (P Q : Range → Type 0) → ((r : Range) → P r → Q r) → (rs : List Range) → Each P rs → Each Q rs
each_of P Q f [] e = tt
each_of P Q f (r ∷ rs) e = (f r e.0, each_of P Q f rs e.1)

among_more : (x : Range) (rs : List Range) → Rising (suc (x.start + x.length)) rs → (r : Range) → Among rs r → Among (x ∷ rs) r
among_more x rs s r g =
    let h = covered_from (suc (x.start + x.length)) r.start rs s g.first in
    record {
      first = inr g.first;
      before = λ k e. ⊎_elim (λ i. omega arith) (g.before k e);
      behind = ⊎_elim (λ i. omega arith) g.behind;
    }

pub each_among : (q : ℕ) (rs : List Range) → Rising q rs → Each (Among rs) rs
each_among q [] s = tt
each_among q (x ∷ rs) s = (
  record {
    first = inl (omega arith, omega arith);
    before = λ k e. ⊎_elim (λ i. omega arith) (λ l. let h = covered_from _ k rs s.2 l in omega arith);
    behind = ⊎_elim (λ i. omega arith) (λ l. let h = covered_from _ (x.start + x.length) rs s.2 l in omega arith);
  },
  each_of (Among rs) (Among (x ∷ rs)) (among_more x rs s.2) rs (each_among (suc (x.start + x.length)) rs s.2),
)

-- Two lists of ranges that rise and cover the same are equal: their first ranges start and end together, and
-- so do the rest.
start_below : (q p : ℕ) (x y : Range) (rs qs : List Range) → Rising q (x ∷ rs) → Rising p (y ∷ qs)
    → ((k : ℕ) → Covered (x ∷ rs) k → Covered (y ∷ qs) k) → y.start ≤ x.start
start_below q p x y rs qs r s f =
    ⊎_elim (λ i. i.0) (λ l. let h = covered_from _ x.start qs s.2 l in omega arith) (f x.start (inl (omega arith, omega arith)))

end_below : (q p : ℕ) (x y : Range) (rs qs : List Range) → Rising q (x ∷ rs) → Rising p (y ∷ qs)
    → ((k : ℕ) → Covered (x ∷ rs) k → Covered (y ∷ qs) k) → x.start ≡ y.start → x.length ≤ y.length
end_below q p x y rs qs r s f e = by_cases (dec_lt y.length x.length) longer (λ h. omega arith)
  where
    longer : y.length < x.length → x.length ≤ y.length
    longer h =
        ⊎_elim (λ i. absurd (omega arith)) (λ l. let g = covered_from _ (y.start + y.length) qs s.2 l in absurd (omega arith))
        (f (y.start + y.length) (inl (omega arith, omega arith)))

rest_covered : (q : ℕ) (x : Range) (rs qs : List Range) → Rising q (x ∷ rs)
    → ((k : ℕ) → Covered (x ∷ rs) k → Covered (x ∷ qs) k) → (k : ℕ) → Covered rs k → Covered qs k
rest_covered q x rs qs r f k l =
    let h = covered_from (suc (x.start + x.length)) k rs r.2 l in
    ⊎_elim (λ i. absurd (omega arith)) (λ c. c) (f k (inr l))

same_range : (x y : Range) → x.start ≡ y.start → x.length ≡ y.length → x ≡ y
same_range x y h l = ap (λ (s : ℕ). range s x.length) h ∙ ap (λ (n : ℕ). range y.start n) l

pub same_covered : (q p : ℕ) (rs qs : List Range) → Rising q rs → Rising p qs → ((k : ℕ) → Covered rs k → Covered qs k)
    → ((k : ℕ) → Covered qs k → Covered rs k) → rs ≡ qs
same_covered q p [] [] r s f g = refl
same_covered q p [] (y ∷ qs) r s f g = absurd (g y.start (inl (omega arith, omega arith)))
same_covered q p (x ∷ rs) [] r s f g = absurd (f x.start (inl (omega arith, omega arith)))
same_covered q p (x ∷ rs) (y ∷ qs) r s f g =
    let h : x.start ≡ y.start = omega (arith, start_below q p x y rs qs r s f, start_below p q y x qs rs s r g) in
    let l : x.length ≡ y.length = omega (arith, end_below q p x y rs qs r s f h, end_below p q y x qs rs s r g (sym h)) in
    let e = same_range x y h l in
    let on = rest_covered q x rs qs r (subst (λ (z : Range). (k : ℕ) → Covered (x ∷ rs) k → Covered (z ∷ qs) k) (sym e) f) in
    let back = rest_covered p y qs rs s (subst (λ (z : Range). (k : ℕ) → Covered (y ∷ qs) k → Covered (z ∷ rs) k) e g) in
    ap (λ (t : List Range). x ∷ t) (same_covered (suc (x.start + x.length)) (suc (y.start + y.length)) rs qs r.2 s.2 on back) ∙ ap (λ (z : Range). z ∷ qs) e

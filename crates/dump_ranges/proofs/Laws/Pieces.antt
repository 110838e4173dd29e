-- Laws of dumps compared in pieces: what is left of the ranges, from a place before the end of a range on.
use mathlib.Core.Path.{◌≡◌, refl, ap, sym, subst, ◌∙◌}
use mathlib.Core.Bool.{true, false}
use mathlib.Core.List.{List, [], ◌∷◌, ◌++◌, append_assoc}
use mathlib.Core.Logic.{inl, inr}
use Prim.Native.Nat.{ℕ, zero, suc, ◌+◌, ◌-◌, ◌*◌, ◌<◌, ◌≤◌}
use native.Mathlib.Omega.{arith}
use borrow.Author.Tests.{eqb-true, eqb-false, eq-eqb, ne_eqb}
use lib.Dec.{eqb}
use lib.ListN.{length, drop, get_or}
use Rattle.laws.proofs.Tests.{by_test}
use Rattle.dump_ranges.specs.Ranges.{Range, range, grown, ranges_from, ranges}
use Rattle.dump_ranges.specs.Claims.{Rising, Each, InRange, Covered, Longest, moved, EndsBy, RestGoesOn, PiecesGoOn, PiecesReach}
use Rattle.dump_ranges.proofs.Laws.Ranges.{left, rises, step_equal, step_differs, past_equal, rising_from, stands_alone}
use Rattle.dump_ranges.proofs.Laws.First.{start_of}
use Rattle.dump_ranges.proofs.Laws.Claims.{ranges_cover, ranges_longest}

-- the ranges of dumps that start at a later place are moved by it
grown_moved : (p q : ℕ) (rs : List Range) → grown (p + q) (moved p rs) ≡ moved p (grown q rs)
unfolding grown moved
grown_moved p q [] = refl
grown_moved p q (x ∷ rs) = by_test (eqb x.start (suc q)) joins apart
  where
    joins : eqb x.start (suc q) ≡ true → grown (p + q) (moved p (x ∷ rs)) ≡ moved p (grown q (x ∷ rs))
    joins t =
        let e = eqb-true x.start (suc q) t in
        rw (t, eq-eqb (p + x.start) (suc (p + q)) (omega arith))

    apart : eqb x.start (suc q) ≡ false → grown (p + q) (moved p (x ∷ rs)) ≡ moved p (grown q (x ∷ rs))
    apart t =
        let n = eqb-false x.start (suc q) t in
        rw (t, ne_eqb (p + x.start) (suc (p + q)) (λ e. n (omega arith)))

pub ranges_moved : (p q : ℕ) (a b : List ℕ) → ranges_from (p + q) a b ≡ moved p (ranges_from q a b)
unfolding ranges_from moved
ranges_moved p q [] b = refl
ranges_moved p q (x ∷ a) [] = refl
ranges_moved p q (x ∷ a) (y ∷ b) =
    let s : suc (p + q) ≡ p + suc q = omega arith in
    let rest : ranges_from (suc (p + q)) a b ≡ moved p (ranges_from (suc q) a b) = rw s (ranges_moved p (suc q) a b) in
    by_test (eqb x y) (λ t. rw t rest) (λ t. rw t (ap (grown (p + q)) rest ∙ grown_moved p q (ranges_from (suc q) a b)))

-- What is left of the ranges at a place: some that end by a later place, and then what is left there. At the
-- later place a byte is equal, or the dumps end.
pub record Split (a b : List ℕ) (p e : ℕ) : Type 0 where
  pub before : List Range
  pub whole : left a b p ≡ before ++ left a b e
  pub ended : Each (EndsBy e) before

grown_split : (p e : ℕ) (xs rs : List Range) → suc p ≤ e → Rising (suc e) rs → Each (EndsBy e) xs
    → (ys : List Range) × (grown p (xs ++ rs) ≡ ys ++ rs) × Each (EndsBy e) ys
unfolding grown
grown_split p e [] rs h r f = (range p 1 ∷ [], stands_alone p rs (rising_from _ _ rs (omega arith) r), (omega arith, tt))
grown_split p e (x ∷ xs) rs h r f = by_test (eqb x.start (suc p)) joins apart
  where
    joins : eqb x.start (suc p) ≡ true → (ys : List Range) × (grown p (x ∷ xs ++ rs) ≡ ys ++ rs) × Each (EndsBy e) ys
    joins t = let s = eqb-true x.start (suc p) t in (range p (suc x.length) ∷ xs, rw t, (omega arith, f.1))

    apart : eqb x.start (suc p) ≡ false → (ys : List Range) × (grown p (x ∷ xs ++ rs) ≡ ys ++ rs) × Each (EndsBy e) ys
    apart t = (range p 1 ∷ x ∷ xs, rw t, (omega arith, f))

split_differs : (a b : List ℕ) (p e : ℕ) → suc p ≤ e → Rising (suc e) (left a b e) → left a b p ≡ grown p (left a b (suc p))
    → Split a b (suc p) e → Split a b p e
split_differs a b p e h r s i =
    let g = grown_split p e i.before (left a b e) h r i.ended in
    record { before = g.0; whole = s ∙ ap (grown p) i.whole ∙ g.1; ended = g.2 }

splits : (a b : List ℕ) → length a ≡ length b → (n p e : ℕ) → p + n ≡ e → e ≤ length a
    → (e < length a → get_or a e 0 ≡ get_or b e 0) → Split a b p e
splits a b l zero p e q h g = record { before = []; whole = ap (left a b) (omega arith); ended = tt }
splits a b l (suc n) p e q h g =
    let i = splits a b l n (suc p) e (omega arith) h g in
    let x = get_or a p 0 in
    let y = get_or b p 0 in
    by_test (eqb x y)
    (λ t. record {
      before = i.before;
      whole = step_equal a b p (omega arith) (omega arith) (eqb-true x y t) ∙ i.whole;
      ended = i.ended;
    })
    (λ t.
    let s = step_differs a b p (omega arith) (omega arith) (eqb-false x y t) in
    split_differs a b p e (omega arith) (past_equal a b l e g) s i)

-- A list falls into ranges that end by a place and ranges that start behind it in one way only.
tail : List Range → List Range
tail [] = []
tail (x ∷ xs) = xs

one_split : (e : ℕ) (xs ys rs qs : List Range) → Each (EndsBy e) xs → Each (EndsBy e) ys → Rising (suc e) rs → Rising (suc e) qs
    → xs ++ rs ≡ ys ++ qs → rs ≡ qs
unfolding start_of tail
one_split e [] [] rs qs f g r s q = q
one_split e [] (y ∷ ys) [] qs f g r s q = absurd (omega (arith, ap length q))
one_split e [] (y ∷ ys) (x ∷ rs) qs f g r s q = let z = ap (start_of) q in absurd (omega arith)
one_split e (x ∷ xs) [] rs [] f g r s q = absurd (omega (arith, ap length q))
one_split e (x ∷ xs) [] rs (y ∷ qs) f g r s q = let z = ap (start_of) q in absurd (omega arith)
one_split e (x ∷ xs) (y ∷ ys) rs qs f g r s q = one_split e xs ys rs qs f.1 g.1 r s (ap tail q)

-- The ranges up to one of them end by its end; those behind it start later.
pub record Parts (q : ℕ) (rs : List Range) (r : Range) (qs : List Range) : Type 0 where
  pub from : q + 2 * length rs ≤ r.start
  pub some : 0 < r.length
  pub ended : Each (EndsBy (r.start + r.length)) (rs ++ (r ∷ []))
  pub later : Rising (suc (r.start + r.length)) qs

parts : (q : ℕ) (rs : List Range) (r : Range) (qs : List Range) → Rising q (rs ++ (r ∷ qs)) → Parts q rs r qs
parts q [] r qs s = record { from = omega arith; some = s.1; ended = (omega arith, tt); later = s.2 }
parts q (x ∷ rs) r qs s =
    let i = parts (suc (x.start + x.length)) rs r qs s.2 in
    let h = i.from in
    record { from = omega arith; some = i.some; ended = (omega arith, i.ended); later = i.later }

each_at : (P : Range → Type 0) (rs : List Range) (r : Range) (qs : List Range) → Each P (rs ++ (r ∷ qs)) → P r
each_at P [] r qs f = f.0
each_at P (x ∷ rs) r qs f = each_at P rs r qs f.1

covered_at : (rs : List Range) (r : Range) (qs : List Range) (k : ℕ) → InRange r k → Covered (rs ++ (r ∷ qs)) k
covered_at [] r qs k i = inl i
covered_at (x ∷ rs) r qs k i = inr (covered_at rs r qs k i)

-- what is left behind one of the ranges is the ranges behind it
left_behind : (a b : List ℕ) (rs : List Range) (r : Range) (qs : List Range) → ranges a b ≡ rs ++ r ∷ qs → Parts 0 rs r qs
    → Rising (suc (r.start + r.length)) (left a b (r.start + r.length)) → Split a b 0 (r.start + r.length)
    → left a b (r.start + r.length) ≡ qs
left_behind a b rs r qs q p s z =
    one_split (r.start + r.length) z.before (rs ++ r ∷ []) (left a b (r.start + r.length)) qs z.ended p.ended s p.later
    (sym z.whole ∙ q ∙ sym (append_assoc rs (r ∷ []) qs))

moved_left : (a b : List ℕ) (place : ℕ) → moved place (ranges (drop place a) (drop place b)) ≡ left a b place
moved_left a b place =
    let start : place + 0 ≡ place = omega arith in
    sym (ranges_moved place 0 (drop place a) (drop place b)) ∙ ap (λ (n : ℕ). ranges_from n (drop place a) (drop place b)) start

piece : (a b : List ℕ) (place : ℕ) (r : Range) (qs : List Range) → Split a b place (r.start + r.length)
    → left a b (r.start + r.length) ≡ qs → Rising (suc (r.start + r.length)) qs → RestGoesOn a b place r qs
piece a b place r qs v u s = record {
  again = v.before;
  all = moved_left a b place ∙ v.whole ∙ ap (λ (t : List Range). v.before ++ t) u;
  ended = v.ended;
  later = s;
}

pub goes_on : PiecesGoOn
goes_on a b l rs r qs q place h =
    let e = r.start + r.length in
    let p = parts 0 rs r qs (rw q at (rises 0 a b)) in
    let g = (each_at (Longest a b) rs r qs (rw q at (ranges_longest a b l))).behind in
    let i : InRange r (e - 1) = (omega (arith, p.some), omega (arith, p.some)) in
    let c : Covered (ranges a b) (e - 1) = subst (λ (t : List Range). Covered t (e - 1)) (sym q) (covered_at rs r qs (e - 1) i) in
    let w : e ≤ length a = omega (arith, ((ranges_cover a b l (e - 1)).0 c).0) in
    let u = left_behind a b rs r qs q p (past_equal a b l e g) (splits a b l e 0 e (omega arith) w g) in
    piece a b place r qs (splits a b l (e - place) place e (omega arith) w g) u p.later

pub reaches : PiecesReach
reaches a b rs r qs q = omega (arith, (parts 0 rs r qs (rw q at (rises 0 a b))).from)

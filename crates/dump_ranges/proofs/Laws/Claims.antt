-- The claims of `Claims`, proved.
use mathlib.Core.Path.{◌≡◌, refl, ap, sym, ◌∙◌}
use mathlib.Core.Bool.{true, false, cond}
use mathlib.Core.List.{List}
use mathlib.Core.Logic.{◌↔◌, by_cases}
use Prim.Native.Nat.{ℕ, ◌+◌, ◌-◌, ◌*◌, ◌/◌, ◌<◌, ◌≤◌}
use native.Mathlib.Nat.{div-add-mod', mod-lt}
use native.Mathlib.Omega.{arith}
use native.Mathlib.Decide.{dec_lt}
use borrow.Author.Tests.{ltb-true, ltb-false, eqb-true, eqb-false, ne_eqb}
use lib.Dec.{ltb, eqb}
use lib.ListN.{length, take, drop, get_or, length-append, length-drop}
use lib.Seq.{take_at, drop_at, take_all, length-take-le}
use Rattle.laws.proofs.Tests.{by_test}
use Rattle.dump_ranges.specs.Ranges.{Range, ranges, listed, equal_bytes}
use Rattle.dump_ranges.specs.Answers.{dump_refusal, ranges_found, ranges_refused, ranges_answer, list_filled, ranges_list, first_found, first_refused, first_answer}
use Rattle.dump_ranges.specs.Claims.{EqualAt, Covered, Longest, RangesCover, RangesRise, RangesLongest, RangesOnly}
use Rattle.dump_ranges.specs.Claims.{MoreExactly, NoMore, AcceptedZero, RefusedFindsNothing, HoldsFirst, EqualExactly, EqualZeros, FirstOfRanges}
use Rattle.dump_ranges.proofs.Laws.Answers.{dumps}
use Rattle.dump_ranges.proofs.Laws.Ranges.{rises}
use Rattle.dump_ranges.proofs.Laws.First.{start_of, first_start, no_range, some_range}
use Rattle.dump_ranges.proofs.Laws.Covered.{covers, covered_differs, Among, each_of, each_among, same_covered}
use Rattle.dump_ranges.proofs.Laws.Listed.{listed_length}

pub ranges_cover : RangesCover
ranges_cover a b e k =
    let zero_off : k - 0 ≡ k = omega arith in
    let zero_on : 0 + k ≡ k = omega arith in
    (λ c. rw zero_off at (covered_differs 0 k a b e c).1, λ d. rw zero_on at (covers 0 k a b e d))

pub ranges_rise : RangesRise
ranges_rise a b = rises 0 a b

-- a place that is not covered is equal
equal_outside : (a b : List ℕ) → length a ≡ length b → (k : ℕ) → k < length a → (Covered (ranges a b) k → ⊥) → EqualAt a b k
equal_outside a b e k h f =
    let x = get_or a k 0 in
    let y = get_or b k 0 in
    by_test (eqb x y) (eqb-true x y) (λ t. absurd (f ((ranges_cover a b e k).1 (h, eqb-false x y t))))

pub ranges_longest : RangesLongest
ranges_longest a b e = each_of (Among (ranges a b)) (Longest a b) longest (ranges a b) (each_among 0 (ranges a b) (rises 0 a b))
  where
    longest : (r : Range) → Among (ranges a b) r → Longest a b r
    longest r g =
        let h = ((ranges_cover a b e r.start).0 g.first).0 in
        record {
          before = λ k q. equal_outside a b e k (omega arith) (g.before k q);
          behind = λ l. equal_outside a b e (r.start + r.length) l g.behind;
        }

pub ranges_only : RangesOnly
ranges_only a b e rs r f =
    same_covered 0 0 rs (ranges a b) r (rises 0 a b) (λ k c. (ranges_cover a b e k).1 ((f k).0 c)) (λ k c. (f k).1 ((ranges_cover a b e k).0 c))

-- the first of some ranges, at most so many
pub record FirstPart (n : ℕ) (rs : List Range) : Type 0 where
  pub most : length (take n rs) ≤ n
  pub all_or_most : length (take n rs) < length rs → length (take n rs) ≡ n
  pub again : take (length (take n rs)) rs ≡ take n rs

first_part : (n : ℕ) (rs : List Range) → FirstPart n rs
first_part n rs = by_cases (dec_lt (length rs) n) all some
  where
    all : length rs < n → FirstPart n rs
    all h =
        let l : length rs ≤ n = omega arith in
        let t = take_all n rs l in
        record { most = rw t l; all_or_most = rw t (λ k. absurd (omega arith)); again = rw t (take_all (length rs) rs (omega arith)) }

    some : (length rs < n → ⊥) → FirstPart n rs
    some h =
        let l = length-take-le n rs (omega arith) in
        record { most = omega arith; all_or_most = λ _. l; again = ap (λ (m : ℕ). take m rs) l }

-- whether there are more, as a number
more_than : ℕ → ℕ → ℕ
more_than n m = cond (ltb n m) 1 0

more_of : (n : ℕ) (rs : List Range) → more_than n (length rs) ≡ 1 ↔ length (take n rs) < length rs
unfolding more_than
more_of n rs = by_test (ltb n (length rs)) more none
  where
    more : ltb n (length rs) ≡ true → more_than n (length rs) ≡ 1 ↔ length (take n rs) < length rs
    more t = let h = ltb-true n (length rs) t in let p = first_part n rs in rw t (λ _. omega (arith, p.most), λ _. refl)

    none : ltb n (length rs) ≡ false → more_than n (length rs) ≡ 1 ↔ length (take n rs) < length rs
    none t =
        let h = ltb-false n (length rs) t in
        rw t (λ q. absurd (omega arith), λ l. absurd (omega (arith, (first_part n rs).all_or_most l)))

-- there are no more than are held, as a number
none_of : (n : ℕ) (rs : List Range) → more_than n (length rs) ≡ 0 ↔ length (take n rs) ≡ length rs
unfolding more_than
none_of n rs = by_test (ltb n (length rs)) more none
  where
    more : ltb n (length rs) ≡ true → more_than n (length rs) ≡ 0 ↔ length (take n rs) ≡ length rs
    more t = let h = ltb-true n (length rs) t in let p = first_part n rs in rw t (λ q. absurd (omega arith), λ l. absurd (omega (arith, p.most)))

    none : ltb n (length rs) ≡ false → more_than n (length rs) ≡ 0 ↔ length (take n rs) ≡ length rs
    none t = let h = ltb-false n (length rs) t in rw t (λ _. ap length (take_all n rs (omega arith)), λ _. refl)

pub no_more : NoMore
unfolding ranges_answer ranges_found more_than
no_more size a b list z = rw z (none_of (length list / 2) (ranges a b))

pub more_exactly : MoreExactly
unfolding ranges_answer ranges_found more_than
more_exactly size a b list z = rw z (more_of (length list / 2) (ranges a b))

pub accepted_zero : AcceptedZero
unfolding ranges_answer ranges_found first_answer first_found
accepted_zero size a b list z = rw z (refl, by_test (ltb (equal_bytes a b) (length a)) (λ t. rw t) (λ t. rw t))

pub refused_finds_nothing : RefusedFindsNothing
unfolding ranges_answer ranges_refused ranges_list first_answer first_refused
refused_finds_nothing size a b list n =
    let t = ne_eqb (dump_refusal size (length a) (length b)) 0 n in
    record {
      ranges_number = rw t;
      no_more = rw t;
      none_held = rw t;
      list_stays = rw t;
      first_number = rw t;
      no_difference = rw t;
      no_page = rw t;
      no_offset = rw t;
    }

pub holds_first : HoldsFirst
unfolding ranges_answer ranges_found ranges_list list_filled
holds_first size a b list z =
    let n = length list / 2 in
    let p = first_part n (ranges a b) in
    let xs = listed (take n (ranges a b)) in
    let h = length (take n (ranges a b)) in
    let l = listed_length (take n (ranges a b)) in
    let f : 2 * h ≤ length list = omega (arith, p.most) in
    rw z record {
      fits = f;
      fills = λ k. omega (arith, p.all_or_most k);
      first = take_at xs (drop (2 * h) list) (2 * h) l ∙ ap listed (sym p.again);
      rest = drop_at xs (drop (2 * h) list) (2 * h) l;
      long = length-append xs (drop (2 * h) list) ∙ omega (arith, l, length-drop (2 * h) list);
    }

pub equal_exactly : EqualExactly
unfolding first_answer first_found
equal_exactly size a b z =
    let e = (dumps size (length a) (length b) z).same in
    rw z (by_test (ltb (equal_bytes a b) (length a))
    (λ t. rw t (λ q. absurd (omega arith), λ q. absurd (omega (arith, some_range 0 a b e (ltb-true _ _ t), ap length q))))
    (λ t. rw t (λ q. no_range 0 a b e (ltb-false _ _ t), λ q. refl)))

pub equal_zeros : EqualZeros
unfolding first_answer first_found
equal_zeros size a b z =
    rw z (by_test (ltb (equal_bytes a b) (length a)) (λ t. rw t (λ q. absurd (omega arith))) (λ t. rw t (λ q. (refl, refl))))

pub first_of_ranges : FirstOfRanges
unfolding first_answer first_found start_of
first_of_ranges size a b r rs z q =
    let d = dumps size (length a) (length b) z in
    let n = equal_bytes a b in
    by_test (ltb n (length a))
    (λ t.
    let p : n ≡ r.start = omega (arith, first_start 0 a b d.same (ltb-true _ _ t), ap start_of q) in
    record { differs = rw (z, t); told = rw (z, t) (div-add-mod' n size ∙ p); in_page = rw (z, t) (mod-lt n d.some) })
    (λ t. absurd (omega (arith, ap length (sym q ∙ no_range 0 a b d.same (ltb-false _ _ t)))))

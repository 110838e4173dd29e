-- What a cut leaves of each page: `Cut` of specs/Cut.antt.
use mathlib.Core.Path.{◌≡◌, sym, ap, subst, ◌∙◌}
use mathlib.Core.List.{List, [], ◌∷◌}
use mathlib.Core.Logic.{inl, inr}
use Prim.Native.Nat.{ℕ, zero, suc, ◌-◌, ◌*◌, ◌<◌, ◌≤◌}
use native.Mathlib.Omega.{arith}
use borrow.Author.Tests.{ltb-true, ltb-false, leb-true, leb-false}
use lib.Dec.{ltb, leb}
use lib.ListN.{length, take, drop, length-append, length-drop, length-replicate}
use lib.Seq.{take_all, length-take-le}
use Rattle.laws.proofs.Tests.{by_test}
use Rattle.settings.specs.declared.Settings.{Settings}
use Rattle.c2_order.specs.Order.{Page}
use Rattle.c2_order.specs.Conversation.{Limits}
use Rattle.c2_play.specs.Pages.{page_of, with_pages, At}
use Rattle.c2_play.proofs.Laws.Named.{Fits, Named, AllFit, page_inside}
use Rattle.c2_cut.specs.Cut.{Over, Partly, Cut}
use Rattle.c2_play.proofs.Laws.Rise.{all_at, nothing_at}
use Rattle.c2_play.proofs.Laws.Page.{Mid, untouched, written, part, part_whole}
use Rattle.c2_cut.proofs.Laws.Pages.{Standing, leading, between, underway}
use Rattle.c2_cut.proofs.Laws.PageOf.{page_same, page_other, pages_length, pages_other, pages_held}

-- a place of the list is below its length
pub at_below : (ps : List Page) (i : ℕ) (p : Page) → At ps i p → i < length ps
at_below [] i p a = absurd (nothing_at i p a)
at_below (q ∷ ps) zero p a = omega arith
at_below (q ∷ ps) (suc i) p a =
    let h = at_below ps i p (record { later = a.later; is = a.is }) in
    omega (arith, h)

part_length : (size : ℕ) (p : Page) (k : ℕ) → length p.bytes ≡ size → length (part size p k) ≡ size
part_length size p k e =
    by_test (leb k size)
    (λ b.
    let h : k ≤ size = leb-true k size b in
    let w : length (take k p.bytes) ≡ k = length-take-le k p.bytes (omega arith) in
    rw (length-append, length-drop, length-replicate, w) (omega arith))
    (λ b.
    let h : size < k = leb-false k size b in
    let w : take k p.bytes ≡ p.bytes = take_all k p.bytes (omega arith) in
    rw (length-append, length-drop, length-replicate, w) (omega arith))

-- a page under way leaves the other pages as they were
mid_other : (s : Settings) (p : Page) (q : ℕ) (g F : List ℕ) → Fits s p → length g ≡ s.size * s.count → (p.number ≡ q → ⊥) → Mid s.size p g F
    → page_of s.size q F ≡ page_of s.size q g
mid_other s p q g F fits eg ne (untouched e) = ap (page_of s.size q) e
mid_other s p q g F fits eg ne (written k e) =
    ap (page_of s.size q) e ∙ page_other s.size p.number q (part s.size p k) g (page_inside s p g fits eg) (part_length s.size p k fits.whole) ne

-- What a cut leaves of each page, by where the steps fall.
module _ (s : Settings) (ps : List Page) (named : Named s ps) (f F : List ℕ) (R : ℕ → ℕ) (n : ℕ) (ef : length f ≡ s.size * s.count)
    (mono : (i j : ℕ) → i ≤ j → R i ≤ R j) (rises : (i : ℕ) (p : Page) → At ps i p → R i < R (suc i)) where
  abbrev size : ℕ
  size = s.size

  fits : AllFit s ps
  fits = all_at s ps named.fits

  stands_unnamed : Standing size ps f R n F → (q : ℕ) → ((i : ℕ) (p : Page) → At ps i p → p.number ≡ q → ⊥) → page_of size q F ≡ page_of size q f
  stands_unnamed (leading h e) q other = ap (page_of size q) e
  stands_unnamed (between j hj hr hn e) q other = ap (page_of size q) e ∙ pages_other s ps j q f fits ef (λ i p hi a. other i p a)
  stands_unnamed (underway j p after hd h1 h2 mid) q other =
      let a : At ps j p = record { later = after; is = hd } in
      mid_other s p q (with_pages size (take j ps) f) F (named.fits j p a) (pages_length s ps j f fits ef) (other j p a) mid
      ∙ pages_other s ps j q f fits ef (λ i p hi a. other i p a)

  stands_over : Standing size ps f R n F → (i : ℕ) (p : Page) → At ps i p → R (suc i) ≤ n → page_of size p.number F ≡ p.bytes
  stands_over (leading h e) i p a hr = absurd (let z = mono 0 (suc i) (omega arith) in omega (arith, z))
  stands_over (between j hj hr hn e) i p a ho =
      ap (page_of size p.number) e
      ∙ pages_held s ps i j p f fits ef
      (by_test (ltb i j) (λ b. ltb-true i j b)
      (λ b.
      let le : j ≤ i = ltb-false i j b in
      let below = at_below ps i p a in
      let x = hn (omega (arith, below)) in
      let z = mono (suc j) (suc i) (omega arith) in
      absurd (omega (arith, x.1, z))))
      a (λ k q hk c eq. absurd (let z : i ≡ k = named.once i k p q a c (sym eq) in omega arith))
  stands_over (underway j r after hd h1 h2 mid) i p a ho =
      let b : At ps j r = record { later = after; is = hd } in
      let below : i < j = by_test (ltb i j) (λ t. ltb-true i j t)
      (λ t.
      let le : j ≤ i = ltb-false i j t in
      let z = mono (suc j) (suc i) (omega arith) in
      absurd (omega (arith, z))) in
      mid_other s r p.number (with_pages size (take j ps) f) F (named.fits j r b) (pages_length s ps j f fits ef)
      (λ eq. absurd (let z : j ≡ i = named.once j i r p b a eq in omega arith)) mid
      ∙ pages_held s ps i j p f fits ef below a (λ k q hk c eq. absurd (let z : i ≡ k = named.once i k p q a c (sym eq) in omega arith))

  stands_waiting : Standing size ps f R n F → (i : ℕ) (p : Page) → At ps i p → n ≤ R i → page_of size p.number F ≡ page_of size p.number f
  stands_waiting (leading h e) i p a hw = ap (page_of size p.number) e
  stands_waiting (between j hj hr hn e) i p a hw =
      let le : j ≤ i = by_test (leb j i) (λ t. leb-true j i t)
      (λ t.
      let lt : i < j = leb-false j i t in
      let z = mono (suc i) j (omega arith) in
      let y = rises i p a in
      absurd (omega (arith, z, y))) in
      ap (page_of size p.number) e
      ∙ pages_other s ps j p.number f fits ef (λ k q hk c eq. absurd (let z : k ≡ i = named.once k i q p c a eq in omega arith))
  stands_waiting (underway j r after hd h1 h2 mid) i p a hw =
      let b : At ps j r = record { later = after; is = hd } in
      let lt : j < i = by_test (ltb j i) (λ t. ltb-true j i t)
      (λ t.
      let le : i ≤ j = ltb-false j i t in
      let z = mono i j le in
      absurd (omega (arith, z))) in
      mid_other s r p.number (with_pages size (take j ps) f) F (named.fits j r b) (pages_length s ps j f fits ef)
      (λ eq. absurd (let z : j ≡ i = named.once j i r p b a eq in omega arith)) mid
      ∙ pages_other s ps j p.number f fits ef (λ k q hk c eq. absurd (let z : k ≡ i = named.once k i q p c a eq in omega arith))

  abbrev PartlyNow : Page → Type 0
  PartlyNow p = Partly size p.bytes (page_of size p.number f) (page_of size p.number F)

  -- a page before the j-th holds its image (`held_before`), any other is as it was (`kept_after`), where the first j
  -- pages are in the flash
  held_before : (i j : ℕ) (p : Page) → At ps i p → i < j → page_of size p.number (with_pages size (take j ps) f) ≡ part size p size
  held_before i j p a h =
      pages_held s ps i j p f fits ef h a (λ k q hk c eq. absurd (let z : i ≡ k = named.once i k p q a c (sym eq) in omega arith))
      ∙ sym (part_whole s p (named.fits i p a))

  kept_after : (i j : ℕ) (p : Page) → At ps i p → j ≤ i → page_of size p.number (with_pages size (take j ps) f) ≡ page_of size p.number f
  kept_after i j p a h = pages_other s ps j p.number f fits ef (λ k q hk c eq. absurd (let z : k ≡ i = named.once k i q p c a eq in omega arith))

  -- the page that is under way
  mid_here : (i : ℕ) (p : Page) → At ps i p → Mid size p (with_pages size (take i ps) f) F → PartlyNow p
  mid_here i p a (untouched e) = inl (ap (page_of size p.number) e ∙ kept_after i i p a (omega arith))
  mid_here i p a (written k e) =
      let g = with_pages size (take i ps) f in
      let fit = named.fits i p a in
      inr (
        k,
        ap (page_of size p.number) e
            ∙ page_same size p.number (part size p k) g (page_inside s p g fit (pages_length s ps i f fits ef)) (part_length size p k fit.whole),
      )

  stands_each : Standing size ps f R n F → (i : ℕ) (p : Page) → At ps i p → PartlyNow p
  stands_each (leading h e) i p a = inl (ap (page_of size p.number) e)
  stands_each (between j hj hr hn e) i p a =
      by_test (ltb i j)
      (λ b. inr (size, ap (page_of size p.number) e ∙ held_before i j p a (ltb-true i j b)))
      (λ b. inl (ap (page_of size p.number) e ∙ kept_after i j p a (ltb-false i j b)))
  stands_each (underway j r after hd h1 h2 mid) i p a =
      by_test (ltb i j)
      (λ x. inr (size, other (λ z. omega (arith, ltb-true i j x, z)) ∙ held_before i j p a (ltb-true i j x)))
      (λ x. by_test (ltb j i)
      (λ y. inl (other (λ z. omega (arith, ltb-true j i y, z)) ∙ kept_after i j p a (ltb-false i j x)))
      (λ y. let ij : j ≡ i = omega (arith, ltb-false i j x, ltb-false j i y) in
      mid_here i p a (subst (λ (z : ℕ). Mid size p (with_pages size (take z ps) f) F) ij (subst (λ (z : Page). Mid size z (with_pages size (take j ps) f) F) (same ij) mid))))
    where
      b : At ps j r
      b = record { later = after; is = hd }

      other : (j ≡ i → ⊥) → page_of size p.number F ≡ page_of size p.number (with_pages size (take j ps) f)
      other ne =
          mid_other s r p.number (with_pages size (take j ps) f) F (named.fits j r b) (pages_length s ps j f fits ef)
          (λ eq. absurd (ne (named.once j i r p b a eq))) mid

      same : j ≡ i → r ≡ p
      same ij = let e : r ∷ after ≡ p ∷ a.later = sym hd ∙ ap (λ (z : ℕ). drop z ps) ij ∙ a.is in cc e

  -- at most one page is begun and its read-back not over
  only_one : (i j : ℕ) → R i ≤ n - 1 → n - 1 < R (suc i) → R j ≤ n - 1 → n - 1 < R (suc j) → i ≡ j
  only_one i j hi gi hj gj =
      by_test (ltb i j)
      (λ t. let z = mono (suc i) j (ltb-true i j t) in absurd (omega (arith, z)))
      (λ t. by_test (ltb j i)
      (λ v. let z = mono (suc j) i (ltb-true j i v) in absurd (omega (arith, z)))
      (λ v. omega (arith, ltb-false i j t, ltb-false j i v)))

  -- `Cut` holds for replies that tell as much as the run's: those before the last step, and all, exactly or
  -- one fewer.
  pub cut_by : (l : Limits) (rs : List ℕ) → Standing size ps f R n F
      → ((i : ℕ) → Over l s (take i ps) (take (n - 1) rs) → R i ≤ n - 1) → ((i : ℕ) → R i ≤ n - 1 → Over l s (take i ps) (take (n - 1) rs))
      → ((i : ℕ) → Over l s (take i ps) (take n rs) → R i ≤ n) → ((i : ℕ) → R i ≤ n - 1 → Over l s (take i ps) (take n rs))
      → Cut l s ps rs n f F
  cut_by l rs x before_says before_is all_says all_is =
      record {
        unnamed = λ q hq other. stands_unnamed x q other;
        read_back = λ i p a h. stands_over x i p a (all_says (suc i) h);
        waiting = λ i p a h. stands_waiting x i p a
            (by_test (leb (R i) (n - 1)) (λ b. absurd (h (before_is i (leb-true (R i) (n - 1) b)))) (λ b. omega (arith, leb-false (R i) (n - 1) b)));
        one = λ i j p q a c hi gi hj gj.
            only_one i j
            (before_says i hi) (by_test (leb (R (suc i)) (n - 1)) (λ b. absurd (gi (all_is (suc i) (leb-true (R (suc i)) (n - 1) b)))) (λ b. leb-false (R (suc i)) (n - 1) b))
            (before_says j hj) (by_test (leb (R (suc j)) (n - 1)) (λ b. absurd (gj (all_is (suc j) (leb-true (R (suc j)) (n - 1) b)))) (λ b. leb-false (R (suc j)) (n - 1) b));
        each = λ i p a. stands_each x i p a;
      }

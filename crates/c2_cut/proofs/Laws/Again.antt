-- Over flashes that differ in named pages alone, programming these pages comes to the same flash: so a new
-- session after a cut ends as if there had been none before it.
use mathlib.Core.Path.{◌≡◌, refl, sym, ap, ◌∙◌, subst}
use mathlib.Core.List.{List, [], ◌∷◌, ◌++◌, map}
use Prim.Native.Nat.{ℕ, zero, suc, ◌+◌, ◌*◌, ◌<◌}
use native.Mathlib.Omega.{arith}
use native.Mathlib.Decide.{ℕ_discrete}
use lib.ListN.{length, take, drop, length-drop, take-append-drop}
use lib.Seq.{take_all, drop-drop}
use Rattle.settings.specs.declared.Settings.{Settings}
use Rattle.c2_order.specs.Order.{Page}
use Rattle.c2_play.specs.Pages.{page_of, with_pages, At}
use Rattle.c2_play.proofs.Laws.Named.{Named, AllFit}
use Rattle.c2_play.proofs.Laws.Rise.{nothing_at, all_at}
use Rattle.c2_cut.proofs.Laws.PageOf.{pages_length, pages_other, pages_held}
use Rattle.c2_cut.proofs.Laws.Cut.{at_below}

abbrev pub numbers : List Page → List ℕ
numbers ps = map (λ p. p.number) ps

-- flashes of the same pages are the same
by_pages : (size count : ℕ) (f g : List ℕ) → length f ≡ size * count → length g ≡ size * count
    → ((q : ℕ) → q < count → page_of size q f ≡ page_of size q g) → f ≡ g
by_pages size zero [] [] ef eg h = refl
by_pages size zero [] (y ∷ g) ef eg h = absurd (omega arith)
by_pages size zero (x ∷ f) g ef eg h = absurd (omega arith)
by_pages size (suc c) f g ef eg h =
    let m : size * suc c ≡ size + size * c = omega arith in
    let z : 0 * size ≡ 0 = omega arith in
    let first : take size f ≡ take size g = rw z at (h 0 (omega arith)) in
    let rest : drop size f ≡ drop size g =
    by_pages size c (drop size f) (drop size g) (rw length-drop (omega arith)) (rw length-drop (omega arith))
    (λ q hq.
    let a : size + q * size ≡ suc q * size = omega arith in
    ap (take size) (drop-drop (q * size) size f ∙ ap (λ (i : ℕ). drop i f) a)
    ∙ h (suc q) (omega arith)
    ∙ sym (ap (take size) (drop-drop (q * size) size g ∙ ap (λ (i : ℕ). drop i g) a))) in
    sym (take-append-drop size f) ∙ ap (λ (x : List ℕ). x ++ drop size f) first ∙ ap (λ (x : List ℕ). take size g ++ x) rest ∙ take-append-drop size g

-- a page is named or it is not
data Finds (ps : List Page) (q : ℕ) : Type 0 where
  found : (i : ℕ) (p : Page) → At ps i p → p.number ≡ q → Finds ps q
  missing : ((i : ℕ) (p : Page) → At ps i p → p.number ≡ q → ⊥) → Finds ps q

find : (ps : List Page) (q : ℕ) → Finds ps q
find [] q = missing (λ i p a e. nothing_at i p a)
find (r ∷ ps) q = go (ℕ_discrete r.number q) (find ps q)
  where
    go : Dec (r.number ≡ q) → Finds ps q → Finds (r ∷ ps) q
    go (yes e) x = found 0 r (record { later = ps; is = refl }) e
    go (no d) (found i p a e) = found (suc i) p (record { later = a.later; is = a.is }) e
    go (no d) (missing h) = missing off
      where
        off : (i : ℕ) (p : Page) → At (r ∷ ps) i p → p.number ≡ q → ⊥
        off zero p a e = d (let same : r ≡ p = cc a.is in ap (λ (x : Page). x.number) same ∙ e)
        off (suc i) p a e = h i p (record { later = a.later; is = a.is }) e

-- lists of pages with the same numbers have the same number at each place
pub same_place : (qs ps : List Page) → numbers qs ≡ numbers ps → (i : ℕ) (p : Page) → At ps i p → (q : Page) × (At qs i q) × (q.number ≡ p.number)
same_place qs [] h i p a = absurd (nothing_at i p a)
same_place [] (r ∷ ps) h i p a = absurd (let z : ◌≡◌ {A = ℕ} 0 1 = cc in omega arith)
same_place (q ∷ qs) (r ∷ ps) h zero p a =
    let same : r ≡ p = cc a.is in
    let e : q.number ≡ r.number = cc in
    (q, record { later = qs; is = refl }, e ∙ ap (λ (x : Page). x.number) same)
same_place (q ∷ qs) (r ∷ ps) h (suc i) p a =
    let e : numbers qs ≡ numbers ps = cc in
    let x = same_place qs ps e i p (record { later = a.later; is = a.is }) in
    (x.0, record { later = x.1.later; is = x.1.is }, x.2)

pub pages_again : (s : Settings) (qs : List Page) (f F : List ℕ) → Named s qs → length f ≡ s.size * s.count → length F ≡ s.size * s.count
    → ((q : ℕ) → q < s.count → ((i : ℕ) (p : Page) → At qs i p → p.number ≡ q → ⊥) → page_of s.size q F ≡ page_of s.size q f)
    → with_pages s.size qs F ≡ with_pages s.size qs f
pages_again s qs f F named ef eF h =
    by_pages s.size s.count _ _ (all_long F eF) (all_long f ef) (λ q hq. go q hq (find qs q))
  where
    m : ℕ
    m = length qs

    all : take m qs ≡ qs
    all = take_all m qs (omega arith)

    fits : AllFit s qs
    fits = all_at s qs named.fits

    all_long : (x : List ℕ) → length x ≡ s.size * s.count → length (with_pages s.size qs x) ≡ s.size * s.count
    all_long x e = subst (λ (y : List Page). length (with_pages s.size y x) ≡ s.size * s.count) all (pages_length s qs m x fits e)

    held : (x : List ℕ) → length x ≡ s.size * s.count → (i : ℕ) (p : Page) → At qs i p → page_of s.size p.number (with_pages s.size qs x) ≡ p.bytes
    held x e i p a =
        subst (λ (y : List Page). page_of s.size p.number (with_pages s.size y x) ≡ p.bytes) all
        (pages_held s qs i m p x fits e (at_below qs i p a) a (λ k r hk c eq. absurd (let z : i ≡ k = named.once i k p r a c (sym eq) in omega arith)))

    other : (x : List ℕ) → length x ≡ s.size * s.count → (q : ℕ) → ((i : ℕ) (p : Page) → At qs i p → p.number ≡ q → ⊥)
        → page_of s.size q (with_pages s.size qs x) ≡ page_of s.size q x
    other x e q off =
        subst (λ (y : List Page). page_of s.size q (with_pages s.size y x) ≡ page_of s.size q x) all
        (pages_other s qs m q x fits e (λ i p hi a. off i p a))

    go : (q : ℕ) → q < s.count → Finds qs q → page_of s.size q (with_pages s.size qs F) ≡ page_of s.size q (with_pages s.size qs f)
    go q hq (found i p a e) =
        subst (λ (x : ℕ). page_of s.size x (with_pages s.size qs F) ≡ page_of s.size x (with_pages s.size qs f)) e
        (held F eF i p a ∙ sym (held f ef i p a))
    go q hq (missing off) = other F eF q off ∙ h q hq off ∙ sym (other f ef q off)

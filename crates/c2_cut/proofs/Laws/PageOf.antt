-- Pages of a flash into which pages of an image were put.
use mathlib.Core.Path.{◌≡◌, refl, sym, ap, ◌∙◌, subst}
use mathlib.Core.List.{List, [], ◌∷◌, ◌++◌, append_assoc}
use Prim.Native.Nat.{ℕ, zero, suc, ◌+◌, ◌-◌, ◌*◌, ◌<◌, ◌≤◌}
use native.Mathlib.Nat.{mul-le-mul_right}
use native.Mathlib.Omega.{arith}
use borrow.Author.Tests.{ltb-true, ltb-false}
use lib.Dec.{ltb}
use lib.ListN.{length, take, drop, length-append, length-drop, take-append-drop}
use lib.Seq.{take_at, drop_at, take-append-le, drop-append-le, drop-append-add, length-take-le}
use Rattle.laws.proofs.Tests.{by_test}
use Rattle.settings.specs.declared.Settings.{Settings}
use Rattle.c2_order.specs.Order.{Page}
use Rattle.c2_play.specs.Pages.{page_of, with_page, with_pages, At}
use Rattle.c2_play.proofs.Laws.Named.{AllFit, page_inside, put_length}
use Rattle.c2_play.proofs.Laws.Rise.{nothing_at}

-- a page that lies in the first part of the flash (`page_left`), or past it
page_left : (size q : ℕ) (X Y : List ℕ) → q * size + size ≤ length X → page_of size q (X ++ Y) ≡ page_of size q X
page_left size q X Y h =
    ap (take size) (drop-append-le (q * size) X Y (omega arith))
    ∙ take-append-le size (drop (q * size) X) Y (rw length-drop (omega arith))

past : (a : ℕ) (X Y : List ℕ) → length X ≤ a → drop a (X ++ Y) ≡ drop (a - length X) Y
past a X Y h =
    let e : a ≡ length X + (a - length X) = omega arith in
    ap (λ (i : ℕ). drop i (X ++ Y)) e ∙ drop-append-add X Y (a - length X)

pub page_same : (size n : ℕ) (bs f : List ℕ) → n * size + size ≤ length f → length bs ≡ size → page_of size n (with_page size n bs f) ≡ bs
unfolding with_page
page_same size n bs f h e =
    let w : length (take (n * size) f) ≡ n * size = length-take-le (n * size) f (omega arith) in
    ap (take size) (drop_at (take (n * size) f) (bs ++ drop (n * size + size) f) (n * size) w) ∙ take_at bs (drop (n * size + size) f) size e

pub page_other : (size n q : ℕ) (bs f : List ℕ) → n * size + size ≤ length f → length bs ≡ size → (n ≡ q → ⊥)
    → page_of size q (with_page size n bs f) ≡ page_of size q f
unfolding with_page
page_other size n q bs f h e ne =
    by_test (ltb q n)
    (λ b.
    let le : suc q * size ≤ n * size = mul-le-mul_right size (ltb-true q n b) in
    let wA : length A ≡ n * size = length-take-le (n * size) f (omega arith) in
    page_left size q A (bs ++ W) (omega arith)
    ∙ sym (page_left size q A (drop (n * size) f) (omega arith))
    ∙ ap (page_of size q) (take-append-drop (n * size) f))
    (λ b.
    let after : suc n ≤ q = omega (arith, ltb-false q n b, ne) in
    let le : suc n * size ≤ q * size = mul-le-mul_right size after in
    let wA : length A ≡ n * size = length-take-le (n * size) f (omega arith) in
    let w1 : length (A ++ bs) ≡ n * size + size = rw length-append (omega arith) in
    let w2 : length (take (n * size + size) f) ≡ n * size + size = length-take-le (n * size + size) f h in
    ap (λ (x : List ℕ). take size (drop (q * size) x)) (sym (append_assoc A bs W))
    ∙ ap (take size) (past (q * size) (A ++ bs) W (omega arith) ∙ ap (λ (i : ℕ). drop (q * size - i) W) (w1 ∙ sym w2)
    ∙ sym (past (q * size) (take (n * size + size) f) W (omega arith)))
    ∙ ap (λ (x : List ℕ). take size (drop (q * size) x)) (take-append-drop (n * size + size) f))
  where
    A : List ℕ
    A = take (n * size) f

    W : List ℕ
    W = drop (n * size + size) f

module _ (s : Settings) where
  abbrev size : ℕ
  size = s.size

  pub pages_length : (ps : List Page) (j : ℕ) (f : List ℕ) → AllFit s ps → length f ≡ size * s.count → length (with_pages size (take j ps) f) ≡ size * s.count
  unfolding with_pages AllFit
  pages_length ps zero f fits ef = ef
  pages_length [] (suc j) f fits ef = ef
  pages_length (p ∷ ps) (suc j) f fits ef = pages_length ps j (with_page size p.number p.bytes f) fits.1 (put_length s p f fits.0 ef)

  pub pages_other : (ps : List Page) (j q : ℕ) (f : List ℕ) → AllFit s ps → length f ≡ size * s.count
      → ((i : ℕ) (p : Page) → i < j → At ps i p → p.number ≡ q → ⊥) → page_of size q (with_pages size (take j ps) f) ≡ page_of size q f
  unfolding with_pages AllFit
  pages_other ps zero q f fits ef h = refl
  pages_other [] (suc j) q f fits ef h = refl
  pages_other (p ∷ ps) (suc j) q f fits ef h =
      pages_other ps j q (with_page size p.number p.bytes f) fits.1 (put_length s p f fits.0 ef)
      (λ i r hi a. h (suc i) r (omega arith) (record { later = a.later; is = a.is }))
      ∙ page_other size p.number q p.bytes f (page_inside s p f fits.0 ef) fits.0.whole (h 0 p (omega arith) (record { later = ps; is = refl }))

  pub pages_held : (ps : List Page) (i j : ℕ) (p : Page) (f : List ℕ) → AllFit s ps → length f ≡ size * s.count → i < j → At ps i p
      → ((k : ℕ) (q : Page) → i < k → At ps k q → q.number ≡ p.number → ⊥) → page_of size p.number (with_pages size (take j ps) f) ≡ p.bytes
  unfolding with_pages AllFit
  pages_held ps i zero p f fits ef hi a h = absurd (omega arith)
  pages_held [] i (suc j) p f fits ef hi a h = absurd (nothing_at i p a)
  pages_held (r ∷ ps) zero (suc j) p f fits ef hi a h =
      let same : r ≡ p = cc a.is in
      pages_other ps j p.number (with_page size r.number r.bytes f) fits.1 (put_length s r f fits.0 ef)
      (λ k q hk b. h (suc k) q (omega arith) (record { later = b.later; is = b.is }))
      ∙ subst (λ (x : Page). page_of size x.number (with_page size r.number r.bytes f) ≡ x.bytes) same
      (page_same size r.number r.bytes f (page_inside s r f fits.0 ef) fits.0.whole)
  pages_held (r ∷ ps) (suc i) (suc j) p f fits ef hi a h =
      pages_held ps i j p (with_page size r.number r.bytes f) fits.1 (put_length s r f fits.0 ef) (omega arith) (record { later = a.later; is = a.is })
      (λ k q hk b. h (suc k) q (omega arith) (record { later = b.later; is = b.is }))

-- A page that is compared.
use mathlib.Core.Path.{◌≡◌, sym, ap, ◌∙◌}
use mathlib.Core.Bool.{true, false}
use mathlib.Core.List.{List, [], ◌∷◌}
use Prim.Native.Nat.{ℕ, suc, ◌+◌, ◌*◌, ◌≤◌, ◌<◌}
use native.Mathlib.Omega.{arith}
use lib.Dec.{eqb}
use Rattle.std.specs.Prelude.{Ok, Err}
use lib.ListN.{length}
use borrow.Author.Tests.{eq-eqb, eqb-true, lt-ltb}
use Rattle.laws.proofs.Tests.{by_test}
use Rattle.radio_job.specs.declared.JobPoint.TheVariants.{TakesPage}
use Rattle.radio_job.specs.Image.{page_count, image_page}
use Rattle.radio_job.specs.Job.{same_bytes, shared, goes_on, page_ending}
use Rattle.radio_job.specs.Advance.{length_ending, reply_ending}
use Rattle.radio_job.proofs.Laws.Image.{image_page_long}
use Rattle.radio_job.proofs.Laws.Fits.{shares_all, shares_less}
use Rattle.radio_image.specs.Page.{image_page_put}

-- lists of one length are the same where they share all
pub same_shared : (n : ℕ) (xs ys : List ℕ) → length xs ≡ n → length ys ≡ n → shared xs ys ≡ n → same_bytes xs ys ≡ true
same_shared n xs ys a b e = by_test (same_bytes xs ys) (λ t. t) (λ t. absurd (let l = shares_less xs ys (a ∙ sym b) t in omega arith))

pub other_shared : (n : ℕ) (xs ys : List ℕ) → length ys ≡ n → (shared xs ys ≡ n → ⊥) → same_bytes xs ys ≡ false
other_shared n xs ys b e = by_test (same_bytes xs ys) (λ t. absurd (e (shares_all xs ys t ∙ b))) (λ t. t)

-- a page that was put is the image's
pub put_page_is : (im : List ℕ) (p : ℕ) (out : List ℕ) → length out ≡ 256 → p < page_count im → image_page_put im p out ≡ image_page im p
unfolding image_page_put
put_page_is im p out l h = rw (eq-eqb (length out) 256 l, lt-ltb p (page_count im) h)

-- A page read back, by the bytes that it shares with the image's.
pub whole_page : (r : List ℕ) → length_ending 256 r ≡ Ok tt → length r ≡ 256
unfolding length_ending
whole_page r = by_test (eqb (length r) 256) (λ t q. eqb-true (length r) 256 t) (λ t. rw t (λ q. absurd (let z : ◌≡◌ {A = ℕ} 0 1 = cc in omega arith)))

module _ (p : ℕ) (im r w w₀ : List ℕ) (at : ℕ) (h : p < page_count im) (l : length r ≡ 256) (is : w ≡ image_page_put im p w₀) (l₀ : length w₀ ≡ 256) (e : at ≡ shared r w) where
  wanted : w ≡ image_page im p
  wanted = is ∙ put_page_is im p w₀ l₀ h

  shares : at ≡ shared r (image_page im p)
  shares = e ∙ ap (λ (x : List ℕ). shared r x) wanted

  pub page_agrees : at ≡ 256 → goes_on ≡ reply_ending (TakesPage p) im r
  unfolding page_ending
  page_agrees q =
      rw (eq-eqb (length r) 256 l, same_shared 256 r (image_page im p) l (image_page_long im p h) (sym shares ∙ q))

  pub page_disagrees : (at ≡ 256 → ⊥) → Err (record { number = 43; code = 0; offset = 256 * p + at }) ≡ reply_ending (TakesPage p) im r
  unfolding page_ending
  page_disagrees q =
      rw (eq-eqb (length r) 256 l, other_shared 256 r (image_page im p) (image_page_long im p h) (λ z. q (shares ∙ z)))
      (ap (λ (o : ℕ). Err (record { number = 43; code = 0; offset = 256 * p + o })) shares)

-- no more bytes are shared than there are
pub shares_most : (xs ys : List ℕ) → shared xs ys ≤ length xs
unfolding shared
shares_most [] ys = omega arith
shares_most (x ∷ xs) [] = let z : 0 ≤ suc (length xs) = omega arith in z
shares_most (x ∷ xs) (y ∷ ys) =
    by_test (eqb x y)
    (λ t. let i = shares_most xs ys in let z : 1 + shared xs ys ≤ suc (length xs) = omega arith in rw t z)
    (λ t. let z : 0 ≤ suc (length xs) = omega arith in rw t z)

pub shares_at : (r w : List ℕ) (at : ℕ) → at ≡ shared r w → at ≤ length r
shares_at r w at e = let m = shares_most r w in omega arith

-- The pages of an image: one after the other, so many, each of 256 bytes, and together the padded image.
use mathlib.Core.Path.{◌≡◌, refl, ap, ◌∙◌}
use mathlib.Core.Bool.{true}
use mathlib.Core.List.{List, [], ◌∷◌}
use Prim.Native.Nat.{ℕ, zero, suc, ◌+◌, ◌*◌, ◌-◌, ◌≤◌, ◌<◌}
use native.Mathlib.Omega.{arith}
use lib.Dec.{leb}
use lib.ListN.{length, take, drop, replicate, length-append, length-replicate, length-drop, length-take, drop_of_length-le}
use lib.Seq.{drop-drop}
use borrow.Author.Tests.{eqb-true, leb-true}
use Rattle.laws.proofs.Tests.{passes, both}
use Rattle.radio_job.specs.Image.{JobInput, mask_fits, image_fits, input_number, input_refusal, page_count}
use Rattle.radio_job.specs.Image.{padded, split_pages, image_pages, image_page, merged}

pub pages_many : (n : ℕ) (bs : List ℕ) → length (split_pages n bs) ≡ n
unfolding split_pages
pages_many zero bs = refl
pages_many (suc n) bs = ap suc (pages_many n (drop 256 bs))

-- a page, and those behind it
split_next : (n p : ℕ) (bs : List ℕ) → p < n → drop p (split_pages n bs) ≡ take 256 (drop (256 * p) bs) ∷ drop (suc p) (split_pages n bs)
unfolding split_pages
split_next zero p bs h = absurd (let z : p < 0 = h in omega arith)
split_next (suc n) zero bs h = refl
split_next (suc n) (suc p) bs h =
    let l : p < n = omega arith in
    let z : 256 + 256 * p ≡ 256 * suc p = omega arith in
    split_next n p (drop 256 bs) l
    ∙ ap (λ (t : List ℕ). take 256 t ∷ drop (suc p) (split_pages n (drop 256 bs))) (drop-drop (256 * p) 256 bs ∙ ap (λ (k : ℕ). drop k bs) z)

pub image_next : (im : List ℕ) (p : ℕ) → p < page_count im → drop p (image_pages im) ≡ image_page im p ∷ drop (suc p) (image_pages im)
unfolding image_page
image_next im p h = split_next (page_count im) p (padded im) h

-- behind the last there is none
pub image_last : (im : List ℕ) (p : ℕ) → page_count im ≤ p → drop p (image_pages im) ≡ []
image_last im p h =
    let l = pages_many (page_count im) (padded im) in
    let z : length (image_pages im) ≤ p = omega arith in
    drop_of_length-le (image_pages im) z

pub padded_long : (im : List ℕ) → length (padded im) ≡ 256 * page_count im
unfolding padded
padded_long im =
    let j = length-append im (replicate (256 * page_count im - length im) 0xFF) in
    let r = length-replicate {A = ℕ} (256 * page_count im - length im) 0xFF in
    omega arith

pub image_page_long : (im : List ℕ) (p : ℕ) → p < page_count im → length (image_page im p) ≡ 256
unfolding image_page
image_page_long im p h =
    let w = padded_long im in
    let a = length-take 256 (drop (256 * p) (padded im)) in
    let b = length-drop (256 * p) (padded im) in
    omega arith

pub merged_long : (n : ℕ) (ms ds os : List ℕ) → length ms ≡ n → length ds ≡ n → length os ≡ n → length (merged ms ds os) ≡ n
unfolding merged
merged_long n ms ds [] a b c = c
merged_long n ms [] (o ∷ os) a b c = absurd (let x : suc (length os) ≡ n = c in let y : 0 ≡ n = b in omega arith)
merged_long n [] (d ∷ ds) (o ∷ os) a b c = absurd (let x : suc (length os) ≡ n = c in let y : 0 ≡ n = a in omega arith)
merged_long zero (m ∷ ms) (d ∷ ds) (o ∷ os) a b c = absurd (let x : suc (length os) ≡ 0 = c in omega arith)
merged_long (suc n) (m ∷ ms) (d ∷ ds) (o ∷ os) a b c =
    let x : suc (length ms) ≡ suc n = a in let y : suc (length ds) ≡ suc n = b in let z : suc (length os) ≡ suc n = c in
    ap suc (merged_long n ms ds os (omega arith) (omega arith) (omega arith))

-- what a mask and an image length that fit are
pub mask_long : (m : List ℕ) → mask_fits m ≡ true → length m ≡ 256
unfolding mask_fits
mask_long m e = eqb-true (length m) 256 (both _ _ e).0

pub record Sized (bytes : ℕ) : Type 0 where
  pub some : 1 ≤ bytes
  pub few : bytes ≤ 32256

pub sized : (n : ℕ) → image_fits n ≡ true → Sized n
unfolding image_fits
sized n e = let b = both (leb 1 n) (leb n 32256) e in record { some = leb-true 1 n b.0; few = leb-true n 32256 b.1 }

-- what an accepted opening was given
pub record AcceptedInput (g : JobInput) : Type 0 where
  pub masked : mask_fits g.mask ≡ true
  pub ours : length g.ours ≡ 256
  pub fits : image_fits (length g.image) ≡ true

pub accepted_input : (g : JobInput) → input_refusal g ≡ 0 → AcceptedInput g
unfolding input_number
accepted_input g e =
    let p = passes _ _ 29 (omega arith) e in
    let q = passes _ 0 30 (omega arith) p.1 in
    let a = both (mask_fits g.mask) _ p.0 in
    record { masked = a.0; ours = eqb-true (length g.ours) 256 a.1; fits = q.0 }

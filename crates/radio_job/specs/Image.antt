-- What a job is opened with: an image, and data for the configuration under a mask (document 02, i). Which of
-- them are refused, the image's pages, and the merged configuration.
use Rattle.std.specs.Prelude.{Bool, cond, ◌==◌, ◌&&◌, ◌||◌, List, [], ◌∷◌, ◌++◌, ℕ, zero, suc, ◌+◌, ◌*◌, ◌-◌, ◌/◌, eqb, leb, length, take, drop, replicate, get_or}
use Rattle.std.specs.List.{list_all}
use Rattle.radio_command.specs.Numbers.{bad_mask, bad_image_length}

-- the image, the mask, and our data
pub record JobInput : Type 0 where
  pub image : List ℕ
  pub mask : List ℕ
  pub ours : List ℕ

-- whether each byte of a mask is 0x00 or 0xFF
unfoldable pub is_mask : List ℕ → Bool
is_mask m = list_all (λ b. b == 0x00 || b == 0xFF) m

-- a mask is 256 such bytes, of which 2 and 3 name nothing
unfoldable pub mask_fits : (mask : List ℕ) → Bool
mask_fits m = eqb (length m) 256 && (eqb (get_or m 2 0) 0x00 && (eqb (get_or m 3 0) 0x00 && is_mask m))

-- the lengths of an image: 1 to 32,256 bytes
unfoldable pub image_fits : (bytes : ℕ) → Bool
image_fits n = leb 1 n && leb n 32256

-- 29 for mask or data, then 30 for the image
unfoldable pub input_number : (mask : List ℕ) → (ours image : ℕ) → ℕ
input_number m k n = cond (mask_fits m && eqb k 256) (cond (image_fits n) 0 bad_image_length) bad_mask

abbrev pub input_refusal : JobInput → ℕ
input_refusal g = input_number g.mask (length g.ours) (length g.image)

-- the number of pages that so many bytes take
abbrev pub pages_for : (bytes : ℕ) → ℕ
pages_for n = (n + 255) / 256

abbrev pub page_count : (image : List ℕ) → ℕ
page_count im = pages_for (length im)

-- the image, padded with 0xFF to whole pages
unfoldable pub padded : (image : List ℕ) → List ℕ
padded im = im ++ replicate (256 * page_count im - length im) 0xFF

-- bytes in pages of 256
unfoldable pub split_pages : (count : ℕ) → (bytes : List ℕ) → List (List ℕ)
split_pages zero bs = []
split_pages (suc n) bs = take 256 bs ∷ split_pages n (drop 256 bs)

-- the pages of the padded image
abbrev pub image_pages : (image : List ℕ) → List (List ℕ)
image_pages im = split_pages (page_count im) (padded im)

-- one of these pages
unfoldable pub image_page : (image : List ℕ) → (page : ℕ) → List ℕ
image_page im p = take 256 (drop (256 * p) (padded im))

-- our byte where the mask is 0xFF, the old one elsewhere
unfoldable pub merged : (mask ours old : List ℕ) → List ℕ
merged ms ds [] = []
merged ms [] (o ∷ os) = []
merged [] (d ∷ ds) (o ∷ os) = []
merged (m ∷ ms) (d ∷ ds) (o ∷ os) = cond (eqb m 0xFF) d o ∷ merged ms ds os

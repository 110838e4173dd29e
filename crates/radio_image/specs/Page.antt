-- A page of the padded image in a lent buffer.
use Rattle.std.specs.Prelude.{cond, ◌&&◌, List, ℕ, eqb, ltb, length}
use Rattle.radio_job.specs.Image.{page_count, image_page}

-- the buffer afterwards: the page, if it is one of the image's and the buffer has 256 bytes
unfoldable pub image_page_put : (image : List ℕ) → (page : ℕ) → (out : List ℕ) → List ℕ
image_page_put im p out = cond (eqb (length out) 256 && ltb p (page_count im)) (image_page im p) out

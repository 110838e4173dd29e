-- A job: what is to be programmed, and the flash that holds it.
use Rattle.std.specs.Prelude.{◌≡◌, List, [], ◌∷◌, ℕ, ◌/◌, length}
use Rattle.laws.specs.Bytes.{Bytes}
use Rattle.settings.specs.declared.Settings.{Settings}
use Rattle.settings.specs.Accepted.{InBytes}
use Rattle.c2_order.specs.Order.{Page, pages, rising}
use Rattle.c2_play.specs.Pages.{with_pages}

-- A device's settings, the numbers of the pages to be programmed, and the image, page by page in that order.
pub record Job : Type 0 where
  pub settings : Settings
  pub pages : List ℕ
  pub image : List ℕ

-- the first page of a list of page numbers
abbrev pub first_of : List ℕ → ℕ
first_of [] = 0
first_of (p ∷ ps) = p

-- A job as a session may be opened for it: settings and image are bytes, as in C, and its pages rise from the
-- first.
pub record Proper (j : Job) : Type 0 where
  pub settings : InBytes j.settings
  pub bytes : Bytes j.image
  pub rising : j.pages ≡ rising (first_of j.pages) (length j.image / j.settings.size)

-- the pages of a job, each with its bytes of the image
abbrev pub job_pages : Job → List Page
job_pages j = pages j.settings.size 0 j.pages j.image

-- the flash with a job's pages in place of the old ones
abbrev pub programmed : Job → (flash : List ℕ) → List ℕ
programmed j f = with_pages j.settings.size (job_pages j) f

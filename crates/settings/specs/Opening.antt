-- What opening a session asks of settings, first page and image (document 01, "Numbers that come back", 1 to
-- 5; document 02, d, 18 after 3, and e, 19 after 18).
use Rattle.std.specs.Prelude.{Bool, cond, ◌&&◌, ℕ, ◌+◌, ◌/◌, ◌%◌, eqb, leb}
use Rattle.numbers.specs.Numbers.{bad_image, past_last_page}
use Rattle.settings.specs.Accepted.{settings_refusal}
use Rattle.settings.specs.declared.Settings.{Settings}

-- the image is not empty, and whole pages
unfoldable pub is_image : (size length : ℕ) → Bool
is_image size n = leb 1 n && eqb (n % size) 0

-- the pages of an image of this length, from the first page on, are pages of the device
unfoldable pub are_pages : Settings → (first length : ℕ) → Bool
are_pages s first n = leb (first + n / s.size) s.count

-- the number by which an opening is refused, tested in this order, or 0
unfoldable pub opening_refusal : Settings → (first length : ℕ) → ℕ
opening_refusal s first n =
    cond (eqb (settings_refusal s) 0)
    (cond (is_image s.size n) (cond (are_pages s first n) 0 past_last_page) bad_image)
    (settings_refusal s)

-- The flash page by page, with pages of an image in it, and the order up to some of them.
use Rattle.std.specs.Prelude.{◌≡◌, List, [], ◌∷◌, ◌++◌, map, ℕ, ◌+◌, ◌*◌, take, drop}
use Rattle.settings.specs.declared.Settings.{Settings}
use Rattle.c2_order.specs.Acts.{Act}
use Rattle.c2_order.specs.Order.{Page, joined, preparation, page_acts}

-- a page of the flash
abbrev pub page_of : (size number : ℕ) → (flash : List ℕ) → List ℕ
page_of size n f = take size (drop (n * size) f)

-- the flash with these bytes for a page
unfoldable pub with_page : (size number : ℕ) → (bytes flash : List ℕ) → List ℕ
with_page size n bs f = take (n * size) f ++ (bs ++ drop (n * size + size) f)

-- the flash with these pages of an image, each in its place
unfoldable pub with_pages : (size : ℕ) → List Page → (flash : List ℕ) → List ℕ
with_pages size [] f = f
with_pages size (p ∷ ps) f = with_pages size ps (with_page size p.number p.bytes f)

-- A page stands at this place of a list of pages.
pub record At (ps : List Page) (i : ℕ) (p : Page) : Type 0 where
  pub later : List Page
  pub is : drop i ps ≡ p ∷ later

-- the order up to the end of some pages, from the preparation on
abbrev pub up_to : Settings → List Page → List Act
up_to s ps = preparation s ++ joined (map (page_acts s) ps)

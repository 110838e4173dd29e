-- What the calls on the flash do where a change or a page does not lie in it: nothing. For the code alone:
-- `is_made` and `is_put` of Changes in proofs/Laws/ join it to `changed` and `page_set`.
use Rattle.std.specs.Prelude.{Bool, true, cond, ◌&&◌, List, ℕ, ◌==◌, nat_lt, length}
use Rattle.radio_flash.specs.declared.FlashChange.{FlashChange}
use Rattle.radio_flash.specs.declared.FlashChange.TheVariants.{Nothing, Byte, Page, Area}
use Rattle.radio_flash.specs.Flash.{flash_bytes, page_set, changed}

-- the changes that lie in pages 0 to 127
abbrev pub in_area : FlashChange → Bool
in_area Nothing = true
in_area (Byte a b) = nat_lt a 32768
in_area (Page p) = nat_lt p 128
in_area Area = true

-- a change made to a flash: one of another length stays, and so does one that the change does not lie in
unfoldable pub change_made : FlashChange → (flash : List ℕ) → List ℕ
change_made c f = cond (length f == flash_bytes && in_area c) (changed c f) f

-- a page put into a flash: one of pages 0 to 127, whole, into a flash of this length, else nothing
unfoldable pub page_put : (page : ℕ) → (bytes flash : List ℕ) → List ℕ
page_put p bs f = cond (length f == flash_bytes && nat_lt p 128 && length bs == 256) (page_set p bs f) f

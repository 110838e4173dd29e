-- A change that lies in the flash is made, and a page that can be set is put.
use mathlib.Core.Path.{◌≡◌}
use mathlib.Core.Bool.{true}
use mathlib.Core.List.{List}
use Prim.Native.Nat.{ℕ, ◌<◌}
use lib.ListN.{length}
use borrow.Author.Tests.{eq-eqb, lt-ltb}
use Rattle.radio_flash.specs.declared.FlashChange.{FlashChange}
use Rattle.radio_flash.specs.Flash.{page_set, changed}
use Rattle.radio_flash.specs.Code.Changes.{in_area, change_made, page_put}

pub is_made : (c : FlashChange) (f : List ℕ) → length f ≡ 33024 → in_area c ≡ true → change_made c f ≡ changed c f
unfolding change_made
is_made c f w l = rw (eq-eqb (length f) 33024 w, l)

pub is_put : (p : ℕ) (m f : List ℕ) → length f ≡ 33024 → p < 128 → length m ≡ 256 → page_put p m f ≡ page_set p m f
unfolding page_put
is_put p m f w h l = rw (eq-eqb (length f) 33024 w, lt-ltb p 128 h, eq-eqb (length m) 256 l)

-- Pages that a session may name, and the length of a flash that holds one.
use mathlib.Core.Path.{◌≡◌, ◌∙◌}
use mathlib.Core.List.{List, [], ◌∷◌}
use Prim.Native.Nat.{ℕ, suc, ◌+◌, ◌*◌, ◌<◌, ◌≤◌}
use native.Mathlib.Nat.{mul-le-mul_right}
use native.Mathlib.Omega.{arith}
use lib.ListN.{length, take, length-append, length-drop}
use lib.Seq.{length-take-le}
use Rattle.laws.specs.Bytes.{Bytes}
use Rattle.settings.specs.declared.Settings.{Settings}
use Rattle.c2_order.specs.Order.{Page}
use Rattle.c2_play.specs.Pages.{with_page, At}

-- A page is the device's: its number is below the page count, and it has bytes for all of it.
pub record Fits (s : Settings) (p : Page) : Type 0 where
  pub number : p.number < s.count
  pub whole : length p.bytes ≡ s.size
  pub bytes : Bytes p.bytes

-- Each page is the device's, and no number stands twice.
pub record Named (s : Settings) (ps : List Page) : Type 0 where
  pub fits : (i : ℕ) (p : Page) → At ps i p → Fits s p
  pub once : (i j : ℕ) (p q : Page) → At ps i p → At ps j q → p.number ≡ q.number → i ≡ j

-- all of these pages are the device's
unfoldable pub AllFit : Settings → List Page → Type 0
AllFit s [] = Unit {0}
AllFit s (p ∷ ps) = Fits s p × AllFit s ps

-- a page of the device lies in its flash
pub page_inside : (s : Settings) (p : Page) (f : List ℕ) → Fits s p → length f ≡ s.size * s.count → p.number * s.size + s.size ≤ length f
page_inside s p f fits ef =
    let le : suc p.number * s.size ≤ s.count * s.size = mul-le-mul_right s.size fits.number in
    omega arith

-- a flash with other bytes for a page is as long as it was
pub with_page_length : (size n : ℕ) (bs f : List ℕ) → n * size + size ≤ length f → length bs ≡ size → length (with_page size n bs f) ≡ length f
unfolding with_page
with_page_length size n bs f h e =
    let w : length (take (n * size) f) ≡ n * size = length-take-le (n * size) f (omega arith) in
    rw (length-append, length-append, length-drop, w) (omega arith)

pub put_length : (s : Settings) (p : Page) (f : List ℕ) → Fits s p → length f ≡ s.size * s.count
    → length (with_page s.size p.number p.bytes f) ≡ s.size * s.count
put_length s p f fits ef = with_page_length s.size p.number p.bytes f (page_inside s p f fits ef) fits.whole ∙ ef

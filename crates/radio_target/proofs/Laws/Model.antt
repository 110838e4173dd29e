-- What a message that is not refused says of point, flash, message and room; and what is then written.
use mathlib.Core.Path.{◌≡◌, refl, ap}
use mathlib.Core.Bool.{Bool, true, false, cond, ◌&&◌}
use mathlib.Core.List.{List, ◌++◌}
use Prim.Native.Nat.{ℕ, ◌+◌, ◌-◌, ◌*◌, ◌≤◌, ◌<◌}
use native.Mathlib.Omega.{arith}
use lib.Dec.{eqb, ltb, leb}
use lib.ListN.{length, take, drop, length-take, length-drop}
use borrow.Author.Tests.{eqb-true, ltb-false, leb-true}
use Rattle.std.proofs.lemmas.Bool.Decides.{nat_tests}
use Rattle.laws.proofs.Tests.{passes, both}
use Rattle.radio_flash.specs.Flash.{flash_bytes, flash_page}
use Rattle.radio_target.specs.declared.ModulePoint.{ModulePoint}
use Rattle.radio_target.specs.declared.ModulePoint.TheVariants.{Waits, Takes, Loads, Sends}
use Rattle.radio_target.specs.declared.RadioTarget.{RadioTarget}
use Rattle.radio_target.specs.declared.RadioReplied.{RadioReplied}
use Rattle.radio_target.specs.State.{replied_with, reply_put}
use Rattle.radio_target.specs.Model.{is_point, is_taken, message_refusal}

-- a test that a number other than 0 would have answered has failed
fails : (t : Bool) (x k : ℕ) → 0 < k → cond t k x ≡ 0 → (t ≡ false) × (x ≡ 0)
fails true x k h e = absurd (omega arith)
fails false x k h e = (refl, e)

-- what holds where a message is not refused
pub record Fits (p : ModulePoint) (f m : List ℕ) (room : ℕ) : Type 0 where
  pub flash : length f ≡ 33024
  pub point : is_point p ≡ true
  pub space : 256 ≤ room
  pub message : is_taken p m ≡ true

pub fits : (p : ModulePoint) (f m : List ℕ) (room : ℕ) → message_refusal p f m room ≡ 0 → Fits p f m room
unfolding message_refusal
fits p f m room e =
    let a = passes (eqb (length f) flash_bytes && is_point p) _ 17 (omega arith) e in
    let b = fails (ltb room 256) _ 26 (omega arith) a.1 in
    let d = passes (is_taken p m) 0 28 (omega arith) b.1 in
    let g = both (eqb (length f) flash_bytes) (is_point p) a.0 in
    record { flash = eqb-true (length f) 33024 g.0; point = g.1; space = ltb-false room 256 b.0; message = d.0 }

-- the bounds of a point's pages
pub spanned : (p n k : ℕ) → leb 1 n && leb (p + n) k ≡ true → (1 ≤ n) × (p + n ≤ k)
spanned p n k e = grind (arith, nat_tests)

-- a page of the flash is 256 bytes
pub page_long : (p : ℕ) (f : List ℕ) → length f ≡ 33024 → p < 129 → length (flash_page p f) ≡ 256
unfolding flash_page
page_long p f w h =
    let a = length-take 256 (drop (256 * p) f) in
    let b = length-drop (256 * p) f in
    omega arith

-- a page copied to a buffer's begin; its length told
pub page_copied : (p : ℕ) (f out s : List ℕ) → length f ≡ 33024 → p < 129 → s ≡ take (256 * p + 256 - 256 * p) (drop (256 * p) f)
    → s ++ drop 256 out ≡ reply_put (flash_page p f) out
unfolding flash_page
page_copied p f out s w h q =
    let e : 256 * p + 256 - 256 * p ≡ 256 = omega arith in
    let is : s ≡ take 256 (drop (256 * p) f) = rw e at q in
    let l : length (take 256 (drop (256 * p) f)) ≡ 256 = page_long p f w h in
    rw l (ap (λ (z : List ℕ). z ++ drop 256 out) is)

pub page_told : (p : ℕ) (f : List ℕ) (t : RadioTarget) (r : RadioReplied) → length f ≡ 33024 → p < 129 → r ≡ replied_with 0 256 t → r ≡ replied_with 0 (length (flash_page p f)) t
page_told p f t r w h e = rw (page_long p f w h) e

-- what each point takes, and what it then knows
module _ (f m : List ℕ) (room : ℕ) where
  pub waits_fit : (p : ModulePoint) → p ≡ Waits → message_refusal p f m room ≡ 0 → (length m ≡ 8) × ((length f ≡ 33024) × (256 ≤ room))
  waits_fit p q e =
      let k = fits p f m room e in
      let t : is_taken Waits m ≡ true = rw q at k.message in
      (eqb-true (length m) 8 (both (eqb (length m) 8) _ t).0, (k.flash, k.space))

  pub takes_fit : (p : ModulePoint) (g n : ℕ) → p ≡ Takes g n → message_refusal p f m room ≡ 0
      → (1 ≤ n) × ((g + n ≤ 128) × ((length m ≡ 256) × ((length f ≡ 33024) × (256 ≤ room))))
  takes_fit p g n q e =
      let k = fits p f m room e in
      let t : is_taken (Takes g n) m ≡ true = rw q at k.message in
      let s = spanned g n 128 (rw q at k.point) in
      (s.0, (s.1, (eqb-true (length m) 256 t, (k.flash, k.space))))

  pub loads_fit : (p : ModulePoint) (n : ℕ) → p ≡ Loads n → message_refusal p f m room ≡ 0 → 1 ≤ n
  loads_fit p n q e =
      let k = fits p f m room e in
      let t : is_point (Loads n) ≡ true = rw q at k.point in
      leb-true 1 n (both (leb 1 n) (leb n 4) t).0

  pub sends_fit : (p : ModulePoint) (g n : ℕ) → p ≡ Sends g n → message_refusal p f m room ≡ 0
      → (1 ≤ n) × ((g + n ≤ 129) × ((length f ≡ 33024) × (256 ≤ room)))
  sends_fit p g n q e =
      let k = fits p f m room e in
      let s = spanned g n 129 (rw q at k.point) in
      (s.0, (s.1, (k.flash, k.space)))

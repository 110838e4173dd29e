-- What is claimed of the module. Types alone: proofs/Laws/Claims proves each.
use Rattle.std.specs.Prelude.{◌≡◌, true, List, ℕ, ◌≤◌, length, Some}
use Rattle.numbers.specs.Numbers.{no_point}
use Rattle.radio_flash.specs.Flash.{flash_bytes}
use Rattle.radio_target.specs.declared.ModulePoint.{ModulePoint}
use Rattle.radio_target.specs.declared.RadioTarget.{RadioTarget}
use Rattle.radio_target.specs.Model.{is_point, response, message_refusal}
use Rattle.radio_target.specs.State.{module_state, module_point, radio_stepped}

-- The state of a point is read back as that point.
abbrev pub PointBack : Type 0
PointBack = (p : ModulePoint) → module_point (module_state p) ≡ Some p

-- A state that has a point is that point's state: a point has one state only.
abbrev pub PointState : Type 0
PointState = (t : RadioTarget) (p : ModulePoint) → module_point t ≡ Some p → module_state p ≡ t

-- A message that is taken leaves a module: its point is one that there is, its flash as long as before, and
-- the reply not longer than a page.
abbrev pub StaysModule : Type 0
StaysModule = (p : ModulePoint) (f m : List ℕ) (room : ℕ) → message_refusal p f m room ≡ 0
    → (is_point (response p f m).point ≡ true) × ((length (response p f m).flash ≡ flash_bytes) × (length (response p f m).reply ≤ 256))

-- After a message that was taken no message is refused by 17, if the flash is lent as it was left.
abbrev pub NeverLost : Type 0
NeverLost = (t : RadioTarget) (f m : List ℕ) (room : ℕ) → (radio_stepped t f m room).number ≡ 0 → (n : List ℕ) (space : ℕ)
    → (radio_stepped (radio_stepped t f m room).target (radio_stepped t f m room).flash n space).number ≡ no_point → ⊥

-- What is claimed of a target's state in C. Types alone: proofs/Laws/Claims proves each.
use Rattle.std.specs.Prelude.{◌≡◌, true, List, ℕ, ◌<◌, Some}
use Rattle.settings.specs.declared.Settings.{Settings}
use Rattle.settings.specs.declared.Pairs.{Pairs}
use Rattle.settings.specs.Accepted.{settings_refusal}
use Rattle.c2_target.specs.declared.Target.{Target}
use Rattle.c2_target.specs.Delays.{setup}
use Rattle.c2_target.specs.Known.{known}
use Rattle.c2_target.specs.Target.{Replied, answer, flash_after}
use Rattle.c2_target_state.specs.declared.State.{State}
use Rattle.c2_target_state.specs.declared.ModelReplied.{ModelReplied}
use Rattle.c2_target_state.specs.State.{state_of, target_of}
use Rattle.c2_target_state.specs.Model.{gives, model_answer, model_flash}

-- The state of a target that exists is read back as that target. The limit of a WAIT is a byte, as in C.
abbrev pub StateReads : Type 0
StateReads = (s : Settings) (w : Pairs) (t : Target) (f ds : List ℕ) → settings_refusal s ≡ 0 → s.wait < 256 → known (setup s w ds) t f ≡ true
    → target_of (state_of t) ≡ Some t

-- What is read from a state has that state.
abbrev pub HasState : Type 0
HasState = (t : Target) (s : State) → target_of s ≡ Some t → state_of t ≡ s

-- A target has one state only.
abbrev pub OneState : Type 0
OneState = (t : Target) (a b : State) → target_of a ≡ Some t → target_of b ≡ Some t → a ≡ b

-- what a target's step gives, as a step on its state gives it
abbrev pub state_answer : Replied → ModelReplied
state_answer r = gives r.number r.reply (state_of r.target)

-- A step on the state of a target that exists is the target's step, whatever pairs it wants: number and
-- reply, the state, and the flash.
abbrev pub StepsAlike : Type 0
StepsAlike = (s : Settings) (w : Pairs) (t : Target) (f ds : List ℕ) (x : ℕ) → settings_refusal s ≡ 0 → s.wait < 256
    → known (setup s w ds) t f ≡ true
    → (model_answer s w (state_of t) f ds x ≡ state_answer (answer (setup s w ds) t f x))
    × (model_flash s w (state_of t) f ds x ≡ flash_after (setup s w ds) t f x)

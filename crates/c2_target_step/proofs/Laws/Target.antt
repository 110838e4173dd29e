-- What a step gives that is not refused, and what it says of the step.
use mathlib.Core.Path.{◌≡◌, refl}
use mathlib.Core.Bool.{true, cond}
use mathlib.Core.List.{List}
use Rattle.std.specs.Prelude.{Ok}
use Prim.Native.Nat.{ℕ}
use native.Mathlib.Omega.{arith}
use borrow.Author.Tests.{eqb-true, eqb-false}
use lib.Dec.{eqb}
use Rattle.laws.proofs.Tests.{by_test, passes}
use Rattle.numbers.specs.Numbers.{no_step, no_point}
use Rattle.settings.specs.Accepted.{settings_refusal}
use Rattle.c2_target.specs.declared.Target.{Target}
use Rattle.c2_target.specs.declared.Turned.{Turned}
use Rattle.c2_target.specs.Delays.{Setup}
use Rattle.c2_target.specs.Known.{known}
use Rattle.c2_target.specs.Target.{stepped, is_step, step_coded, setup_refusal, step_refusal, told, answer, flash_after}
use Rattle.c2_target_step.specs.Code.Parts.{turn_replied}

-- what the code gives of a step that is not refused
abbrev pub Stepped : Setup → Target → List ℕ → (step : ℕ) → Turned → (flash : List ℕ) → Type 0
Stepped u t f x r f₁ = (r ≡ turn_replied (stepped u t f (step_coded x))) × (f₁ ≡ (stepped u t f (step_coded x)).flash)

-- what a step gives that is not refused
pub is_accepted : (u : Setup) (t : Target) (f : List ℕ) (x : ℕ) → step_refusal u t f x ≡ 0 → (r : Turned) (f₁ : List ℕ) → Stepped u t f x r f₁
    → (told t (Ok r) ≡ answer u t f x) × (f₁ ≡ flash_after u t f x)
unfolding answer flash_after
is_accepted u t f x e r f₁ k = rw (e, k.0, k.1) (refl, refl)

-- an accepted step is one of a state that exists, and a step (`accepts`), with settings and wanted pairs that
-- pass (`passes_setup`), and so with settings that pass (`passes_settings`)
module _ (u : Setup) (t : Target) (f : List ℕ) (x : ℕ) (so : step_refusal u t f x ≡ 0) where
  pub passes_setup : setup_refusal u ≡ 0
  unfolding step_refusal
  passes_setup =
      by_test (eqb (setup_refusal u) 0) (λ a. eqb-true (setup_refusal u) 0 a) (λ a. absurd (eqb-false (setup_refusal u) 0 a (rw a at so)))

  pub passes_settings : settings_refusal u.settings ≡ 0
  unfolding setup_refusal
  passes_settings =
      by_test (eqb (settings_refusal u.settings) 0) (λ a. eqb-true (settings_refusal u.settings) 0 a)
      (λ a. absurd (eqb-false (settings_refusal u.settings) 0 a (rw a at passes_setup)))

  pub accepts : (known u t f ≡ true) × (is_step x ≡ true)
  unfolding step_refusal
  accepts =
      let p = passes (known u t f) (cond (is_step x) 0 no_step) no_point (omega arith) (rw passes_setup at so) in
      (p.0, (passes (is_step x) 0 no_step (omega arith) p.1).0)

-- One step of the modelled target (document 01, "The modelled target"): strobes, the reset pulse, the wait of
-- 20 ms, and the refusals.
use Rattle.std.specs.Prelude.{Bool, true, false, not, cond, ◌&&◌, ◌||◌, List, ℕ, eqb, leb, Result, Ok, Err}
use Rattle.numbers.specs.declared.Refusal.{Refusal}
use Rattle.numbers.specs.Numbers.{no_step, no_point, bad_pairs, refusal_number}
use Rattle.c2_wire.specs.Bits.{bit}
use Rattle.c2_wire.specs.Step.{Step, released, driven, reset, pause, off}
use Rattle.settings.specs.Accepted.{settings_refusal}
use Rattle.settings.specs.Registers.{are_pairs}
use Rattle.c2_target.specs.declared.Command.TheVariants.{Ready}
use Rattle.c2_target.specs.declared.Output.TheVariants.{Empty}
use Rattle.c2_target.specs.declared.Point.TheVariants.{Start}
use Rattle.c2_target.specs.declared.Device.{Device}
use Rattle.c2_target.specs.declared.Target.{Target}
use Rattle.c2_target.specs.declared.Turned.{Turned}
use Rattle.c2_target.specs.Delays.{Setup}
use Rattle.c2_target.specs.Interface.{link, device, with_on, none_met}
use Rattle.c2_target.specs.Strobes.{target, Turn, turn, strobed}
use Rattle.c2_target.specs.Known.{known}

-- the device after a reset: address 0, interface off, no command, output, d or e, and no key write since, nor any
-- other
unfoldable pub cleared : Device
cleared = device 0 false 0 none_met (link Ready Empty 0 0)

-- the fresh target: besides what a reset clears it has no frame, no mark, and the first delay
unfoldable pub fresh : Target
fresh = target Start 0 false cleared

-- the target after step 4: flash, mark and delay place are kept
unfoldable pub after_reset : Target → Target
after_reset t = target Start t.place t.collision cleared

-- The target after step 5: it turns the interface on where the last Data Writes were the three key writes and no
-- other frame has begun, and changes nothing elsewhere.
unfoldable pub after_pause : Target → Target
after_pause t =
    let d = t.device in
    target t.point t.place t.collision (with_on (eqb d.keys 3 || d.on) d)

-- One step. Steps 4, 5 and 6 reply 1, and 6 changes nothing.
unfoldable pub stepped : Setup → Target → List ℕ → Step → Turn
stepped u t f released = strobed u t f released
stepped u t f (driven b) = strobed u t f (driven b)
stepped u t f reset = turn true (after_reset t) f
stepped u t f pause = turn true (after_pause t) f
stepped u t f off = turn true t f

-- whether a byte is a step: 1 and those above 6 are none
unfoldable pub is_step : ℕ → Bool
is_step x = leb x 6 && not (eqb x 1)

-- the step of a byte
unfoldable pub step_coded : ℕ → Step
step_coded x =
    cond (eqb x 0) released
    (cond (eqb x 2) (driven false)
    (cond (eqb x 3) (driven true)
    (cond (eqb x 4) reset
    (cond (eqb x 5) pause off))))

-- The number by which settings and wanted pairs are refused, or 0: settings by 1 to 3, 18 and 19, then the wanted
-- pairs by 19.
unfoldable pub setup_refusal : Setup → ℕ
setup_refusal u =
    cond (eqb (settings_refusal u.settings) 0)
    (cond (are_pairs u.settings.fpdat u.wanted) 0 bad_pairs)
    (settings_refusal u.settings)

-- The number by which a step is refused, or 0: what it is lent, then 17, then 16.
unfoldable pub step_refusal : Setup → Target → List ℕ → (step : ℕ) → ℕ
step_refusal u t f x =
    cond (eqb (setup_refusal u) 0)
    (cond (known u t f) (cond (is_step x) 0 no_step) no_point)
    (setup_refusal u)

-- What a step gives back: a number, 0 where the step is accepted, the reply, and the target afterwards.
pub record Replied : Type 0 where
  pub number : ℕ
  pub reply : ℕ
  pub target : Target

-- the same by what the code gives, which says of a refused step only why: it changes nothing and replies 1
abbrev pub told : Target → Result Turned Refusal → Replied
told t (Ok r) = record { number = 0; reply = bit r.reply; target = r.target }
told t (Err e) = record { number = refusal_number e; reply = 1; target = t }

-- What a step gives back by the number of its refusal (`answered`), and the flash afterwards (`flash_left`).
-- A refused step changes nothing and replies 1.
abbrev pub answered : (number : ℕ) → Setup → Target → List ℕ → (step : ℕ) → Replied
answered n u t f x =
    let r = stepped u t f (step_coded x) in
    cond (eqb n 0) (record { number = 0; reply = bit r.reply; target = r.target }) (record { number = n; reply = 1; target = t })

abbrev pub flash_left : (number : ℕ) → Setup → Target → List ℕ → (step : ℕ) → List ℕ
flash_left n u t f x = cond (eqb n 0) (stepped u t f (step_coded x)).flash f

-- what a step gives back
unfoldable pub answer : Setup → Target → List ℕ → (step : ℕ) → Replied
answer u t f x = answered (step_refusal u t f x) u t f x

-- the flash after a step
unfoldable pub flash_after : Setup → Target → List ℕ → (step : ℕ) → List ℕ
flash_after u t f x = flash_left (step_refusal u t f x) u t f x

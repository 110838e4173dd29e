-- For the code, which gives reply and target and writes the flash apart: parts of what the definitions give.
-- The contract of `stepped` (src/steps.rt) and `strobed_flash` of proofs/Laws/Flash join them to the definitions.
use Rattle.std.specs.Prelude.{Bool, true, cond, List, ℕ, eqb}
use Rattle.settings.specs.declared.Settings.{Settings}
use Rattle.c2_target.specs.declared.Effect.{Effect}
use Rattle.c2_target.specs.declared.Effect.TheVariants.{Nothing, SetAddress, Write, CountDown, Read}
use Rattle.c2_target.specs.declared.Point.{Point}
use Rattle.c2_target.specs.declared.Point.TheVariants.{Start, Ins, WriteLength, ReadLength, Address, Data, LongData, Wait, Waiting, Send, Stop}
use Rattle.c2_target.specs.declared.Device.{Device}
use Rattle.c2_target.specs.declared.Target.{Target}
use Rattle.c2_target.specs.declared.Command.{Command}
use Rattle.c2_target.specs.declared.Output.{Output}
use Rattle.c2_target.specs.declared.Turned.{Turned}
use Rattle.c2_target_step.specs.declared.Lent.{Lent}
use Rattle.c2_target.specs.Delays.{Setup, setup}
use Rattle.c2_target.specs.Commands.{PutTaken, takes_put}
use Rattle.c2_target.specs.Interface.{Acted, linked}
use Rattle.c2_target.specs.Strobes.{target, Turn}
use Rattle.c2_target.specs.Target.{after_reset, after_pause}

-- what the target is lent
abbrev pub lent : Lent → Setup
lent u = setup u.t u.wanted u.delays.now

-- what a step gives that is not refused
abbrev pub replying : (reply : Bool) → Target → Turned
replying r t = record { reply = r; target = t }

-- what a strobe gives that is not refused
abbrev pub turn_replied : Turn → Turned
turn_replied r = replying r.reply r.target

-- what a step gives that is no strobe
abbrev pub still : Target → (step : ℕ) → Turned
still t x = replying true (cond (eqb x 4) (after_reset t) (cond (eqb x 5) (after_pause t) t))

-- the target after a frame's STOP
abbrev pub stopped : Target → Acted → Target
stopped t a = target Start a.place t.collision a.device

-- what a byte put makes of the command and of the output
abbrev pub put_taking : PutTaken → Command × Output
put_taking r = (r.command, r.output)

-- The flash after a frame's STOP, by what the frame does: only a put changes it, whether the device is
-- prepared or not.
abbrev pub effect_flash : Settings → Effect → Device → List ℕ → List ℕ
effect_flash s Nothing d f = f
effect_flash s (SetAddress a) d f = f
effect_flash s (Write b) d f = cond (linked s d) (takes_put s true d.link.command b f).flash f
effect_flash s CountDown d f = f
effect_flash s Read d f = f

-- the flash after a strobe: only a STOP changes it
abbrev pub strobe_flash : Settings → Point → Device → List ℕ → List ℕ
strobe_flash s Start d f = f
strobe_flash s (Ins n v) d f = f
strobe_flash s (WriteLength n v) d f = f
strobe_flash s (ReadLength n v) d f = f
strobe_flash s (Address n v) d f = f
strobe_flash s (Data n v) d f = f
strobe_flash s (LongData n) d f = f
strobe_flash s (Wait n e) d f = f
strobe_flash s (Waiting z n e) d f = f
strobe_flash s (Send n v e) d f = f
strobe_flash s (Stop e) d f = effect_flash s e d f

use mathlib.Core.Path.{sym}
use mathlib.Core.List.{[]}
use Rattle.c2_target.specs.Delays.{setup}
use Rattle.c2_target_step.proofs.Laws.Target.{accepts}
use Rattle.c2_target_step.proofs.steps.step.Goals as goal

pub stepped-requires-clause-x_value : goal.stepped-requires-clause-x_value
stepped-requires-clause-x_value c = let a = c.args in (accepts (setup a.t a.wanted []) a.target a.flash.now a.x (sym (c.in_ok-refusal.ensures []))).1

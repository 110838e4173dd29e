use mathlib.Core.Path.{sym, ◌∙◌}
use Rattle.c2_target.specs.Interface.{frame_does}
use Rattle.c2_target_step.proofs.interface.reads.Goals as goal

pub returns-then-linked : goal.returns-then-linked
unfolding frame_does
returns-then-linked c = rw (sym c.linked.ensures ∙ c.if-linked.true) (c.gets.ensures _ c.args.u.now.wanted)

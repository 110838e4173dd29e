-- `c2::advance::run` meets its contract: the loop keeps `Sofar`, by the laws of Loop, and the runner what it
-- knows of its act, by those of Run.
use mathlib.Core.Path.{sym, ◌∙◌}
use Rattle.c2_session.proofs.Laws.Run.{sets_off}
use Rattle.c2.proofs.Laws.Loop.{starts, goes_running, done, stops}
use Rattle.c2.proofs.advance.run.Goals as goal

pub loop-i-init : goal.loop-i-init
loop-i-init c =
    let a = c.args in
    rw c.set_off-r.ensures (starts a.image.now a.replies.now a.steps.now a.start c.requires, sets_off a.start a.image.now a.start.point)

pub returns-then-not-is_running : goal.returns-then-not-is_running
returns-then-not-is_running c =
    let d = stops _ _ _ _ _ _ _ c.loop-i.invariant.0 (sym c.is_running.ensures ∙ c.if-not-is_running.true) in
    record { point_value = d.session; taken_value = d.taken; steps_after = d.out }

pub loop-i-preserved : goal.loop-i-preserved
loop-i-preserved c =
    let l = c.loop-i.invariant in
    let run = sym c.is_running.ensures ∙ c.if-not-is_running.false in
    goes_running _ _ _ _ _ _ _ l.0 l.1 c.loop-i-test.true run _ c.advance-r.ensures _ c.step.ensures

pub returns : goal.returns
returns c =
    let d = done _ _ _ _ _ _ _ c.loop-i.invariant.0 c.loop-i-test.false in
    record { point_value = d.session; taken_value = d.taken; steps_after = d.out }

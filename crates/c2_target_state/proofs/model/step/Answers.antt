-- A strobe inside a frame leaves the numbers of the device as they are.
use Rattle.std.proofs.Common.{◌≡◌, cond, sym, arith, Some}
use Rattle.laws.proofs.Tests.{by_test}
use Rattle.c2_target_state.specs.State.{state_of, target_of}
use Rattle.c2_target_state.specs.Code.Inside.{is_inside, point_moved}
use Rattle.c2_target_state.specs.Model.{seen_answer, held_answer}
use Rattle.c2_target_state.proofs.Laws.Inside.{kept_inside}
use Rattle.c2_target_state.proofs.model.step.Goals as goal

pub returns-clause-value : goal.returns-clause-value
unfolding seen_answer held_answer
returns-clause-value c =
    let s = c.args.state in
    let turned = c.in-Ok-step.turned in
    let seen : target_of s ≡ Some c.in-Ok.target = grind (arith, c.in-Ok.ensures) in
    let given = c.in-Ok-step.ensures.value in
    let after : cond (is_inside s.point c.args.x) (point_moved s turned.target) (state_of turned.target) ≡ state_of turned.target =
    by_test (is_inside s.point c.args.x) (λ e. rw e (sym (kept_inside s c.in-Ok.target seen c.args.x e _ _ _ given))) (λ e. rw e) in
    rw (seen, sym given, c.accepted.ensures, after)

-- The claims of specs/Claims.antt, each proved under its name.
use mathlib.Core.Path.{refl, sym, ◌∙◌}
use lib.Dec.{eqb}
use Rattle.laws.proofs.Tests.{by_test}
use Rattle.c2_target.specs.Delays.{setup}
use Rattle.c2_target.specs.Target.{step_refusal, answer}
use Rattle.c2_target_state.specs.State.{state_of, target_of}
use Rattle.c2_target_state.specs.Model.{held_answer, seen_answer, seen_flash}
use Rattle.c2_target_state.specs.Claims.{StateReads, HasState, OneState, StepsAlike}
use Rattle.c2_target_state.proofs.Laws.State.{same_itself, held_says}
use Rattle.c2_target_state.proofs.Laws.State.Fits.{target_back}

pub state_reads : StateReads
unfolding target_of
state_reads s p t f ds r w k = rw (target_back s p t f ds r w k, same_itself (state_of t))

pub has_state : HasState
has_state t s h = held_says t s h

pub one_state : OneState
one_state t a b p q = sym (held_says t a p) ∙ held_says t b q

pub steps_alike : StepsAlike
unfolding seen_answer seen_flash held_answer answer
steps_alike s p t f ds x r w k =
    rw (state_reads s p t f ds r w k) (by_test (eqb (step_refusal (setup s p ds) t f x) 0) (λ e. rw e) (λ e. rw (e, e)), refl)

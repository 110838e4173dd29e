-- `c2::left::c2_steps_left` meets its contract: each return by the laws of StepsLeft.
use mathlib.Core.Path.{refl, sym, ap, ◌∙◌}
use Rattle.c2_outcome.specs.declared.Outcome.{Outcome}
use Rattle.c2_record.proofs.Laws.Said.{nowhere_refused}
use Rattle.c2.proofs.Laws.Advance.{session_held}
use Rattle.c2.proofs.Laws.StepsLeft.{asks_refused, asks_held}
use Rattle.c2.proofs.left.c2_steps_left.Goals as goal

pub returns-in_default : goal.returns-in_default
returns-in_default c = rw c.into.ensures (asks_refused _ _ (nowhere_refused _ (sym c.in_default.is ∙ c.point.ensures)) refl)

pub returns : goal.returns
returns c =
    let held = session_held _ _ (sym c.in-Some.is ∙ c.point.ensures) _ c.session-s.ensures in
    asks_held _ _ _ held (ap (λ (o : Outcome). o.number) c.outcome_of.ensures) c.steps_left.ensures

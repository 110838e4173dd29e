-- `c2::open::c2_open` meets its contract: what it answers goes by the number, by the laws of Open.
use Rattle.c2.proofs.Laws.Open.{answers_refused, answers_opened}
use Rattle.c2.proofs.open.c2_open.Goals as goal

pub returns-in-Ok-clause-value : goal.returns-in-Ok-clause-value
returns-in-Ok-clause-value c = rw c.from.ensures (answers_opened _ _ _ _ c.in-Ok.ensures.value)

pub returns-in-Err-clause-value : goal.returns-in-Err-clause-value
returns-in-Err-clause-value c = rw (c.into.ensures, c.from-in-Err.ensures) (answers_refused _ _ _ _ _ c.in-Err.ensures.value)

use Rattle.c2_calls.specs.Calls.{refused_answer}
use Rattle.c2.proofs.advance.c2_advance.Goals as goal

pub returns-in-Err-clause-value : goal.returns-in-Err-clause-value
unfolding refused_answer
returns-in-Err-clause-value c = rw c.into.ensures c.in-Err.ensures.value

-- `dump::c2_dump_first` meets its contract: by what the lengths give.
use mathlib.Core.Path.{sym}
use native.Mathlib.Omega.{arith}
use borrow.Author.Tests.{ne_eqb}
use Rattle.numbers.specs.Numbers.{refusal_number}
use Rattle.numbers.proofs.Refused.{refused}
use Rattle.dump_ranges.proofs.Laws.Answers.{dumps}
use Rattle.dump_ranges.specs.Answers.{first_answer, first_refused}
use Rattle.dump.proofs.c2_dump_first.Goals as goal

pub first_difference-requires : goal.first_difference-requires
first_difference-requires c = let d = dumps _ _ _ (sym c.in-Ok.ensures.refusal) in (d.some, d.small, rw c.in-Ok.ensures.dumps.0 d.whole)

pub returns-in-Some : goal.returns-in-Some
unfolding first_answer first_refused
returns-in-Some c = let e = c.in-Ok.ensures in rw (← e.refusal, ← e.dumps.0, ← e.dumps.1) c.in-Some.ensures.same

pub returns-in-None : goal.returns-in-None
unfolding first_answer first_refused
returns-in-None c = let e = c.in-Ok.ensures in rw (← e.refusal, ← e.dumps.0, ← e.dumps.1) c.in-None.ensures.same

pub returns-in-Err : goal.returns-in-Err
unfolding first_answer first_refused
returns-in-Err c =
    let z = refused c.in-Err.e in
    rw (← c.in-Err.ensures.refusal, ne_eqb (refusal_number c.in-Err.e) 0 (λ q. omega arith), c.into.ensures)

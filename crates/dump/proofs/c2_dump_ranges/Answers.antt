-- `dump::c2_dump_ranges` meets its contract: by what the lengths give.
use native.Mathlib.Omega.{arith}
use borrow.Author.Tests.{ne_eqb}
use Rattle.numbers.specs.Numbers.{refusal_number}
use Rattle.numbers.proofs.Refused.{refused}
use Rattle.dump_ranges.specs.Answers.{ranges_answer, ranges_refused, ranges_list}
use Rattle.dump.proofs.c2_dump_ranges.Goals as goal

pub returns-in-Ok : goal.returns-in-Ok
unfolding ranges_answer ranges_refused ranges_list
returns-in-Ok c =
    let e = c.in-Ok.ensures in
    let l = c.list_ranges.ensures in
    record {
      value = rw (← e.refusal, ← e.dumps.0, ← e.dumps.1) l.value;
      list_after = rw (← e.refusal, ← e.dumps.0, ← e.dumps.1) l.list_after;
    }

pub returns-in-Err : goal.returns-in-Err
unfolding ranges_answer ranges_refused ranges_list
returns-in-Err c =
    let z = refused c.in-Err.e in
    let e = c.in-Err.ensures.refusal in
    let n = ne_eqb (refusal_number c.in-Err.e) 0 (λ q. omega arith) in
    record { value = rw (← e, n, c.into.ensures); list_after = rw (← e, n) }

use native.Mathlib.Omega.{arith}
use borrow.Author.Tests.{le-leb, lt-leb}
use Rattle.settings.specs.Registers.{are_pairs}
use Rattle.settings.proofs.Laws.Registers.{registers_named}
use Rattle.settings.proofs.registers.entries_fit.Goals as goal

pub returns-then-count-le-MOST_PAIRS : goal.returns-then-count-le-MOST_PAIRS
unfolding are_pairs
returns-then-count-le-MOST_PAIRS c =
    let a = c.args in
    rw (c.are_registers.ensures, le-leb a.p.count 4 (omega arith), registers_named a.fpdat a.p (omega arith) (omega arith), c.from-count.ensures)

pub returns-else-count-le-MOST_PAIRS : goal.returns-else-count-le-MOST_PAIRS
unfolding are_pairs
returns-else-count-le-MOST_PAIRS c = rw (c.from-count.ensures, lt-leb c.args.p.count 4 (omega arith))

-- `dump::stretch::passed` meets its contract: a part that is the same as a whole is the same byte by byte.
use native.Mathlib.Omega.{arith}
use Rattle.dump.proofs.Laws.Stretch.{equal_part}
use Rattle.dump.proofs.dumps.Dumps.passed.Goals as goal

pub loop-i-preserved : goal.loop-i-preserved
loop-i-preserved c =
    let s = c.args in
    let i = c.loop-i in
    (omega arith, omega arith, equal_part s.self.a.now s.self.b.now s.at i.i 64 i.invariant.2 (c.same.ensures c.if-same.true))

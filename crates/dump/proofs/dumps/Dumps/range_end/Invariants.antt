use Rattle.dump.specs.Code.Stretch.{Differing}
use Rattle.dump.proofs.dumps.Dumps.range_end.Given as goal

abbrev pub invariant-loop-i : goal.invariant-loop-i
invariant-loop-i l = Differing l.self.a.now l.self.b.now l.at l.i

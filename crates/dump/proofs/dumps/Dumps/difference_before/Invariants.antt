use Rattle.dump.specs.Code.Stretch.{Equal}
use Rattle.dump.proofs.dumps.Dumps.difference_before.Given as goal

abbrev pub invariant-loop-i : goal.invariant-loop-i
invariant-loop-i l = Equal l.self.a.now l.self.b.now l.at l.i

use Rattle.std.proofs.Common.{◌-◌, ◌≤◌, length}
use Rattle.dump.specs.Code.Stretch.{Equal}
use Rattle.dump.proofs.dumps.Dumps.passed.Given as goal

abbrev pub invariant-loop-i : goal.invariant-loop-i
invariant-loop-i l = (l.at ≤ l.i) × (l.i ≤ length l.self.a.now) × Equal l.self.a.now l.self.b.now l.at l.i

abbrev pub decreases-loop-i : goal.decreases-loop-i
decreases-loop-i l = length l.self.a.now - l.i

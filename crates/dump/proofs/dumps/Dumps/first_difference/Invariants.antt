use Rattle.std.proofs.Common.{◌+◌, ◌*◌, ◌≤◌, length}
use Rattle.dump.specs.Code.Stretch.{Equal}
use Rattle.dump.proofs.dumps.Dumps.first_difference.Given as goal

abbrev pub invariant-loop-page : goal.invariant-loop-page
invariant-loop-page l = Equal l.self.a.now l.self.b.now 0 (l.page * l.size)

abbrev pub invariant-loop-offset : goal.invariant-loop-offset
invariant-loop-offset l = (l.at + l.size ≤ length l.self.a.now) × Equal l.self.a.now l.self.b.now l.at (l.at + l.offset)

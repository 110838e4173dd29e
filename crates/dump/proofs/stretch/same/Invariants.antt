use Rattle.std.proofs.Common.{◌≡◌, true}
use Rattle.dump.specs.Code.Stretch.{Equal}
use Rattle.dump.proofs.stretch.same.Given as goal

abbrev pub invariant-loop-i : goal.invariant-loop-i
invariant-loop-i l = l.same ≡ true → Equal l.a l.b 0 l.i

use Prim.Native.Nat.{◌-◌}
use lib.ListN.{length}
use Rattle.hex_read.proofs.Laws.Judging.{Walking}
use Rattle.hex_read.proofs.walk.walk.Given as goal

abbrev pub invariant-loop-at : goal.invariant-loop-at
invariant-loop-at l = Walking l.map l.file l.flash l.at l.line l.taken

abbrev pub decreases-loop-at : goal.decreases-loop-at
decreases-loop-at l = length l.file - l.at

use mathlib.Core.Path.{◌≡◌}
use lib.ListN.{length}
use Rattle.hex_read.specs.Code.Map.{Run}
use Rattle.hex_read.proofs.map.mark.Given as goal

abbrev pub invariant-loop-i : goal.invariant-loop-i
invariant-loop-i l = Run l.initial.map l.map l.a l.i × (length l.map ≡ 8192)

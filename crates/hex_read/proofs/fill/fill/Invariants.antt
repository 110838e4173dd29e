use mathlib.Core.Path.{◌≡◌}
use Prim.Native.Nat.{ℕ, ◌-◌, ◌≤◌}
use lib.ListN.{length}
use Rattle.hex_read.specs.Code.Fill.{Window, final}
use Rattle.hex_read.proofs.Laws.Filling.{Filling}
use Rattle.hex_read.proofs.fill.fill.Given as goal

abbrev pub invariant-loop-at : goal.invariant-loop-at
invariant-loop-at l =
    (l.at ≤ length l.file)
    × ((flash : ℕ) → Window l.file l.start (length l.fn.image) flash → Filling l.file (final flash l.file) l.start (length l.fn.image) l.image l.at)
    × (length l.image ≡ length l.fn.image)

abbrev pub decreases-loop-at : goal.decreases-loop-at
decreases-loop-at l = length l.file - l.at

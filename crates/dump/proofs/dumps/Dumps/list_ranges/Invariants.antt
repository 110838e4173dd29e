use Prim.Native.Nat.{ℕ, ◌-◌}
use lib.ListN.{length}
use Rattle.std.specs.Prelude.{Option, ◌≤◌}
use Rattle.dump.specs.Code.Stretch.{DifferenceAt}
use Rattle.dump.proofs.Laws.Listing.{Sofar}
use Rattle.dump.proofs.dumps.Dumps.list_ranges.Given as goal

-- what is kept, whatever the next difference is
abbrev pub invariant-loop-at : goal.invariant-loop-at
invariant-loop-at l = (l.end ≤ length l.self.a.now) × ((next : Option ℕ) → DifferenceAt l.self.a.now l.self.b.now l.end next
    → Sofar l.self.a.now l.self.b.now l.initial.list l.list l.held next)

abbrev pub decreases-loop-at : goal.decreases-loop-at
decreases-loop-at l = length l.self.a.now - l.end

use Rattle.std.proofs.Common.{◌≡◌, ◌+◌, ◌≤◌, length, drop}
use Rattle.radio_job.specs.Job.{shared}
use Rattle.radio_image.proofs.shared.Given as goal

abbrev pub invariant-loop-i : goal.invariant-loop-i
invariant-loop-i l = record { within_b : l.i ≤ length l.b; so_far : shared l.a l.b ≡ l.i + shared (drop l.i l.a) (drop l.i l.b) }

use Rattle.std.proofs.Common.{◌≡◌, true, take}
use Rattle.radio_job.specs.Image.{is_mask}
use Rattle.radio_image.proofs.is_mask.Given as goal

abbrev pub invariant-loop-b : goal.invariant-loop-b
invariant-loop-b l = is_mask (take l.b-index l.m) ≡ true

use Rattle.std.proofs.Common.{◌≡◌, ◌++◌, length, take, drop}
use Rattle.radio_job.specs.Image.{merged}
use Rattle.radio_record.specs.Record.{mask_of}
use Rattle.radio_advance.proofs.keep.merge.Given as goal

abbrev pub invariant-loop-i : goal.invariant-loop-i
invariant-loop-i l = record {
  so_far : l.held ≡ take l.i (merged (mask_of l.fn.held) (take 256 l.fn.held) l.old) ++ drop l.i l.fn.held;
  first_length : length l.fn.held ≡ 520;
  old_length : length l.old ≡ 256;
}

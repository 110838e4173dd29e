-- `radio_advance::keep::keep_point` meets its contract: the numbers stand last.
use Rattle.std.proofs.Common.{arith}
use Rattle.radio_advance.proofs.Laws.Keep.{put_numbers}
use Rattle.radio_advance.proofs.keep.keep_point.Goals as goal

pub returns : goal.returns
returns c = put_numbers _ _ _ _ _ (omega arith) c.point_bytes.ensures c.copy_from_slice.ensures.after

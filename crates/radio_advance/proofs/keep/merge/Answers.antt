-- `radio_advance::keep::merge` meets its contract: so far as the loop has come the page is merged.
use Rattle.std.proofs.Common.{arith}
use Rattle.radio_advance.proofs.Laws.Keep.{merge_more, merge_done}
use Rattle.radio_advance.proofs.keep.merge.Goals as goal

pub loop-i-preserved : goal.loop-i-preserved
loop-i-preserved c =
    let k = c.loop-i.invariant in
    record {
      so_far = merge_more c.args.held.now c.args.old.now k.first_length k.old_length _ _ _ (omega arith) k.so_far c.merged_byte.ensures;
      first_length = k.first_length;
      old_length = k.old_length;
    }

pub returns : goal.returns
returns c =
    let k = c.loop-i.invariant in merge_done c.args.held.now c.args.old.now k.first_length k.old_length c.loop-i.held c.loop-i.i (omega arith) k.so_far

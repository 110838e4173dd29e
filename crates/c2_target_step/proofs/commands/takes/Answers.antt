use mathlib.Core.Bool.{true}
use Rattle.c2_target.specs.Commands.{takes_put}
use Rattle.c2_target_step.proofs.commands.takes.Goals as goal

pub returns-in-LengthCode : goal.returns-in-LengthCode
unfolding takes_put
returns-in-LengthCode c = rw c.in-LengthCode.is (c.length_taken.ensures c.args.t true)

pub returns-in-Byte : goal.returns-in-Byte
unfolding takes_put
returns-in-Byte c = rw c.in-Byte.is (c.byte_taken.ensures c.args.t c.args.byte)

pub returns-in-PastEnd : goal.returns-in-PastEnd
unfolding takes_put
returns-in-PastEnd c = rw c.in-PastEnd.is (c.past_end_taken.ensures c.args.t c.args.byte)

-- `hex_read::map::with_bit` meets its contract: by the laws of Marking.
use native.Mathlib.Omega.{arith}
use Rattle.hex_read.proofs.Laws.Marking.{bit_room, shifted}
use Rattle.hex_read.proofs.map.with_bit.Goals as goal

pub overflow_add-result : goal.overflow_add-result
overflow_add-result c =
    let r = bit_room 8 c.args.b c.args.k c.ranges.b.fits c.requires.0 c.requires.1 in
    omega (arith, r, shifted c.args.k c.requires.0)

pub returns : goal.returns
returns c = rw (shifted c.args.k c.requires.0)

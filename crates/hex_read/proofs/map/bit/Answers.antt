-- `hex_read::map::bit` meets its contract.
use mathlib.Core.Path.{refl}
use Rattle.hex_read.specs.Code.Map.{map_bit}
use Rattle.hex_read.proofs.map.bit.Goals as goal

pub returns : goal.returns
unfolding map_bit
returns c = refl

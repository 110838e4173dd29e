-- `c2::target::c2_target_fresh` meets its contract: the numbers of a fresh target, by computing.
use mathlib.Core.Path.{refl}
use Rattle.c2_wire.specs.Bits.{bit}
use Rattle.c2_target.specs.Target.{cleared, fresh}
use Rattle.c2_target_state.specs.State.{effect_code, effect_byte, point_fields, command_fields, output_fields, state_of}
use Rattle.c2.proofs.target.c2_target_fresh.Goals as goal

pub returns : goal.returns
unfolding state_of fresh cleared point_fields command_fields output_fields effect_code effect_byte bit
returns c = refl

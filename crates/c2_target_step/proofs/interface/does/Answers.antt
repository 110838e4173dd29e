use Rattle.c2_target.specs.Interface.{frame_does}
use Rattle.c2_target_step.proofs.interface.does.Goals as goal

pub returns-in-Read : goal.returns-in-Read
unfolding frame_does
returns-in-Read c = rw c.in-Read.is c.reads.ensures

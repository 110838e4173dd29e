use Rattle.c2_session.specs.Code.Run.{runner_taken, runner_advanced}
use Rattle.c2_session.proofs.Runner.advance.Goals as goal

pub returns-in-Running : goal.returns-in-Running
unfolding runner_advanced runner_taken
returns-in-Running c = rw (c.in-Running.is, c.replied.ensures, c.informed.ensures)

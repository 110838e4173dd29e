use Rattle.settings.specs.Registers.{no_pairs}
use Rattle.c2_session.proofs.Laws.Run.{Knows, session_of}
use Rattle.c2_target.specs.Delays.{setup}
use Rattle.c2_target.proofs.Laws.Steps.{Lasts}
use Rattle.c2_target_step.proofs.Laws.Loop.{Sofar}
use Rattle.c2_target_step.proofs.playing.play.Given as goal

abbrev pub invariant-loop-n : goal.invariant-loop-n
invariant-loop-n l = record {
  sofar : Sofar l.fn.t l.start l.image l.fn.flash l.fn.delays l.budget l.flash (session_of l.start l.r) l.target l.n;
  knows : Knows l.start l.image l.r;
  lasts : Lasts (setup l.fn.t no_pairs l.fn.delays) l.target l.flash;
}

-- The loop keeps `Sofar`, and the runner what it knows of its act.
use Rattle.c2_session.proofs.Laws.Run.{Ready, session_of}
use Rattle.c2.proofs.Laws.Loop.{Sofar}
use Rattle.c2.proofs.advance.run.Given as goal

abbrev pub invariant-loop-i : goal.invariant-loop-i
invariant-loop-i l = Sofar l.image l.replies l.fn.steps l.start l.steps (session_of l.start l.r) l.i × Ready l.start l.image l.r

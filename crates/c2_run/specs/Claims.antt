-- What is claimed of running a session against a fresh target. Types alone: proofs/Laws/Claims proves it.
use Rattle.std.specs.Prelude.{◌≡◌, false, List, ℕ, ◌≤◌}
use Rattle.numbers.specs.Numbers.{done}
use Rattle.laws.specs.Bytes.{Bytes}
use Rattle.c2_order.specs.Order.{session_order}
use Rattle.c2_order.specs.Conversation.{limits_of}
use Rattle.c2_order.specs.Point.{begin}
use Rattle.c2_order.specs.Figure.{figure}
use Rattle.c2_play.specs.Job.{Job, first_of, Proper, programmed}
use Rattle.c2_run.specs.Run.{run_refusal, run_answer, run_flash}

-- A job's run has ended done, without a mark, and left the flash with the job's pages in place of the old
-- ones.
pub record RanWell (j : Job) (f ds : List ℕ) (budget : ℕ) : Type 0 where
  pub ended : (run_answer j.settings (first_of j.pages) j.image f ds budget).number ≡ done
  pub clean : (run_answer j.settings (first_of j.pages) j.image f ds budget).collision ≡ false
  pub holds : run_flash j.settings (first_of j.pages) j.image f ds budget ≡ programmed j f

-- A run that is not refused ends so, with a budget of as many replies as are the most steps to come at the
-- opening.
abbrev pub RunsProgram : Type 0
RunsProgram = (j : Job) (f ds : List ℕ) (budget : ℕ) → Proper j → run_refusal j.settings (first_of j.pages) j.image f ≡ 0
    → Bytes f → Bytes ds
    → figure (limits_of j.settings) (begin (session_order j.settings (first_of j.pages) j.image)) ≤ budget → RanWell j f ds budget

-- The claim of specs/Claims.antt: a budget of as many replies as are the most steps to come runs a session to
-- its end.
use mathlib.Core.Path.{◌≡◌, refl, ap, ◌∙◌}
use mathlib.Core.List.{List}
use Prim.Native.Nat.{ℕ, ◌*◌, ◌≤◌}
use native.Mathlib.Omega.{arith}
use borrow.Author.Tests.{eqb-true, eqb-false}
use lib.Dec.{eqb}
use lib.ListN.{length}
use Rattle.laws.proofs.Tests.{passes, by_test}
use Rattle.numbers.specs.Numbers.{no_point}
use Rattle.c2_wire.specs.Exchange.{Outcome, outcome_of}
use Rattle.settings.specs.declared.Settings.{Settings}
use Rattle.settings.specs.Registers.{pairs_from, no_pairs, are_registers, are_pairs, leave_all}
use Rattle.settings.specs.Opening.{opening_refusal}
use Rattle.settings.proofs.Laws.Opening.{settings_pass}
use Rattle.c2_order.specs.Order.{session_order}
use Rattle.c2_order.specs.Conversation.{limits_of}
use Rattle.c2_order.specs.Point.{begin}
use Rattle.c2_order.specs.Figure.{figure}
use Rattle.c2_order.specs.Claims.{Opening, exchange_of}
use Rattle.c2_target.specs.Delays.{setup}
use Rattle.c2_target.specs.Target.{fresh}
use Rattle.c2_play.specs.Playing.{Played, whole_step}
use Rattle.c2_play.specs.Job.{first_of}
use Rattle.c2_play.proofs.Laws.Playing.{played_out}
use Rattle.c2_play.proofs.Laws.Fresh.{fresh_suits}
use Rattle.c2_play.proofs.Laws.Job.{session_enough, job_opening, job_programmed}
use Rattle.c2_run.specs.Run.{run_refusal, run, run_answer, run_flash}
use Rattle.c2_run.specs.Claims.{RunsProgram}

-- a budget of as many replies as the most steps to come at the opening is enough
pub budget_enough : (t : Settings) (first : ℕ) (image f ds : List ℕ) (n : ℕ) → Opening t first image
    → figure (limits_of t) (begin (session_order t first image)) ≤ n
    → run t first image f ds n ≡ played_out (whole_step (setup t no_pairs ds)) (exchange_of (limits_of t) t first image) fresh f
unfolding run
budget_enough t first image f ds n o h = session_enough (setup t no_pairs ds) n first image fresh f o h

-- a run that is not refused has an opening that is not, and a flash of size times count bytes
run_passes : (t : Settings) (first : ℕ) (image f : List ℕ) → run_refusal t first image f ≡ 0
    → (opening_refusal t first (length image) ≡ 0) × (length f ≡ t.size * t.count)
unfolding run_refusal
run_passes t first image f h =
    by_test (eqb (opening_refusal t first (length image)) 0)
    (λ p. (eqb-true _ 0 p, eqb-true (length f) (t.size * t.count) (passes (eqb (length f) (t.size * t.count)) 0 no_point (omega arith) (rw p at h)).0))
    (λ p. absurd (eqb-false (opening_refusal t first (length image)) 0 p (rw p at h)))

pub runs_program : RunsProgram
unfolding run_answer run_flash pairs_from are_registers are_pairs leave_all
runs_program j f ds n p h b d m =
    let t = j.settings in
    let ok = run_passes t (first_of j.pages) j.image f h in
    let w = budget_enough t (first_of j.pages) j.image f ds n (job_opening j p ok.0) m in
    let suits = fresh_suits t no_pairs ds f (settings_pass t (first_of j.pages) (length j.image) ok.0) refl ok.1 b d in
    let g = job_programmed j no_pairs ds fresh f refl p ok.0 suits in
    record {
      ended = rw h (ap (λ (z : Played). (outcome_of z.left).number) w ∙ ap (λ (z : Outcome). z.number) g.ended);
      clean = rw h (ap (λ (z : Played). z.target.collision) w ∙ g.clean);
      holds = rw h (ap (λ (z : Played). z.flash) w ∙ g.holds);
    }

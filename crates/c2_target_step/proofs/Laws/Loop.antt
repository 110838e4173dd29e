-- What the loop of `c2_target_step::playing::play` keeps: at its start, after a turn, and where it is left.
use mathlib.Core.Path.{◌≡◌, refl, sym, ap, ◌∙◌}
use mathlib.Core.Bool.{Bool, true, false}
use mathlib.Core.List.{List}
use Prim.Native.Nat.{ℕ, zero, suc, ◌+◌, ◌-◌, ◌%◌, ◌<◌, ◌≤◌}
use native.Mathlib.Omega.{arith}
use borrow.Author.Tests.{ne_eqb}
use lib.ListN.{length}
use Rattle.c2_wire.specs.Frames.{frame}
use Rattle.c2_wire.specs.Place.{strobe_step, strobe_at, step_at}
use Rattle.settings.specs.declared.Settings.{Settings}
use Rattle.settings.specs.Registers.{no_pairs}
use Rattle.c2_acts.specs.declared.Task.{Task}
use Rattle.c2_acts.specs.declared.Task.TheVariants.{Reset, Pause, Address, Send, Input, Output, Ident, Status, Compare}
use Rattle.c2_acts.specs.Code.Acts.{task_of}
use Rattle.c2_session.specs.declared.At.{At}
use Rattle.c2_session.specs.declared.Point.{Point}
use Rattle.c2_session.specs.declared.Point.TheVariants.{Running, Ended}
use Rattle.c2_session.specs.declared.Session.{Session}
use Rattle.c2_session.specs.declared.Runner.{Runner}
use Rattle.c2_session.specs.Code.Next.{act_at}
use Rattle.c2_session.specs.Code.Step.{task_frame, task_byte, task_step, point_step, session_step}
use Rattle.c2_session.specs.Code.Advance.{advanced}
use Rattle.c2_session.specs.Code.Run.{runner_advanced, runner_step}
use Rattle.c2_session.proofs.Laws.Run.{Knows, Ready, goes_on_ready, runner_goes, session_of, session_goes, session_waits}
use Rattle.c2_outcome.specs.Outcome.{is_running}
use Rattle.c2_target.specs.declared.Target.{Target}
use Rattle.c2_target.specs.declared.Turned.{Turned}
use Rattle.c2_wire.specs.Bits.{bit}
use mir.Val.{bool_byte}
use Rattle.numbers.specs.declared.Refusal.{Refusal}
use Rattle.numbers.specs.Numbers.{refusal_number}
use Rattle.numbers.proofs.Refused.{refused}
use Rattle.c2_target.specs.Delays.{setup}
use Rattle.c2_target.specs.Target.{fresh, is_step, setup_refusal, Replied, answer, flash_after}
use Rattle.c2_target.proofs.Laws.Known.{Lent}
use Rattle.c2_target.proofs.Laws.Steps.{is_step_code, not_refused, Lasts, answer_lasts}
use Rattle.c2_target_step.specs.Code.Closed.{stops_at, closed, from_start, first_refusal, closed_run}
use Rattle.c2_target_step.proofs.Laws.Target.{Stepped, is_accepted}

-- what a session waits at is a step
task_is_step : (t : Task) (s : Session) (a : At) (q : ℕ) (image : List ℕ) → is_step (task_step t s a q image) ≡ true
unfolding step_at is_step
task_is_step Reset s a q image = refl
task_is_step Pause s a q image = refl
task_is_step Address s a q image = is_step_code (strobe_step (strobe_at (frame (task_frame Address) (task_byte Address s a image)) q))
task_is_step Send s a q image = is_step_code (strobe_step (strobe_at (frame (task_frame Send) (task_byte Send s a image)) q))
task_is_step Input s a q image = is_step_code (strobe_step (strobe_at (frame (task_frame Input) (task_byte Input s a image)) q))
task_is_step Output s a q image = is_step_code (strobe_step (strobe_at (frame (task_frame Output) (task_byte Output s a image)) q))
task_is_step Ident s a q image = is_step_code (strobe_step (strobe_at (frame (task_frame Ident) (task_byte Ident s a image)) q))
task_is_step Status s a q image = is_step_code (strobe_step (strobe_at (frame (task_frame Status) (task_byte Status s a image)) q))
task_is_step Compare s a q image = is_step_code (strobe_step (strobe_at (frame (task_frame Compare) (task_byte Compare s a image)) q))

session_is_step : (s : Session) (image : List ℕ) → is_step (session_step s image) ≡ true
unfolding session_step is_step
session_is_step s image = go s.point
  where
    go : (p : Point) → is_step (point_step p s image) ≡ true
    go (Running g i j k q c v) = task_is_step (task_of g k) s (act_at g i j k) q image
    go (Ended n o) = refl

pub runner_is_step : (s : Session) (image : List ℕ) (r : Runner) → Knows s image r → (x : ℕ) → x ≡ runner_step r → is_step x ≡ true
runner_is_step s image r k x e = rw (e ∙ session_waits s image r k) (session_is_step (session_of s r) image)

-- the loop is so far: n replies, of which the session s, the target y and the flash f are left
pub record Sofar (t : Settings) (start : Session) (image f₀ ds : List ℕ) (budget : ℕ) (f : List ℕ) (s : Session) (y : Target) (n : ℕ) : Type 0 where
  pub small : n ≤ budget
  pub long : length f ≡ length f₀
  pub same : closed budget 0 t ds image (from_start start) fresh f₀ ≡ closed (budget - n) n t ds image s y f

module _ (t : Settings) (start : Session) (image f₀ ds : List ℕ) (budget : ℕ) where
  pub starts : Sofar t start image f₀ ds budget f₀ (from_start start) fresh 0
  starts = let z : budget - 0 ≡ budget = omega arith in record { small = omega arith; long = refl; same = rw z }

  module _ (f : List ℕ) (s : Session) (y : Target) (n : ℕ) (k : Sofar t start image f₀ ds budget f s y n) where
    goes : n < budget → is_running s.point ≡ true → length (flash_after (setup t no_pairs ds) y f (session_step s image)) ≡ length f
        → Sofar t start image f₀ ds budget (flash_after (setup t no_pairs ds) y f (session_step s image))
        (advanced s ((answer (setup t no_pairs ds) y f (session_step s image)).reply % 256) image) (answer (setup t no_pairs ds) y f (session_step s image)).target (n + 1)
    unfolding closed
    goes h run l =
        let z : budget - n ≡ suc (budget - (n + 1)) = omega arith in
        record { small = omega arith; long = l ∙ k.long; same = k.same ∙ rw (z, run) }

    done : budget ≤ n → closed budget 0 t ds image (from_start start) fresh f₀ ≡ stops_at n s y f
    unfolding closed
    done h = let z : budget - n ≡ 0 = omega arith in k.same ∙ rw z

    stops : is_running s.point ≡ false → closed budget 0 t ds image (from_start start) fresh f₀ ≡ stops_at n s y f
    unfolding closed
    stops p = k.same ∙ go (budget - n)
      where
        go : (m : ℕ) → closed m n t ds image s y f ≡ stops_at n s y f
        go zero = refl
        go (suc m) = rw p

-- a bit as the byte that a session is given
bit_byte : (b : Bool) → bool_byte b ≡ bit b % 256
unfolding bit
bit_byte true = refl
bit_byte false = refl

-- a turn of the loop with a runner, where the target exists
pub goes_running : (t : Settings) (start : Session) (image f₀ ds : List ℕ) (budget : ℕ) (f : List ℕ) (r : Runner) (y : Target) (n : ℕ)
    → Sofar t start image f₀ ds budget f (session_of start r) y n → Lent (setup t no_pairs ds) → setup_refusal (setup t no_pairs ds) ≡ 0
    → Lasts (setup t no_pairs ds) y f → Knows start image r
    → n < budget → is_running r.point ≡ true → (x : ℕ) → x ≡ runner_step r → (a : Turned) (f₁ : List ℕ) → Stepped (setup t no_pairs ds) y f x a f₁
    → length f₁ ≡ length f → (v : ℕ) → v ≡ bool_byte a.reply
    → (r₁ : Runner) → r₁ ≡ runner_advanced start r v image
    → Sofar t start image f₀ ds budget f₁ (session_of start r₁) a.target (n + 1) × (Knows start image r₁ × Lasts (setup t no_pairs ds) a.target f₁)
goes_running t start image f₀ ds budget f r y n k lent accepted lasts m h run x ex a f₁ ea l v ev r₁ er =
    let u = setup t no_pairs ds in
    let passes = not_refused u y f x accepted lasts.exists (runner_is_step start image r m x ex) in
    let on = is_accepted u y f x passes a f₁ ea in
    let reply : v ≡ (answer u y f x).reply % 256 = ev ∙ bit_byte a.reply ∙ ap (λ (r : Replied). r.reply % 256) on.0 in
    let after : a.target ≡ (answer u y f x).target = ap (λ (r : Replied). r.target) on.0 in
    let asked : x ≡ session_step (session_of start r) image = ex ∙ session_waits start image r m in
    let ready : Ready start image r = goes_on_ready start image r m in
    let e : session_of start r₁ ≡ advanced (session_of start r) v image = ap (session_of start) er ∙ session_goes start image r v ready in
    let knows : Knows start image r₁ = rw er (runner_goes start image r v ready).1 in (
      rw (e, reply, after, on.1, asked) (goes t start image f₀ ds budget f (session_of start r) y n k h run (rw (on.1, asked) at l)),
      (knows, rw (after, on.1) (answer_lasts u lent y f x lasts)),
    )

-- where the first step is refused nothing is played
pub plays_nothing : (t : Settings) (start : Session) (image f₀ ds : List ℕ) (budget : ℕ) (e : Refusal) → refusal_number e ≡ first_refusal t f₀
    → closed_run budget t start ds image f₀ ≡ stops_at 0 (from_start start) fresh f₀
unfolding closed_run closed
plays_nothing t start image f₀ ds budget e tested =
    let z : first_refusal t f₀ ≡ 0 → ⊥ = λ h. omega (arith, refused e, tested, h) in rw (ne_eqb _ 0 z)

-- What `play` gives and leaves where the session has ended (`plays_out`), and where the budget is spent
-- (`plays_on`).
abbrev Plays : (budget : ℕ) → Settings → Session → (delays image flash : List ℕ) → Point → (replies : ℕ) → (collision : Bool) → (flash₁ : List ℕ) → Type 0
Plays n t s ds image f p i c f₁ =
    let x = closed_run n t s ds image f in
    (p ≡ x.session.point) × ((i ≡ x.replies) × ((c ≡ x.target.collision) × (f₁ ≡ x.flash)))

module _ (t : Settings) (start : Session) (image f₀ ds : List ℕ) (budget : ℕ) (passed : first_refusal t f₀ ≡ 0) where
  module _ (f : List ℕ) (s : Session) (y : Target) (n : ℕ) (so : Sofar t start image f₀ ds budget f s y n) where
    left_at : closed budget 0 t ds image (from_start start) fresh f₀ ≡ stops_at n s y f
        → Plays budget t start ds image f₀ s.point n y.collision f
    unfolding closed_run
    left_at e = rw (passed, e) (refl, (refl, (refl, refl)))

    pub plays_on : budget ≤ n → Plays budget t start ds image f₀ s.point budget y.collision f
    plays_on h =
        let e : n ≡ budget = omega (arith, so.small) in
        let so_far = left_at (done t start image f₀ ds budget f s y n so h) in
        (so_far.0, (sym e ∙ so_far.1.0, so_far.1.1))

    pub plays_out : is_running s.point ≡ false → Plays budget t start ds image f₀ s.point n y.collision f
    plays_out h = left_at (stops t start image f₀ ds budget f s y n so h)

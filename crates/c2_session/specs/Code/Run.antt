-- For the code: the runner, which carries an act's task and script along with the point. `runner_goes` and
-- `runner_waits` of proofs/Laws/Run are the laws that its point is the session's, and its step the
-- session's step.
use Rattle.std.specs.Prelude.{Bool, false, not, cond, List, ℕ, ◌/◌, ◌%◌, eqb, ltb}
use Rattle.numbers.specs.Numbers.{bad_reply}
use Rattle.c2_wire.specs.Place.{place}
use Rattle.c2_wire.specs.Code.Script.{code_step, code_follows}
use Rattle.c2_wire.specs.declared.Place.{Place}
use Rattle.c2_wire.specs.declared.Moved.{Moved}
use Rattle.c2_wire.specs.declared.Moved.TheVariants.{Within, Stopped, WaitLimit}
use Rattle.c2_order.specs.Conversation.{limits_of}
use Rattle.c2_acts.specs.declared.Task.{Task}
use Rattle.c2_acts.specs.declared.Task.TheVariants.{Reset}
use Rattle.c2_acts.specs.Code.Acts.{task_of}
use Rattle.c2_session.specs.declared.At.{At}
use Rattle.c2_session.specs.declared.Point.{Point}
use Rattle.c2_session.specs.declared.Point.TheVariants.{Running, Ended}
use Rattle.c2_session.specs.declared.Session.{Session}
use Rattle.c2_session.specs.declared.Runner.{Runner}
use Rattle.c2_session.specs.Code.Next.{act_at, end_point}
use Rattle.c2_session.specs.Code.Judge.{frame_answered}
use Rattle.c2_session.specs.Code.Step.{alone}
use Rattle.c2_session.specs.Code.Script.{script_at}

abbrev pub runner : Point → Task → (script : ℕ) → Runner
runner p t w = record { point = p; task = t; script = w }

-- the runner that sets off from a point
abbrev pub runner_at : Point → Runner
runner_at p = runner p Reset 0

-- whether the script is known
unfoldable pub is_known : (strobe script : ℕ) → Bool
is_known q w = cond (eqb q 0) false (not (eqb w 0))

-- what is left of a script after a reply at a strobe has moved the place
abbrev pub script_left : Moved → (script strobe : ℕ) → ℕ
script_left (Within p) w q = cond (eqb p.strobe q) w (w / 16)
script_left (Stopped x) w q = 0
script_left WaitLimit w q = 0

-- the runner after a reply has moved the place in an act's frame
abbrev pub runner_settled : Moved → Task → (script : ℕ) → Session → At → Place → List ℕ → Runner
runner_settled m t w s a b image =
    runner (frame_answered (limits_of s.settings).reads m t s a b.count image) t (script_left m w b.strobe)

-- the runner after a reply, where task and script are known
unfoldable pub runner_replied : Task → (script : ℕ) → Session → At → Place → (reply : ℕ) → List ℕ → Runner
runner_replied t w s a p x image =
    cond (ltb 1 x) (runner (end_point bad_reply) t 0) (runner_settled (code_follows (limits_of s.settings).wait (w % 16) p (eqb x 1)) t w s a p image)

-- the runner after a reply, which finds task and script where they are not known
unfoldable pub runner_taken : Task → (script : ℕ) → Session → At → Place → (reply : ℕ) → List ℕ → Runner
runner_taken t w s a p x image =
    runner_replied (cond (is_known p.strobe w) t (task_of a.stage a.act))
    (cond (is_known p.strobe w) w (script_at (cond (is_known p.strobe w) t (task_of a.stage a.act)) s a p.strobe image)) s a p x image

-- the runner after a reply
abbrev pub point_taken : Point → Task → (script : ℕ) → Session → (reply : ℕ) → List ℕ → Runner
point_taken (Running g i j k q c v) t w s x image = runner_taken t w s (act_at g i j k) (place q c v) x image
point_taken (Ended n o) t w s x image = runner (Ended n o) t 0

unfoldable pub runner_advanced : Session → Runner → (reply : ℕ) → List ℕ → Runner
runner_advanced s r x image = point_taken r.point r.task r.script s x image

-- the step that a runner waits at
abbrev pub step_from : Point → (script : ℕ) → ℕ
step_from (Running g i j k q c v) w = cond (eqb q 0) (alone (task_of g k)) (code_step (w % 16))
step_from (Ended n o) w = 6

unfoldable pub runner_step : Runner → ℕ
runner_step r = step_from r.point r.script

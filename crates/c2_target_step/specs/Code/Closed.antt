-- For the code: a session and a target, step by step, for a budget of replies. `same` of proofs/Laws/Closed in
-- c2_run is the law that this is the exchange of the order played against the target.
use Rattle.std.specs.Prelude.{cond, List, [], ℕ, zero, suc, ◌+◌, ◌%◌, eqb}
use Rattle.settings.specs.declared.Settings.{Settings}
use Rattle.settings.specs.Registers.{no_pairs}
use Rattle.c2_acts.specs.declared.Stage.TheVariants.{Lead}
use Rattle.c2_session.specs.declared.Point.TheVariants.{Running}
use Rattle.c2_session.specs.declared.Session.{Session}
use Rattle.c2_session.specs.Code.Step.{session_step}
use Rattle.c2_session.specs.Code.Advance.{with_point, advanced}
use Rattle.c2_outcome.specs.Outcome.{is_running}
use Rattle.c2_target.specs.declared.Target.{Target}
use Rattle.c2_target.specs.Delays.{setup}
use Rattle.c2_target.specs.Target.{fresh, step_refusal, answer, flash_after}

pub record Closed : Type 0 where
  pub session : Session
  pub target : Target
  pub flash : List ℕ
  pub replies : ℕ

abbrev pub stops_at : (replies : ℕ) → Session → Target → (flash : List ℕ) → Closed
stops_at i s y f = record { session = s; target = y; flash = f; replies = i }

unfoldable pub closed : (left made : ℕ) → Settings → (delays image : List ℕ) → Session → Target → (flash : List ℕ) → Closed
closed zero i t ds image s y f = stops_at i s y f
closed (suc n) i t ds image s y f =
    cond (is_running s.point)
    (closed n (i + 1) t ds image (advanced s ((answer (setup t no_pairs ds) y f (session_step s image)).reply % 256) image)
    (answer (setup t no_pairs ds) y f (session_step s image)).target (flash_after (setup t no_pairs ds) y f (session_step s image)))
    (stops_at i s y f)

-- the session before its first step
abbrev pub from_start : Session → Session
from_start s = with_point s (Running Lead 0 0 0 0 0 0)

-- the number by which a fresh target refuses the session's first step, the reset, or 0
abbrev pub first_refusal : Settings → (flash : List ℕ) → ℕ
first_refusal t f = step_refusal (setup t no_pairs []) fresh f 4

-- a session from its first step on against a fresh target with these settings that wants no pairs; where that
-- step is refused nothing is played
unfoldable pub closed_run : (budget : ℕ) → Settings → Session → (delays image flash : List ℕ) → Closed
closed_run n t s ds image f = closed (cond (eqb (first_refusal t f) 0) n 0) 0 t ds image (from_start s) fresh f

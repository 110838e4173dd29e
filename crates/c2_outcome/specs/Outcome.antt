-- How a session stands at its point: it runs, with number 0, or it has ended with its number and the image
-- offset for 14 (document 01, "Numbers that come back").
use Rattle.std.specs.Prelude.{Bool, true, false, ℕ}
use Rattle.c2_session.specs.declared.Point.{Point}
use Rattle.c2_session.specs.declared.Point.TheVariants.{Running, Ended}
use Rattle.c2_outcome.specs.declared.Outcome.{Outcome}

abbrev pub is_running : Point → Bool
is_running (Running g i j k q c v) = true
is_running (Ended n o) = false

abbrev pub point_outcome : Point → Outcome
point_outcome (Running g i j k q c v) = record { number = 0; offset = 0 }
point_outcome (Ended n o) = record { number = n; offset = o }

abbrev pub number_of : Point → ℕ
number_of p = (point_outcome p).number

abbrev pub offset_of : Point → ℕ
offset_of p = (point_outcome p).offset

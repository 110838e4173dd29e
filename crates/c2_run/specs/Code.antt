-- For the code: nothing here needs to be believed. `c2_program` is what joins it to the definitions.
use Rattle.std.specs.Prelude.{false, Result, Ok, Err}
use Rattle.numbers.specs.declared.Refusal.{Refusal}
use Rattle.numbers.specs.Numbers.{refusal_number}
use Rattle.c2_outcome.specs.Outcome.{number_of, offset_of}
use Rattle.c2_target_step.specs.declared.Ran.{Ran}
use Rattle.c2_run.specs.declared.Run.{Run}

-- what a run answers where the session was played so far, or is refused
abbrev pub answered : Result Ran Refusal → Run
answered (Ok x) = record { number = number_of x.point; offset = offset_of x.point; replies = x.replies; collision = x.collision }
answered (Err e) = record { number = refusal_number e; offset = 0; replies = 0; collision = false }

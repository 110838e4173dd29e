-- For the code: nothing here needs to be believed. `report_of` is what joins it to the definitions.
use Rattle.std.specs.Prelude.{ℕ, ◌/◌, Result, Ok, Err}
use Rattle.numbers.specs.declared.Refusal.{Refusal}
use Rattle.numbers.specs.Numbers.{refusal_number}
use Rattle.c2_run.specs.declared.Run.{Run}
use Rattle.c2_report.specs.declared.Report.{Report}

-- what is reported of so many bytes that were run, or refused
abbrev pub answered : (bytes : ℕ) → Result Run Refusal → Report
answered n (Ok a) = record { pages = n / 512; replies = a.replies; outcome = a.number }
answered n (Err e) = record { pages = 0; replies = 0; outcome = refusal_number e }

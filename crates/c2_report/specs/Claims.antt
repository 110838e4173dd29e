-- What is claimed of the program's report. Types alone: proofs/Laws/Report proves them.
use Rattle.std.specs.Prelude.{◌≡◌, List, ℕ, ◌+◌, ◌*◌, ◌/◌, length}
use Rattle.numbers.specs.Numbers.{done}
use Rattle.laws.specs.Bytes.{Bytes}
use Rattle.c2_report.specs.Report.{image_refusal, reported}

-- An image that is not refused is programmed: 32, done, after 76 replies and 28,518 a page.
abbrev pub ReportsDone : Type 0
ReportsDone = (image : List ℕ) → Bytes image → image_refusal image ≡ 0
    → reported image ≡ record { pages = length image / 512; replies = 76 + length image / 512 * 28518; outcome = done }

-- Document 01's own examples: 512 bytes and 1,024 bytes of input.
abbrev pub ReportsPaper : Type 0
ReportsPaper = ((image : List ℕ) → Bytes image → length image ≡ 512 → reported image ≡ record { pages = 1; replies = 28594; outcome = 32 })
    × ((image : List ℕ) → Bytes image → length image ≡ 1024 → reported image ≡ record { pages = 2; replies = 57112; outcome = 32 })

-- What a reading comes to for the caller: an image that was filled, or a refusal with its line. For the code
-- alone: it joins the results of the code to `ReadingDone` of hex_format.
use Rattle.std.specs.Prelude.{List, ℕ, Result, Ok, Err, None, unwrap_or}
use Rattle.numbers.specs.Numbers.{refusal_number}
use Rattle.numbers.specs.declared.Refusal.{Refusal}
use Rattle.hex_format.specs.Reading.{ReadingDone, reading_done}
use Rattle.hex_read.specs.declared.walk.Fault.{Fault}
use Rattle.hex_read.specs.declared.read.Filled.{Filled}

-- a refusal that isn't a line's
abbrev pub no_line : Refusal → Fault
no_line e = record { refusal = e; line = None }

abbrev pub reading_of : Result Filled Fault → (buffer : List ℕ) → ReadingDone
reading_of (Ok f) buffer = reading_done 0 0 f.first f.bytes buffer
reading_of (Err f) buffer = reading_done (refusal_number f.refusal) (unwrap_or f.line 0) 0 0 buffer

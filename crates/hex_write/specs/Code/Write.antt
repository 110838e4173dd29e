-- What a writing comes to for the caller: a file of a length, or a refusal. For the code alone: it joins the
-- results of the code to `WritingDone` of hex_format.
use Rattle.std.specs.Prelude.{List, ℕ, Result, Ok, Err}
use Rattle.numbers.specs.Numbers.{refusal_number}
use Rattle.numbers.specs.declared.Refusal.{Refusal}
use Rattle.hex_format.specs.Writing.{WritingDone, writing_done}

abbrev pub writing_of : Result ℕ Refusal → (buffer : List ℕ) → WritingDone
writing_of (Ok n) buffer = writing_done 0 n buffer
writing_of (Err e) buffer = writing_done (refusal_number e) 0 buffer

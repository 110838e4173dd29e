-- The calls of a radio job (document 02, i): which are refused, and what each answers and leaves. A call is
-- given everything that it is lent.
use Rattle.std.specs.Prelude.{cond, List, [], ◌++◌, ℕ, eqb, ltb, length, drop}
use Rattle.std.proofs.Math.Option.{Option, some, none}
use Rattle.exchange.specs.Exchange.{Said, asks, ends, said, after}
use Rattle.numbers.specs.Numbers.{bad_record, other_image, buffer_too_small}
use Rattle.radio_job.specs.declared.Ending.{Ending}
use Rattle.radio_job.specs.Image.{JobInput, input_refusal}
use Rattle.radio_job.specs.Job.{Message, take_reply, job}
use Rattle.radio_job.specs.State.{JobState, opened_job, job_left}
use Rattle.radio_job.specs.Advance.{job_advanced}
use Rattle.radio_record.specs.Record.{packed_job, unpacked_job}
use Rattle.radio_calls.specs.declared.RadioOpened.{RadioOpened}
use Rattle.radio_calls.specs.declared.RadioAdvanced.{RadioAdvanced}

-- An opening is lent a record, image, mask and data, and a buffer for the message; a later call a record, the
-- image, the reply, and a buffer for the next message.
pub data RadioCall : Type 0 where
  job_opens : (held image mask ours out : List ℕ) → RadioCall
  job_takes : (held image reply out : List ℕ) → RadioCall

-- REFUSED. At an opening 29 and 30, then 6 for a record of another length, then 26 for a buffer below 256.
abbrev pub room_number : (out : ℕ) → ℕ
room_number k = cond (ltb k 256) buffer_too_small 0

abbrev pub first_number : (input held out : ℕ) → ℕ
first_number n h k = cond (eqb n 0) (cond (eqb h 520) (room_number k) bad_record) n

-- later 6, 7 and 26
abbrev pub later_number : Option JobState → (image out : ℕ) → ℕ
later_number (some s) n k = cond (eqb n s.bytes) (room_number k) other_image
later_number none n k = bad_record

abbrev pub input_of : (image mask ours : List ℕ) → JobInput
input_of im m d = record { image = im; mask = m; ours = d }

-- the number that the rules give a call before any reply; with 0 it is accepted
unfoldable pub job_refusal : RadioCall → ℕ
job_refusal (job_opens r im m d out) = first_number (input_refusal (input_of im m d)) (length r) (length out)
job_refusal (job_takes r im q out) = later_number (unpacked_job r) (length im) (length out)

-- WHAT IS DONE. What an opening answers, and record and buffer afterwards.
pub record OpensDone : Type 0 where
  pub answer : RadioOpened
  pub held : List ℕ
  pub out : List ℕ

-- What a later call answers, and record and buffer afterwards.
pub record TakesDone : Type 0 where
  pub answer : RadioAdvanced
  pub held : List ℕ
  pub out : List ℕ

abbrev pub JobDone : RadioCall → Type 0
JobDone (job_opens r im m d out) = OpensDone
JobDone (job_takes r im q out) = TakesDone

-- a refused call: its number and zeros, and every lent byte as it was
abbrev pub opens_number : (number : ℕ) → RadioOpened
opens_number n = record { number = n; send = 0; expect = 0 }

abbrev pub takes_number : (number : ℕ) → RadioAdvanced
takes_number n = record { number = n; code = 0; offset = 0; send = 0; expect = 0 }

unfoldable pub job_untouched : (c : RadioCall) → (number : ℕ) → JobDone c
job_untouched (job_opens r im m d out) n = record { answer = opens_number n; held = r; out = out }
job_untouched (job_takes r im q out) n = record { answer = takes_number n; held = r; out = out }

-- what a job says: its next message, or how it has ended, with nothing to send
abbrev pub message_of : Said Message Ending → List ℕ
message_of (asks a) = a.bytes
message_of (ends e) = []

-- the buffer afterwards: past the message it stays
unfoldable pub message_put : Said Message Ending → (out : List ℕ) → List ℕ
message_put x out = message_of x ++ drop (length (message_of x)) out

abbrev pub opens_answer : Said Message Ending → RadioOpened
opens_answer (asks a) = record { number = 0; send = length a.bytes; expect = a.expect }
opens_answer (ends e) = opens_number e.number

abbrev pub takes_answer : Said Message Ending → RadioAdvanced
takes_answer (asks a) = record { number = 0; code = 0; offset = 0; send = length a.bytes; expect = a.expect }
takes_answer (ends e) = record { number = e.number; code = e.code; offset = e.offset; send = 0; expect = 0 }

-- what an accepted call does that takes a reply, by the job that its record keeps; a record that keeps none
-- is refused before
abbrev pub takes_reply : Option JobState → (held image reply out : List ℕ) → TakesDone
takes_reply (some s) r im q out =
    let x = said (after take_reply (job_left im s) q) in
    record { answer = takes_answer x; held = packed_job (job_advanced im s q); out = message_put x out }
takes_reply none r im q out = job_untouched (job_takes r im q out) 0

-- what an accepted call does: an opening says the job's first message and leaves its record
unfoldable pub job_does : (c : RadioCall) → JobDone c
job_does (job_opens r im m d out) =
    let g = input_of im m d in
    record { answer = opens_answer (said (job g)); held = packed_job (opened_job g); out = message_put (said (job g)) out }
job_does (job_takes r im q out) = takes_reply (unpacked_job r) r im q out

-- The driver's calls as data, each with everything that it is lent, and what each answers and leaves in what
-- it was lent, for all inputs (document 01, "Numbers that come back"). `C2` of specs/Family.antt puts them
-- together, and the contracts of the calls in C cite it.
use Rattle.std.specs.Prelude.{cond, List, ◌++◌, ℕ, ◌+◌, eqb, leb, length, take, drop, replicate}
use Rattle.numbers.specs.Numbers.{bad_record, other_image, no_room}
use Rattle.c2_wire.specs.Step.{reset, off, code}
use Rattle.c2_wire.specs.Exchange.{Exchange, fed, steps, outcome_of}
use Rattle.settings.specs.declared.Settings.{Settings}
use Rattle.settings.specs.Opening.{opening_refusal}
use Rattle.c2_order.specs.Conversation.{limits_of}
use Rattle.c2_order.specs.Figure.{figure}
use Rattle.c2_session.specs.declared.Session.{Session}
use Rattle.c2_position.specs.Position.{position}
use Rattle.c2_opening.specs.Opened.{opened_session, image_length, exchange_at, session_fed}
use Rattle.c2_record.specs.Record.{record_bytes, Unpacked, Held, Refused, packed, unpacked}
use Rattle.c2_calls.specs.declared.Opened.{Opened}
use Rattle.c2_calls.specs.declared.Advanced.{Advanced}
use Rattle.c2_calls.specs.declared.Remaining.{Remaining}
use Rattle.c2_wire.specs.Exchange

-- A call: an opening, one that takes replies, or a question, each with what it is lent.
pub data Call : Type 0 where
  opening : (held image : List ℕ) → Settings → (first : ℕ) → Call
  taking : (held image replies buffer : List ℕ) → (place : ℕ) → Call
  asking : (held : List ℕ) → Call

-- REFUSED. The number by which an opening is refused: a record of another length (6), then 1, 2, 3, 18, 19, 4
-- and 5.
unfoldable pub opening_number : (bytes : ℕ) → Settings → (first length : ℕ) → ℕ
opening_number bytes t first n = cond (eqb bytes record_bytes) (opening_refusal t first n) bad_record

-- the number by which a call that takes replies is refused before any of them: 6, 7, 8
abbrev pub held_number : Unpacked → (image replies buffer place : ℕ) → ℕ
held_number (Held s) n m k place = cond (eqb n (image_length s)) (cond (leb (place + m) k) 0 no_room) other_image
held_number Refused n m k place = bad_record

-- the number by which a question is refused
abbrev pub asked_number : Unpacked → ℕ
asked_number (Held s) = 0
asked_number Refused = bad_record

-- the number that the rules give a call before any reply, for what it is lent; with 0 it is accepted
unfoldable pub refusal : Call → ℕ
refusal (opening r image t first) = opening_number (length r) t first (length image)
refusal (taking r image rs buffer place) = held_number (unpacked r) (length image) (length rs) (length buffer) place
refusal (asking r) = asked_number (unpacked r)

-- WHAT IS DONE. What an opening answers, and the record afterwards.
pub record OpeningDone : Type 0 where
  pub answer : Opened
  pub held : List ℕ

-- What a call that takes replies answers, and step buffer and record afterwards.
pub record TakingDone : Type 0 where
  pub answer : Advanced
  pub steps : List ℕ
  pub held : List ℕ

-- what a call answers and leaves
abbrev pub Done : Call → Type 0
Done (opening r image t first) = OpeningDone
Done (taking r image rs buffer place) = TakingDone
Done (asking r) = Remaining

-- what a refused call that takes replies answers: its number, no offset, and no reply taken
unfoldable pub refused_answer : (number : ℕ) → Advanced
refused_answer n = record { number = n; offset = 0; taken = 0 }

-- a refused call: its number, and every lent byte as it was
unfoldable pub untouched : (c : Call) → (number : ℕ) → Done c
untouched (opening r image t first) n = record { answer = record { number = n; step = code off }; held = r }
untouched (taking r image rs buffer place) n = record { answer = refused_answer n; steps = buffer; held = r }
untouched (asking r) n = record { number = n; steps = 0 }

-- what an accepted call answers, by the exchange: the outcome, and the replies taken
unfoldable pub taken_answer : Exchange → (replies : List ℕ) → Advanced
taken_answer e rs = record { number = (outcome_of (fed e rs)).number; offset = (outcome_of (fed e rs)).offset; taken = Exchange.taken e rs }

-- the step buffer after an accepted call: the steps that the exchange asks for stand from the place on, and
-- every other byte is as it was
unfoldable pub steps_written : Exchange → (replies : List ℕ) → (place : ℕ) → List ℕ → List ℕ
steps_written e rs place buffer = take place buffer ++ (steps e rs ++ drop (Exchange.taken e rs) (drop place buffer))

-- what an accepted call does that takes replies, by the session that its record holds; a record that holds
-- none is refused before
abbrev pub takes : Unpacked → (held image replies buffer : List ℕ) → (place : ℕ) → TakingDone
takes (Held s) r image rs buffer place =
    let e = exchange_at s image in
    record { answer = taken_answer e rs; steps = steps_written e rs place buffer; held = packed (session_fed s image rs) }
takes Refused r image rs buffer place = untouched (taking r image rs buffer place) 0

-- A question is not lent the image. The figure goes by the point and not by the image's bytes, so an
-- image of the session's length that is all 0 stands for it (`FigureOfAny` in specs/Claims.antt).
abbrev pub blank : Session → List ℕ
blank s = replicate (image_length s) 0

-- what a question is answered: the session's number, and the figure of the most steps to come; 6 and 0 for a
-- bad record
abbrev pub remaining_answer : Unpacked → Remaining
remaining_answer (Held s) =
    record { number = (outcome_of (exchange_at s (blank s))).number; steps = figure (limits_of s.settings) (position s (blank s)) }
remaining_answer Refused = record { number = bad_record; steps = 0 }

-- what an accepted call does: an opening gives its first step, 4, and leaves the new session's record
unfoldable pub does : (c : Call) → Done c
does (opening r image t first) = record { answer = record { number = 0; step = code reset }; held = packed (opened_session t first (length image)) }
does (taking r image rs buffer place) = takes (unpacked r) r image rs buffer place
does (asking r) = remaining_answer (unpacked r)

-- The calls of a radio job as a family: what a list of them tells the driver, and what replies in a row come
-- to by the job's exchange.
use Rattle.std.specs.Prelude.{◌≡◌, true, List, [], ◌∷◌, ℕ, length, take}
use Rattle.exchange.specs.Exchange.{Said, asks, ends, said, after, fed}
use Rattle.exchange.specs.Machine.{Machine, after_replies}
use Rattle.exchange.specs.Calls.{Family}
use Rattle.radio_job.specs.declared.Ending.{Ending}
use Rattle.radio_job.specs.Image.{JobInput}
use Rattle.radio_job.specs.Job.{Message, JobExchange, still_runs, take_reply, job}
use Rattle.radio_job.specs.State.{JobState, opened_job, job_left, state_fits}
use Rattle.radio_job.specs.Advance.{job_advanced}
use Rattle.radio_record.specs.Record.{packed_job, unpacked_job}
use Rattle.radio_calls.specs.Calls.{RadioCall, job_opens, job_takes, job_refusal, JobDone, job_untouched, job_does, message_of}

-- What the driver has of its job: the record; how the job stands, with number 0 while it runs; the message to
-- send; and the length of the reply to it.
pub record RadioTold : Type 0 where
  pub held : List ℕ
  pub ending : Ending
  pub message : List ℕ
  pub expect : ℕ

-- what the driver has after an accepted call: as many bytes as are to be sent stand in the buffer
unfoldable pub job_hears : RadioTold → (c : RadioCall) → JobDone c → RadioTold
job_hears x (job_opens r im m d out) y =
    record {
      held = y.held;
      ending = record { number = y.answer.number; code = 0; offset = 0 };
      message = take y.answer.send y.out;
      expect = y.answer.expect;
    }
job_hears x (job_takes r im q out) y =
    record {
      held = y.held;
      ending = record { number = y.answer.number; code = y.answer.code; offset = y.answer.offset };
      message = take y.answer.send y.out;
      expect = y.answer.expect;
    }

-- what a call is lent that may follow: it is no opening, and is lent the record as left and the same image
abbrev pub JobAsLeft : (image : List ℕ) → RadioTold → RadioCall → Type 0
JobAsLeft image x (job_opens r im m d out) = ⊥
JobAsLeft image x (job_takes r im q out) = (r ≡ x.held) × (im ≡ image)

-- the replies that a call is lent: one, but an opening none
unfoldable pub job_replies : RadioCall → List (List ℕ)
job_replies (job_opens r im m d out) = []
job_replies (job_takes r im q out) = q ∷ []

-- the family of a radio job's calls
abbrev pub Radio : Family
Radio =
    record {
      Call = RadioCall;
      Reply = List ℕ;
      Lent = List ℕ;
      Done = JobDone;
      Told = RadioTold;
      refusal = job_refusal;
      does = job_does;
      untouched = job_untouched;
      replies = job_replies;
      hears = job_hears;
      AsLeft = JobAsLeft;
    }

-- a job's state as a machine that follows the exchange
abbrev pub job_machine : Machine
job_machine =
    record {
      Reply = List ℕ;
      Exchange = JobExchange;
      after = after take_reply;
      Session = JobState;
      Lent = List ℕ;
      packed = packed_job;
      unpacked = unpacked_job;
      advanced = job_advanced;
      left = job_left;
      Fine = λ im s. (state_fits s ≡ true) × (length im ≡ s.bytes);
    }

-- the state of a job after replies in a row
abbrev pub job_state_after : JobInput → (replies : List (List ℕ)) → JobState
job_state_after g rs = after_replies job_machine g.image (opened_job g) rs

-- how an exchange stands, and how long the reply is that it expects
abbrev pub ending_of : Said Message Ending → Ending
ending_of (asks a) = still_runs
ending_of (ends e) = e

abbrev pub expect_of : Said Message Ending → ℕ
expect_of (asks a) = a.expect
expect_of (ends e) = 0

-- what the driver has after replies in a row: the record of the state reached, and what the job says there
unfoldable pub by_job : JobInput → (replies : List (List ℕ)) → RadioTold
by_job g rs =
    let x = said (fed take_reply (job g) rs) in
    record { held = packed_job (job_state_after g rs); ending = ending_of x; message = message_of x; expect = expect_of x }

-- Request i over whole lists of calls: C1 to C4, and a job that is cut. Types alone: proofs/Laws/Whole proves
-- each. C0, reading and building a command, stands in radio_command, specs/Claims.
use Rattle.std.specs.Prelude.{◌≡◌, true, cond, List, [], ◌∷◌, ◌++◌, ℕ, ◌+◌, ◌*◌, ◌≤◌, eqb, length, get_or}
use Rattle.std.proofs.Math.Option.{some}
use Rattle.exchange.specs.Exchange.{ended, ask, fed}
use Rattle.exchange.specs.Calls.{call_done, call_heard, told, in_a_row, MayFollow}
use Rattle.radio_target.specs.declared.RadioTarget.{RadioTarget}
use Rattle.radio_target.specs.State.{fresh_state, radio_stepped}
use Rattle.radio_job.specs.Image.{JobInput, page_count}
use Rattle.radio_job.specs.Job.{JobExchange, take_reply, job, ends_done, ends_error}
use Rattle.radio_job.specs.State.{job_left, state_fits}
use Rattle.radio_record.specs.Record.{packed_job, unpacked_job}
use Rattle.radio_calls.specs.Calls.{RadioCall, job_opens, job_takes, job_refusal, JobDone}
use Rattle.radio_calls.specs.Family.{Radio, RadioTold, job_state_after, by_job}
use Rattle.radio_play.specs.Run.{run_job}
use Rattle.radio_play.specs.Flashes.{job_leaves}
use Rattle.radio_play.specs.Cut.{flash_cut, JobCut, job_again}

-- the call that opens a job, lent a record and a buffer
abbrev pub opens_job : (held out : List ℕ) → JobInput → RadioCall
opens_job h out g = job_opens h g.image g.mask g.ours out

-- the module's own replies to a job, from a state and with a flash: each to the message before it
unfoldable pub own_answers : JobExchange → RadioTarget → (flash : List ℕ) → List (List ℕ)
own_answers (ended e) t f = []
own_answers (ask a k) t f =
    let s = radio_stepped t f a.bytes 256 in
    s.reply ∷ cond (eqb (length s.reply) a.expect) (own_answers (k s.reply) s.target s.flash) []

-- Code protection is off.
abbrev pub ProtectionOff : (flash : List ℕ) → Type 0
ProtectionOff f = get_or f 0x7F01 0 ≡ 0 → ⊥

-- C3 and C4, of what calls with these replies tell (`x`), against a module that is fresh and whose flash is
-- f. With code protection off there are 3 n + 7 replies of its own; once these have come, the job has ended
-- with 32 and the flash is `job_leaves`. With code protection on it has ended with 42 and code 1 after three,
-- and the flash is f.
pub record RadioAgainst (g : JobInput) (f : List ℕ) (x : RadioTold) (replies : List (List ℕ)) : Type 0 where
  pub many : ProtectionOff f → length (own_answers (job g) fresh_state f) ≡ 3 * page_count g.image + 7
  pub done : ProtectionOff f → (more : List (List ℕ)) → replies ≡ own_answers (job g) fresh_state f ++ more → x.ending ≡ ends_done
  pub holds : ProtectionOff f → (run_job (job g) fresh_state f).flash ≡ job_leaves g f
  pub waits : ProtectionOff f → (run_job (job g) fresh_state f).target ≡ fresh_state
  pub cut : ProtectionOff f → (n : ℕ) → JobCut g f n (flash_cut n (job g) fresh_state f)
  pub again : ProtectionOff f → (n : ℕ) → n ≤ 3 * page_count g.image + 6
      → (run_job (job (job_again g f)) fresh_state (flash_cut n (job g) fresh_state f)).flash ≡ job_leaves g f
  pub third : get_or f 0x7F01 0 ≡ 0 → length (own_answers (job g) fresh_state f) ≡ 3
  pub refused : get_or f 0x7F01 0 ≡ 0 → (more : List (List ℕ)) → replies ≡ own_answers (job g) fresh_state f ++ more
      → x.ending ≡ ends_error 1
  pub same : get_or f 0x7F01 0 ≡ 0 → (run_job (job g) fresh_state f).flash ≡ f

-- A refused call: it answers its number and zeros, and leaves record and buffer as they were lent.
abbrev pub KeepsAll : (c : RadioCall) → (number : ℕ) → JobDone c → Type 0
KeepsAll (job_opens r im m d out) n y = (y.answer ≡ record { number = n; send = 0; expect = 0 }) × (y.held ≡ r) × (y.out ≡ out)
KeepsAll (job_takes r im q out) n y =
    (y.answer ≡ record { number = n; code = 0; offset = 0; send = 0; expect = 0 }) × (y.held ≡ r) × (y.out ≡ out)

-- What is claimed of a list of calls after an accepted opening. C1: each refused one changes no byte that it
-- is lent; what the calls tell is what the replies of the accepted ones in a row come to; the record is that
-- of a state of the job, with the image's length and the mask of the opening, which leaves to say what those
-- replies leave of the job. C2: with 3 n + 7 replies, whatever they are, the job has ended. C3 and C4:
-- `RadioAgainst`.
pub record RadioWhole (g : JobInput) (x : RadioTold) (calls : List RadioCall) : Type 0 where
  pub refused : (c : RadioCall) → (job_refusal c ≡ 0 → ⊥) → KeepsAll c (job_refusal c) (call_done Radio c)
  pub told_is : x ≡ by_job g (in_a_row Radio calls)
  pub held : x.held ≡ packed_job (job_state_after g (in_a_row Radio calls))
  pub kept : unpacked_job x.held ≡ some (job_state_after g (in_a_row Radio calls))
  pub long : (job_state_after g (in_a_row Radio calls)).bytes ≡ length g.image
  pub mask : (job_state_after g (in_a_row Radio calls)).mask ≡ g.mask
  pub fits : state_fits (job_state_after g (in_a_row Radio calls)) ≡ true
  pub leaves : job_left g.image (job_state_after g (in_a_row Radio calls)) ≡ fed take_reply (job g) (in_a_row Radio calls)
  pub ends : 3 * page_count g.image + 7 ≤ length (in_a_row Radio calls) → x.ending.number ≡ 0 → ⊥
  pub against : (f : List ℕ) → length f ≡ 33024 → RadioAgainst g f x (in_a_row Radio calls)

-- Request i: whatever the driver knew before, after an accepted opening, of every list of calls that may
-- follow it.
abbrev pub RadioCallsProgram : Type 0
RadioCallsProgram =
    (g : JobInput) (held out : List ℕ) (before : RadioTold) (calls : List RadioCall) → job_refusal (opens_job held out g) ≡ 0
    → MayFollow Radio g.image (call_heard Radio before (opens_job held out g)) calls
    → RadioWhole g (told Radio before (opens_job held out g ∷ calls)) calls

-- Lists with the same replies in a row are alike in all that they tell.
abbrev pub RadioCallsAlike : Type 0
RadioCallsAlike =
    (g : JobInput) (held out : List ℕ) (before : RadioTold) (calls others : List RadioCall) → job_refusal (opens_job held out g) ≡ 0
    → MayFollow Radio g.image (call_heard Radio before (opens_job held out g)) calls
    → MayFollow Radio g.image (call_heard Radio before (opens_job held out g)) others
    → in_a_row Radio calls ≡ in_a_row Radio others
    → told Radio before (opens_job held out g ∷ calls) ≡ told Radio before (opens_job held out g ∷ others)

-- There are lists that `RadioCallsProgram` is about: whatever the module's flash, some calls take its own
-- replies, all of them.
pub record SomeRadioCalls (g : JobInput) (held out : List ℕ) (before : RadioTold) (f : List ℕ) : Type 0 where
  pub calls : List RadioCall
  pub follow : MayFollow Radio g.image (call_heard Radio before (opens_job held out g)) calls
  pub own : in_a_row Radio calls ≡ own_answers (job g) fresh_state f

abbrev pub RadioCallsExist : Type 0
RadioCallsExist =
    (g : JobInput) (held out : List ℕ) (before : RadioTold) (f : List ℕ) → job_refusal (opens_job held out g) ≡ 0
    → SomeRadioCalls g held out before f

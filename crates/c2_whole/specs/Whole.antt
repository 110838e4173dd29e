-- Demand 3: whole lists of calls, against the target, with requests e and h. Types alone: proofs/Laws/Whole
-- proves each.
use Rattle.std.specs.Prelude.{◌≡◌, Bool, true, false, cond, List, [], ◌∷◌, ℕ, ◌+◌, ◌*◌, ◌<◌, ◌≤◌, length, take}
use Rattle.numbers.specs.Numbers.{done, running, bad_status}
use Rattle.laws.specs.Bytes.{Bytes}
use Rattle.c2_wire.specs.Step.{off, code}
use Rattle.c2_wire.specs.Exchange.{outcome}
use Rattle.settings.specs.declared.Pairs.{Pairs}
use Rattle.settings.specs.declared.Settings.{Settings}
use Rattle.settings.specs.Registers.{pairs_of, are_pairs, leave_all}
use Rattle.c2_order.specs.Conversation.{limits_of}
use Rattle.settings.specs.Accepted.{settings_refusal}
use Rattle.c2_target.specs.Target.{fresh}
use Rattle.c2_target_state.specs.declared.State.{State}
use Rattle.c2_target_state.specs.State.{state_of}
use Rattle.c2_target_state.specs.Model.{model_answer, model_flash}
use Rattle.c2_play.specs.Job.{Job, first_of, Proper, job_pages, programmed}
use Rattle.c2_cut.specs.Cut.{Cut}
use Rattle.c2_calls.specs.Calls.{Call, opening, taking, refusal}
use Rattle.c2_calls.specs.Family.{C2, Told, by_replies}
use Rattle.c2_calls.specs.Claims.{RefusedKeeps}
use Rattle.exchange.specs.Calls.{call_heard, told, in_a_row, MayFollow}

-- THE JOB, as c2_play has it: the call that opens its session, lent a record.
abbrev pub opening_call : (held : List ℕ) → Job → Call
opening_call held j = opening held j.image j.settings (first_of j.pages)

-- what a job's opening tells, whatever the driver knew before
abbrev pub at_opening : (before : Told) → (held : List ℕ) → Job → Told
at_opening before held j = call_heard C2 before (opening_call held j)

-- A job begins: its opening is accepted; it is over bytes, and its pages rise (`Proper`).
pub record Begins (held : List ℕ) (j : Job) : Type 0 where
  pub accepted : refusal (opening_call held j) ≡ 0
  pub proper : Proper j

-- a job over the same pages with another image
abbrev pub anew : Job → (image : List ℕ) → Job
anew j image = record { settings = j.settings; pages = j.pages; image = image }

-- THE TARGET: the pairs of register and value that its device wants, its state, its flash and its delays.
pub record Bench : Type 0 where
  pub wanted : Pairs
  pub target : State
  pub flash : List ℕ
  pub delays : List ℕ

-- the target's reply to a step
abbrev pub reply : Settings → Bench → (step : ℕ) → ℕ
reply t b x = (model_answer t b.wanted b.target b.flash b.delays x).reply

-- the target after a step
abbrev pub bench_step : Settings → Bench → (step : ℕ) → Bench
bench_step t b x =
    record {
      wanted = b.wanted;
      target = (model_answer t b.wanted b.target b.flash b.delays x).target;
      flash = model_flash t b.wanted b.target b.flash b.delays x;
      delays = b.delays;
    }

-- the target's replies to steps in a row
unfoldable pub replies : Settings → Bench → (steps : List ℕ) → List ℕ
replies t b [] = []
replies t b (x ∷ xs) = reply t b x ∷ replies t (bench_step t b x) xs

-- the target after steps in a row
unfoldable pub bench_after : Settings → Bench → (steps : List ℕ) → Bench
bench_after t b [] = b
bench_after t b (x ∷ xs) = bench_after t (bench_step t b x) xs

-- A target is one that a session may meet: no step that a session sends is refused (step 6, which changes
-- nothing, is not), so its wanted pairs pass 19; no collision is marked, and flash and delays are bytes.
pub record Ready (t : Settings) (b : Bench) : Type 0 where
  pub steps : (model_answer t b.wanted b.target b.flash b.delays (code off)).number ≡ 0
  pub unmarked : b.target.collision ≡ 0
  pub flash : Bytes b.flash
  pub delays : Bytes b.delays

-- Whether the settings' pairs leave the wanted values (document 02, e; the premise of demand 3): each wanted
-- pair is the last of the settings' pairs with its register.
abbrev pub prepares : Job → Bench → Bool
prepares j b = leave_all (pairs_of j.settings.pairs) (pairs_of b.wanted)

-- THE CLAIM. The steps that the target is sent, as the calls tell it: the opening's step, then the steps that
-- were written.
abbrev pub steps_sent : Told → List ℕ
steps_sent x = x.first_step ∷ x.steps

-- the target after n of the steps that it is sent
abbrev pub bench_cut : Job → Bench → Told → (n : ℕ) → Bench
bench_cut j b x n = bench_after j.settings b (take n (steps_sent x))

-- each reply taken is the target's own to the step before
abbrev pub Own : Settings → Bench → Told → (replies : List ℕ) → Type 0
Own t b x rs = take x.taken rs ≡ replies t b (take x.taken (steps_sent x))

-- What is claimed against a target whose wanted values the settings' pairs leave, of what was told at the
-- opening (`start`) and after calls with these replies (`x`). With as many replies as the most steps to come
-- at the opening the session has ended. Once it has ended, it has ended done, and the target, by then or with
-- the last step too, holds the image in the named pages, and every other byte as it was.
pub record Against (j : Job) (b : Bench) (start x : Told) (rs : List ℕ) : Type 0 where
  pub ends : start.left ≤ length rs → x.outcome ≡ outcome done
  pub as_done : (x.outcome.number ≡ running → ⊥) → x.outcome ≡ outcome done
  pub holds : x.outcome ≡ outcome done → (n : ℕ) → x.taken ≤ n → (bench_cut j b x n).flash ≡ programmed j b.flash

-- What is claimed against a target whose wanted values the settings' pairs do not leave: it turns the session
-- away. However many of the steps it has got, its flash is as before. With as many replies as the most steps
-- to come at the opening the session has ended, and once it has ended, it has ended with 13, the number of a
-- status that is not 0x0D.
pub record TurnedAway (j : Job) (b : Bench) (start x : Told) (rs : List ℕ) : Type 0 where
  pub unchanged : (n : ℕ) → (bench_cut j b x n).flash ≡ b.flash
  pub ends : start.left ≤ length rs → x.outcome ≡ outcome bad_status
  pub as_turned_away : (x.outcome.number ≡ running → ⊥) → x.outcome ≡ outcome bad_status

-- What is claimed when the battery comes out (document 02, h) after n of the steps, whether or not the
-- settings' pairs leave the wanted values. A page not named is as before; one whose read-back has ended with
-- no byte differing holds its image; a named one not yet begun is as before; at most one page is neither
-- (`Cut` of c2_cut). The target as it was left is one that a session may meet, so no collision is marked, and
-- wants the same pairs: `CallsProgram` applies to a new session over the same pages as to any. The flash
-- that it programs is the one that it would have programmed with no session before it (`CallsAgain`).
pub record WhenCut (j : Job) (b : Bench) (x : Told) (rs : List ℕ) (n : ℕ) : Type 0 where
  pub pages : Cut (limits_of j.settings) j.settings (job_pages j) rs n b.flash (bench_cut j b x n).flash
  pub ready : Ready j.settings (bench_cut j b x n)
  pub wanted : (bench_cut j b x n).wanted ≡ b.wanted
  pub again : (held image : List ℕ) → Begins held (anew j image)
      → programmed (anew j image) (bench_cut j b x n).flash ≡ programmed (anew j image) b.flash

-- What is claimed of a list of calls: each refused one changes no byte that it is lent and takes no reply;
-- what the calls tell is what the replies in a row come to; the most steps to come and the replies taken are
-- together at most what the opening told; and where the replies are the target's own, `Against` holds if the
-- settings' pairs leave the wanted values, `TurnedAway` if not, and `WhenCut` after any number of steps.
pub record Whole (j : Job) (start x : Told) (calls : List Call) : Type 0 where
  pub refused : RefusedKeeps
  pub told_is : x ≡ by_replies j.settings (first_of j.pages) j.image (in_a_row C2 calls)
  pub bounded : x.left + x.taken ≤ start.left
  pub against : (b : Bench) → Ready j.settings b → Own j.settings b x (in_a_row C2 calls) → prepares j b ≡ true
      → Against j b start x (in_a_row C2 calls)
  pub turned_away : (b : Bench) → Ready j.settings b → Own j.settings b x (in_a_row C2 calls) → prepares j b ≡ false
      → TurnedAway j b start x (in_a_row C2 calls)
  pub cut : (b : Bench) → Ready j.settings b → Own j.settings b x (in_a_row C2 calls)
      → (n : ℕ) → WhenCut j b x (in_a_row C2 calls) n

-- Demand 3: whatever the driver knew before, after an accepted opening, of every list of calls that may
-- follow it.
abbrev pub CallsProgram : Type 0
CallsProgram = (j : Job) (held : List ℕ) (before : Told) (calls : List Call) → Begins held j
    → MayFollow C2 j.image (at_opening before held j) calls
    → Whole j (at_opening before held j) (told C2 before (opening_call held j ∷ calls)) calls

-- A new session for a job, on a target (`left`) that an earlier one has left, ends as demand 3 says, with no
-- collision marked; and the flash is then what it would have been on the target before that session (`b`).
pub record EndsAnew (j : Job) (b left : Bench) (start x : Told) (rs : List ℕ) : Type 0 where
  pub against : Against j left start x rs
  pub unmarked : (n : ℕ) → (bench_cut j left x n).target.collision ≡ 0
  pub as_if_first : x.outcome ≡ outcome done → (n : ℕ) → x.taken ≤ n → (bench_cut j left x n).flash ≡ programmed j b.flash

-- When the battery comes out (document 02, h), the second sentence: after a session's calls, cut after any
-- number of steps, every list of calls that follows an accepted opening over the same pages, with the same
-- image or another, ends so where the replies are the target's own and the settings' pairs leave the wanted
-- values.
abbrev pub CallsAgain : Type 0
CallsAgain = (j : Job) (held : List ℕ) (before : Told) (calls : List Call) (b : Bench) (n : ℕ) → Begins held j
    → MayFollow C2 j.image (at_opening before held j) calls
    → let x = told C2 before (opening_call held j ∷ calls) in
    Ready j.settings b → Own j.settings b x (in_a_row C2 calls) → prepares j b ≡ true
    → (image held_anew : List ℕ) (knew : Told) (later : List Call) → Begins held_anew (anew j image)
    → MayFollow C2 image (at_opening knew held_anew (anew j image)) later
    → let y = told C2 knew (opening_call held_anew (anew j image) ∷ later) in
    Own j.settings (bench_cut j b x n) y (in_a_row C2 later)
    → EndsAnew (anew j image) b (bench_cut j b x n) (at_opening knew held_anew (anew j image)) y (in_a_row C2 later)

-- Lists with the same replies in a row are alike in all that they tell (`CallsAlike`), a list of a single
-- call too (`LikeOneCall`), where its step buffer has room.
abbrev pub CallsAlike : Type 0
CallsAlike = (j : Job) (held : List ℕ) (before : Told) (calls others : List Call) → Begins held j
    → MayFollow C2 j.image (at_opening before held j) calls
    → MayFollow C2 j.image (at_opening before held j) others
    → in_a_row C2 calls ≡ in_a_row C2 others
    → told C2 before (opening_call held j ∷ calls) ≡ told C2 before (opening_call held j ∷ others)

abbrev pub LikeOneCall : Type 0
LikeOneCall = (j : Job) (held buffer : List ℕ) (before : Told) (calls : List Call) → Begins held j
    → MayFollow C2 j.image (at_opening before held j) calls
    → length (in_a_row C2 calls) ≤ length buffer
    → told C2 before (opening_call held j ∷ calls)
    ≡ told C2 before (opening_call held j
    ∷ taking (at_opening before held j).held j.image (in_a_row C2 calls) buffer 0 ∷ [])

-- There are lists that `CallsProgram` is about: whatever the target, some calls take its own replies to the
-- end, which is done if the settings' pairs leave the wanted values, and 13 if not.
pub record SomeCalls (j : Job) (held : List ℕ) (before : Told) (b : Bench) : Type 0 where
  pub calls : List Call
  pub follow : MayFollow C2 j.image (at_opening before held j) calls
  pub own : Own j.settings b (told C2 before (opening_call held j ∷ calls)) (in_a_row C2 calls)
  pub ended : (told C2 before (opening_call held j ∷ calls)).outcome ≡ outcome (cond (prepares j b) done bad_status)

abbrev pub CallsExist : Type 0
CallsExist = (j : Job) (held : List ℕ) (before : Told) (b : Bench) → Begins held j → Ready j.settings b → SomeCalls j held before b

-- A fresh target is ready, with any wanted pairs that pass 19, any flash of size times count bytes and any
-- delays. The limit of a WAIT is a byte, as in C.
abbrev pub FreshReady : Type 0
FreshReady = (t : Settings) (w : Pairs) (f ds : List ℕ) → settings_refusal t ≡ 0 → t.wait < 256 → are_pairs t.fpdat w ≡ true
    → length f ≡ t.size * t.count → Bytes f → Bytes ds
    → Ready t (record { wanted = w; target = state_of fresh; flash = f; delays = ds })

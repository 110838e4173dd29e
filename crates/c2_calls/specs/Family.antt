-- C2's calls as a family: what a list of them tells the driver of its session, and what replies in a row come
-- to by the definitions of demand 2.
use Rattle.std.specs.Prelude.{◌≡◌, List, [], ◌++◌, ℕ, ◌+◌, length, take, drop}
use Rattle.exchange.specs.Calls.{Family}
use Rattle.c2_wire.specs.Exchange.{Outcome, outcome, asks, fed, steps, outcome_of}
use Rattle.settings.specs.declared.Settings.{Settings}
use Rattle.c2_order.specs.Conversation.{limits_of}
use Rattle.c2_order.specs.Figure.{figure}
use Rattle.c2_order.specs.Claims.{exchange_of, point_after}
use Rattle.c2_session.specs.declared.Session.{Session}
use Rattle.c2_record.specs.Record.{packed, unpacked}
use Rattle.c2_opening.specs.Opened.{opened_session, session_fed}
use Rattle.c2_calls.specs.Calls.{Call, opening, taking, asking, refusal, Done, untouched, does, remaining_answer}
use Rattle.c2_wire.specs.Exchange

-- What the driver has of its session (demand 3): the record, the first step, as the opening answered it, the
-- steps written to step buffers, joined, the replies taken, summed, the outcome, and the most steps to come.
pub record Told : Type 0 where
  pub held : List ℕ
  pub first_step : ℕ
  pub steps : List ℕ
  pub taken : ℕ
  pub outcome : Outcome
  pub left : ℕ

-- the most steps to come, as a question that is lent this record is told (`LeftAsAsked` in
-- specs/Claims.antt)
abbrev pub told_left : (held : List ℕ) → ℕ
told_left r = (remaining_answer (unpacked r)).steps

-- what the driver has after an accepted call: as many steps as were taken stand in the step buffer, from the
-- place on
unfoldable pub hears : Told → (c : Call) → Done c → Told
hears x (opening r image t first) d =
    let o = outcome d.answer.number in
    record { held = d.held; first_step = d.answer.step; steps = []; taken = 0; outcome = o; left = told_left d.held }
hears x (taking r image rs buffer place) d =
    record {
      held = d.held;
      first_step = x.first_step;
      steps = x.steps ++ take d.answer.taken (drop place d.steps);
      taken = x.taken + d.answer.taken;
      outcome = record { number = d.answer.number; offset = d.answer.offset };
      left = told_left d.held;
    }
hears x (asking r) d =
    record {
      held = x.held;
      first_step = x.first_step;
      steps = x.steps;
      taken = x.taken;
      outcome = record { number = d.number; offset = x.outcome.offset };
      left = d.steps;
    }

-- what a call is lent that may follow: it is no opening, and is lent the record as left and the same image
abbrev pub AsLeft : (image : List ℕ) → Told → Call → Type 0
AsLeft image x (opening r i t first) = ⊥
AsLeft image x (taking r i rs buffer place) = (r ≡ x.held) × (i ≡ image)
AsLeft image x (asking r) = r ≡ x.held

-- the replies that a call is lent
unfoldable pub replies_of : Call → List ℕ
replies_of (opening r image t first) = []
replies_of (taking r image rs buffer place) = rs
replies_of (asking r) = []

-- C2's family of calls
abbrev pub C2 : Family
C2 =
    record {
      Call = Call;
      Reply = ℕ;
      Lent = List ℕ;
      Done = Done;
      Told = Told;
      refusal = refusal;
      does = does;
      untouched = untouched;
      replies = replies_of;
      hears = hears;
      AsLeft = AsLeft;
    }

-- the session that was opened, after replies
abbrev pub session_after : Settings → (first : ℕ) → (image replies : List ℕ) → Session
session_after t first image rs = session_fed (opened_session t first (length image)) image rs

-- what the driver has after replies in a row, by the definitions of demand 2: the exchange of the session's
-- order fed with them, the session that is reached, and the point of the order
unfoldable pub by_replies : Settings → (first : ℕ) → (image replies : List ℕ) → Told
by_replies t first image rs =
    let e = exchange_of (limits_of t) t first image in
    record {
      held = packed (session_after t first image rs);
      first_step = asks e;
      steps = steps e rs;
      taken = Exchange.taken e rs;
      outcome = outcome_of (fed e rs);
      left = figure (limits_of t) (point_after (limits_of t) t first image rs);
    }

-- What is claimed of refused calls (demand 1) and of an opening's answer; of a session whose replies come in
-- parts, by the definitions that the calls meet (demand 2, and the first half of demand 3); of the records
-- that calls write; and of the figure that a question tells. Types alone: proofs/Laws/Claims proves each, and
-- proofs/Laws/Figure `LeftAsAsked`, `ToldZero` and `ToldFalls`.
use Rattle.std.specs.Prelude.{◌≡◌, true, List, ◌++◌, ◌↔◌, ◌⊎◌, ℕ, ◌+◌, ◌/◌, ◌<◌, ◌≤◌, length}
use Rattle.numbers.specs.Numbers.{running}
use Rattle.laws.specs.Bytes.{Bytes}
use Rattle.c2_wire.specs.Step.{off, code}
use Rattle.c2_wire.specs.Exchange.{fed, asks, outcome_of, own}
use Rattle.settings.specs.declared.Settings.{Settings}
use Rattle.settings.specs.Accepted.{InBytes, tidied}
use Rattle.settings.specs.Registers.{pair_at}
use Rattle.settings.specs.Opening.{opening_refusal}
use Rattle.c2_order.specs.Order.{session_order}
use Rattle.c2_order.specs.Conversation.{limits_of}
use Rattle.c2_order.specs.Point.{reached}
use Rattle.c2_order.specs.Figure.{figure}
use Rattle.c2_order.specs.Claims.{exchange_of, point_after, LastNumber}
use Rattle.c2_session.specs.declared.Session.{Session}
use Rattle.c2_session.specs.Code.Step.{session_step}
use Rattle.c2_outcome.specs.Outcome.{number_of, offset_of}
use Rattle.c2_range.specs.Range.{in_range}
use Rattle.c2_position.specs.Position.{position}
use Rattle.c2_position.specs.Claims.{Placed}
use Rattle.c2_record.specs.Record.{Held, packed, unpacked}
use Rattle.c2_opening.specs.Opened.{image_length, exchange_at, session_fed}
use Rattle.exchange.specs.Calls.{call_done}
use Rattle.c2_calls.specs.declared.Opened.{Opened}
use Rattle.c2_calls.specs.Calls.{Call, opening, taking, asking, refusal, Done, blank}
use Rattle.c2_calls.specs.Family.{C2, told_left, session_after}

-- A refused call answers the number, changes no byte that it was lent and takes no reply: an opening gives
-- step 6, and its record is as lent; so are record and step buffer of a call that takes replies; a question
-- is told no steps to come.
abbrev pub ChangesNothing : (c : Call) → (number : ℕ) → Done c → Type 0
ChangesNothing (opening r image t first) n d = (d.answer.number ≡ n) × (d.answer.step ≡ code off) × (d.held ≡ r)
ChangesNothing (taking r image rs buffer place) n d =
    (d.answer.number ≡ n) × (d.answer.offset ≡ 0) × (d.answer.taken ≡ 0) × (d.steps ≡ buffer) × (d.held ≡ r)
ChangesNothing (asking r) n d = (d.number ≡ n) × (d.steps ≡ 0)

-- Whatever a call is lent: where the rules give it a number, that is its answer, and it changes nothing.
abbrev pub RefusedKeeps : Type 0
RefusedKeeps = (c : Call) → (refusal c ≡ 0 → ⊥) → ChangesNothing c (refusal c) (call_done C2 c)

-- What an opening answers: the number 0, running, and the first step of the session's exchange.
pub record FirstAsked (t : Settings) (first : ℕ) (image : List ℕ) (answer : Opened) : Type 0 where
  pub number : answer.number ≡ running
  pub step : answer.step ≡ asks (exchange_of (limits_of t) t first image)

-- Every accepted opening answers so.
abbrev pub OpeningAnswers : Type 0
OpeningAnswers = (held image : List ℕ) (t : Settings) (first : ℕ) → refusal (opening held image t first) ≡ 0
    → FirstAsked t first image (call_done C2 (opening held image t first)).answer

-- Settings are the same but for entries of pairs that are not named, those from the count on.
pub record NamedAlike (t u : Settings) : Type 0 where
  pub id : t.id ≡ u.id
  pub fpdat : t.fpdat ≡ u.fpdat
  pub size : t.size ≡ u.size
  pub count : t.count ≡ u.count
  pub wait : t.wait ≡ u.wait
  pub pairs : t.pairs.count ≡ u.pairs.count
  pub registers : (i : ℕ) → i < t.pairs.count → (pair_at t.pairs i).register ≡ (pair_at u.pairs i).register
  pub values : (i : ℕ) → i < t.pairs.count → (pair_at t.pairs i).value ≡ (pair_at u.pairs i).value

-- Of two openings with such settings each answers as the other and leaves the record that the other leaves.
abbrev pub UnnamedAlike : Type 0
UnnamedAlike = (held image : List ℕ) (t u : Settings) (first : ℕ) → NamedAlike t u
    → call_done C2 (opening held image t first) ≡ call_done C2 (opening held image u first)

-- The session that was opened, after replies: its settings, with 0 in the entries of pairs that are not
-- named, and its pages are those of the opening; its record is taken and holds it, with the image of the
-- opening; it stands at the point of the order that the replies reach; and what it leaves to say is what they
-- leave of the exchange of the session's order.
pub record Follows (t : Settings) (first : ℕ) (image replies : List ℕ) : Type 0 where
  pub settings : (session_after t first image replies).settings ≡ tidied t
  pub first_page : (session_after t first image replies).first ≡ first
  pub pages : (session_after t first image replies).pages ≡ length image / t.size
  pub held : unpacked (packed (session_after t first image replies)) ≡ Held (session_after t first image replies)
  pub whole : length image ≡ image_length (session_after t first image replies)
  pub point : position (session_after t first image replies) image ≡ point_after (limits_of t) t first image replies
  pub left : exchange_at (session_after t first image replies) image ≡ fed (exchange_of (limits_of t) t first image) replies

-- After an accepted opening and any replies the session follows the exchange.
abbrev pub RepliesFollow : Type 0
RepliesFollow = (t : Settings) (first : ℕ) (image replies : List ℕ) → InBytes t → Bytes image
    → opening_refusal t first (length image) ≡ 0 → Follows t first image replies

-- Replies in two parts lead where they lead in a row.
abbrev pub PartsJoin : Type 0
PartsJoin = (s : Session) (image qs rs : List ℕ) → session_fed (session_fed s image qs) image rs ≡ session_fed s image (qs ++ rs)

-- A session, lent an image of its length, after replies: its settings and pages stay; its record is taken and
-- holds it; it stands in its order, at the point that the replies reach from where it stood, and no other
-- session in range with these settings and pages stands there; what it leaves to say is what the replies
-- leave of the exchange from where it stood; the step that it waits at, its number and its offset are that
-- exchange's; and C2D is driven there only in a field of the master's.
pub record FollowsOn (s : Session) (image replies : List ℕ) : Type 0 where
  pub settings : (session_fed s image replies).settings ≡ s.settings
  pub first_page : (session_fed s image replies).first ≡ s.first
  pub pages : (session_fed s image replies).pages ≡ s.pages
  pub held : unpacked (packed (session_fed s image replies)) ≡ Held (session_fed s image replies)
  pub stands : Placed (limits_of s.settings) (session_order s.settings s.first image) (session_fed s image replies).point
      (position (session_fed s image replies) image)
  pub point : position (session_fed s image replies) image ≡ reached (limits_of s.settings) (position s image) replies
  pub only : (t : Session) → in_range t ≡ true → t.settings ≡ s.settings → t.first ≡ s.first → t.pages ≡ s.pages
      → position t image ≡ reached (limits_of s.settings) (position s image) replies → t ≡ session_fed s image replies
  pub left : exchange_at (session_fed s image replies) image ≡ fed (exchange_at s image) replies
  pub step : session_step (session_fed s image replies) image ≡ asks (fed (exchange_at s image) replies)
  pub number : number_of (session_fed s image replies).point ≡ (outcome_of (fed (exchange_at s image) replies)).number
  pub offset : offset_of (session_fed s image replies).point ≡ (outcome_of (fed (exchange_at s image) replies)).offset
  pub driven : own (fed (exchange_at s image) replies) ≡ true

-- Whatever record a call takes, ours or not: its session, lent an image of its length, goes on so after any
-- replies.
abbrev pub HeldFollows : Type 0
HeldFollows = (r : List ℕ) (s : Session) (image replies : List ℕ) → unpacked r ≡ Held s → Bytes image
    → length image ≡ image_length s
    → FollowsOn s image replies

-- Whatever record a call takes: its session, if it runs, lent an image of its length, still runs after any
-- replies, or has ended with one of the numbers that end a session, 9 to 14 and 32.
abbrev pub HeldEnds : Type 0
HeldEnds = (r : List ℕ) (s : Session) (image replies : List ℕ) → unpacked r ≡ Held s → number_of s.point ≡ running
    → Bytes image → length image ≡ image_length s
    → (number_of (session_fed s image replies).point ≡ running) ⊎ LastNumber (number_of (session_fed s image replies).point)

-- The figure goes by the session and not by the image's bytes.
abbrev pub FigureOfAny : Type 0
FigureOfAny = (s : Session) (image : List ℕ) → in_range s ≡ true → length image ≡ image_length s
    → figure (limits_of s.settings) (position s image) ≡ figure (limits_of s.settings) (position s (blank s))

-- the figure that a question answers, lent this record
abbrev pub figure_told : (held : List ℕ) → ℕ
figure_told r = (call_done C2 (asking r)).steps

-- Whatever the record, the most steps to come that a driver has is what a question would answer.
abbrev pub LeftAsAsked : Type 0
LeftAsAsked = (r : List ℕ) → told_left r ≡ figure_told r

-- Whatever the record, the figure told is 0 exactly if the number told is not 0, running.
abbrev pub ToldZero : Type 0
ToldZero = (r : List ℕ) → figure_told r ≡ 0 ↔ ((call_done C2 (asking r)).number ≡ running → ⊥)

-- Whatever the record, a call that takes replies lowers the figure told by at least the replies taken.
abbrev pub ToldFalls : Type 0
ToldFalls = (r image replies buffer : List ℕ) (place : ℕ) → Bytes image
    → figure_told (call_done C2 (taking r image replies buffer place)).held
    + (call_done C2 (taking r image replies buffer place)).answer.taken
    ≤ figure_told r

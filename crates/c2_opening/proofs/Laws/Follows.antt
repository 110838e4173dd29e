-- A session in range, lent its image, follows the exchange of its order: what it asks for, its number and
-- offset, and what replies make of it.
use mathlib.Core.Path.{◌≡◌, refl, sym, ap, ◌∙◌}
use mathlib.Core.Bool.{Bool, true, false}
use mathlib.Core.List.{List, [], ◌∷◌}
use Prim.Native.Nat.{ℕ, ◌<◌}
use native.Mathlib.Omega.{arith}
use lib.ListN.{length}
use Rattle.laws.specs.Bytes.{Bytes}
use Rattle.c2_wire.specs.Step.{Step}
use Rattle.c2_wire.specs.Field.{Field}
use Rattle.c2_wire.specs.Exchange.{Exchange, strobe, ask, at, outcome, fed, outcome_of}
use Rattle.c2_wire.proofs.Laws.Place.{remaining_asks}
use Rattle.c2_order.specs.Conversation.{limits_of}
use Rattle.c2_order.specs.Point.{left_to_say, follow_up, strobes_of, reads_of}
use Rattle.c2_order.proofs.Laws.Valid.{Valid}
use Rattle.c2_session.specs.declared.Point.TheVariants.{Running, Ended}
use Rattle.c2_session.specs.declared.Session.{Session}
use Rattle.c2_session.specs.Code.Advance.{point_advanced, advanced}
use Rattle.c2_range.specs.Range.{in_range, point_in_range}
use Rattle.c2_position.specs.Position.{position, point_position}
use Rattle.c2_range.proofs.Laws.Bounds.{bounded}
use Rattle.c2_position.proofs.Laws.Advanced.{SessionPoint, fits_of, point_of}
use Rattle.c2_position.proofs.Laws.Onward.{acts_here}
use Rattle.c2_position.proofs.Laws.Range.{advanced_in_range}
use Rattle.c2_position.proofs.Laws.Exchange.{position_valid, exchange_advances}
use Rattle.c2_opening.specs.Opened.{image_length, exchange_at, session_fed}
use Rattle.c2_outcome.specs.Outcome.{is_running, number_of, offset_of}
use Rattle.c2_order.specs.Point
use Rattle.exchange.specs.Exchange as Shared

-- an ended session stays as it is
pub advanced_ended : (s : Session) (r : ℕ) (image : List ℕ) → is_running s.point ≡ false → advanced s r image ≡ s
unfolding advanced
advanced_ended s r image e = λ t. record { settings = s.settings; first = s.first; pages = s.pages; point = same s.point e t }
  where
    same : (y : SessionPoint) → is_running y ≡ false → point_advanced (limits_of s.settings) y s r image ≡ y
    same (Running g i j k q c v) f = absurd (let z : ◌≡◌ {A = ℕ} 0 1 = cc in omega arith)
    same (Ended n o) f = refl

pub after_ended : (s : Session) (image rs : List ℕ) → is_running s.point ≡ false → session_fed s image rs ≡ s
unfolding session_fed
after_ended s image [] e = refl
after_ended s image (r ∷ rs) e = rw (advanced_ended s r image e) (after_ended s image rs e)

-- an exchange that has not ended: it asks for a step
abbrev pub Asked : Exchange → Type 0
Asked (Shared.ended o) = ⊥
Asked (ask (at f x) k) = Unit {0}

abbrev Runs : Point.Point → Type 0
Runs (Point.running a acts p) = Unit {0}
Runs (Point.ended o) = ⊥

-- a session in range, lent its image
pub record Lent (s : Session) (image : List ℕ) : Type 0 where
  pub id : s.settings.id < 256
  pub bytes : Bytes image
  pub range : in_range s ≡ true
  pub whole : length image ≡ image_length s

pub lent_advances : (s : Session) (image : List ℕ) (r : ℕ) → Lent s image → Lent (advanced s r image) image
unfolding advanced
lent_advances s image r h =
    record { id = h.id; bytes = h.bytes; range = advanced_in_range s image h.range h.whole r; whole = h.whole }

-- a running session stands at an act of its order
position_runs : (s : Session) (image : List ℕ) → Lent s image → is_running s.point ≡ true → Runs (position s image)
unfolding point_position
position_runs s image h e = go s.point e (point_of s h.range)
  where
    go : (y : SessionPoint) → is_running y ≡ true → point_in_range (limits_of s.settings) s.settings.size s.settings.pairs.count s.pages y ≡ true → Runs (point_position s image y)
    go (Running g i j k q c v) f r =
        let n = bounded (limits_of s.settings).wait (limits_of s.settings).reads s.settings.size s.settings.pairs.count s.pages g i j k q c v r in
        rw (acts_here s image (fits_of s image h.range h.whole) g i j k n.page n.block n.act) tt
    go (Ended n o) f r = absurd (let z : ◌≡◌ {A = ℕ} 0 1 = cc in omega arith)

-- the exchange of a running session asks for a step
pub still_asks : (s : Session) (image : List ℕ) → Lent s image → is_running s.point ≡ true
    → (f : Field) × (x : Step) × (k : Bool → Exchange) × (exchange_at s image ≡ strobe f x k)
unfolding left_to_say
still_asks s image h e = go (position s image) (position_valid s image h.id h.bytes h.range h.whole) (position_runs s image h e)
  where
    go : (x : Point.Point) → Valid (limits_of s.settings) x → Runs x → (f : Field) × (y : Step) × (k : Bool → Exchange) × (left_to_say (limits_of s.settings) x ≡ strobe f y k)
    go (Point.running a acts p) v u =
        let n = remaining_asks (limits_of s.settings).wait (reads_of (limits_of s.settings) a) (strobes_of a) p (follow_up (limits_of s.settings) a acts p.count) v.2 in
        (n.0, _, n.1, n.2)
    go (Point.ended o) v u = absurd u

-- an ended session's exchange is over, with its outcome
pub ended_over : (s : Session) (image : List ℕ) → is_running s.point ≡ false
    → exchange_at s image ≡ Shared.ended (record { number = number_of s.point; offset = offset_of s.point })
unfolding left_to_say point_position
ended_over s image e = go s.point e
  where
    go : (y : SessionPoint) → is_running y ≡ false
        → left_to_say (limits_of s.settings) (point_position s image y) ≡ Shared.ended (record { number = number_of y; offset = offset_of y })
    go (Running g i j k q c v) f = absurd (let z : ◌≡◌ {A = ℕ} 0 1 = cc in omega arith)
    go (Ended n o) f = refl

-- a session's number and offset are its exchange's outcome
pub outcome_now : (s : Session) (image : List ℕ) → Lent s image
    → outcome_of (exchange_at s image) ≡ record { number = number_of s.point; offset = offset_of s.point }
unfolding outcome_of
outcome_now s image h = go (is_running s.point) refl
  where
    runs : (y : SessionPoint) → is_running y ≡ true → outcome 0 ≡ record { number = number_of y; offset = offset_of y }
    runs (Running g i j k q c v) f = refl
    runs (Ended n o) f = absurd (let z : ◌≡◌ {A = ℕ} 0 1 = cc in omega arith)

    go : (t : Bool) → is_running s.point ≡ t → outcome_of (exchange_at s image) ≡ record { number = number_of s.point; offset = offset_of s.point }
    go true p = rw (still_asks s image h p).3 (runs s.point p)
    go false p = rw (ended_over s image p)

pub outcome_is : (s : Session) (image rs : List ℕ) → Lent s image
    → outcome_of (fed (exchange_at s image) rs) ≡ record { number = number_of (session_fed s image rs).point; offset = offset_of (session_fed s image rs).point }
unfolding fed session_fed advanced
outcome_is s image [] h = outcome_now s image h
outcome_is s image (r ∷ rs) h =
    let a = exchange_advances s image h.id h.bytes h.range h.whole r in
    ap (λ (e : Exchange). outcome_of (fed e rs)) (sym a) ∙ outcome_is (advanced s r image) image rs (lent_advances s image r h)

-- what is left to say after the replies is what the session reached leaves
pub exchange_after : (s : Session) (image rs : List ℕ) → Lent s image → fed (exchange_at s image) rs ≡ exchange_at (session_fed s image rs) image
unfolding fed session_fed advanced
exchange_after s image [] h = refl
exchange_after s image (r ∷ rs) h =
    let a = exchange_advances s image h.id h.bytes h.range h.whole r in
    ap (λ (e : Exchange). fed e rs) (sym a) ∙ exchange_after (advanced s r image) image rs (lent_advances s image r h)

pub lent_after : (s : Session) (image rs : List ℕ) → Lent s image → Lent (session_fed s image rs) image
unfolding session_fed
lent_after s image [] h = h
lent_after s image (r ∷ rs) h = lent_after (advanced s r image) image rs (lent_advances s image r h)

-- The point that a session has reached in its order, and what a reply makes of it (document 01, "Settings and
-- session"): ID, status, compare and poll are judged on the reply to STOP, WAIT and bad replies at once.
use Rattle.std.specs.Prelude.{◌≡◌, true, false, cond, List, [], ◌∷◌, ◌++◌, ◌⊎◌, ℕ, zero, suc, ◌+◌, ◌-◌, ◌^◌, ◌<◌, ltb, eqb, length, take}
use Rattle.numbers.specs.Numbers.{done, bad_reply, wait_limit_reached, poll_limit_reached}
use Rattle.c2_wire.specs.Exchange.{Exchange, Outcome, outcome}
use Rattle.c2_wire.specs.Frames.{Strobe, frame}
use Rattle.c2_wire.specs.Place.{place, strobe_at, samples, count_limit, followed, remaining}
use Rattle.c2_wire.specs.declared.Frame.TheVariants.{AddressRead, DataRead}
use Rattle.c2_wire.specs.declared.Place.{Place}
use Rattle.c2_wire.specs.declared.Moved.{Moved}
use Rattle.c2_wire.specs.declared.Moved.TheVariants.{Within, Stopped, WaitLimit}
use Rattle.c2_order.specs.Acts.{Act, send, poll, expect}
use Rattle.c2_order.specs.Conversation.{Limits, polling, conversation}
use Rattle.exchange.specs.Exchange as Shared

pub data Point : Type 0 where
  -- the act that is begun, the acts after it, and the place in the act's frame; a poll counts its unsatisfied
  -- reads there
  running : Act → List Act → Place → Point
  ended : Outcome → Point

-- the strobes of an act's frame
unfoldable pub strobes_of : Act → List Strobe
strobes_of (send ss) = ss
strobes_of (poll ok) = frame AddressRead 0
strobes_of (expect x o) = frame DataRead 0

-- the reads that an act counts: those of a poll
unfoldable pub reads_of : Limits → Act → ℕ
reads_of l (send ss) = 1
reads_of l (poll ok) = l.reads
reads_of l (expect x o) = 1

-- A point stands in an order: the act that is begun, with the acts before it and after it, is the order; its
-- place is one of that act's frame, with zeros seen in a WAIT below its limit, unsatisfied reads below
-- theirs, other counts 0, and bits not yet sampled 0.
pub record Stands (l : Limits) (order : List Act) (x : Point) : Type 0 where
  pub before : List Act
  pub act : Act
  pub later : List Act
  pub place : Place
  pub here : x ≡ running act later place
  pub whole : before ++ act ∷ later ≡ order
  pub strobe : place.strobe < length (strobes_of act)
  pub count : place.count < count_limit l.wait (reads_of l act) (strobe_at (strobes_of act) place.strobe)
  pub bits : place.bits < 2 ^ samples (take place.strobe (strobes_of act))

-- a point exists in an order: it stands there, or the session has ended
abbrev pub ExistsIn : Limits → List Act → Point → Type 0
ExistsIn l order x = Stands l order x ⊎ ((o : Outcome) × (x ≡ ended o))

-- the point at the first strobe of the first of these acts; after the last act the session is done
unfoldable pub begin : List Act → Point
begin [] = ended (outcome done)
begin (a ∷ acts) = running a acts (place 0 0 0)

-- the point after an unsatisfied read of a poll: its next read, or the poll's limit
unfoldable pub again : Limits → Act → List Act → (reads : ℕ) → Point
again l a acts n = cond (ltb (n + 1) l.reads) (running a acts (place 0 (n + 1) 0)) (ended (outcome poll_limit_reached))

-- the point after an act's frame has ended with this byte
unfoldable pub judged : Limits → Act → List Act → (reads byte : ℕ) → Point
judged l (send ss) acts n x = begin acts
judged l (poll ok) acts n x = cond (ok x) (begin acts) (again l (poll ok) acts n)
judged l (expect y o) acts n x = cond (eqb x y) (begin acts) (ended o)

-- the point after a reply has moved the place in an act's frame
unfoldable pub settled : Limits → Act → List Act → (reads : ℕ) → Moved → Point
settled l a acts n (Within p) = running a acts p
settled l a acts n (Stopped x) = judged l a acts n x
settled l a acts n WaitLimit = ended (outcome wait_limit_reached)

-- the point after a reply
unfoldable pub next : Limits → Point → (reply : ℕ) → Point
next l (ended o) r = ended o
next l (running a acts p) zero = settled l a acts p.count (followed l.wait (strobes_of a) p false)
next l (running a acts p) (suc zero) = settled l a acts p.count (followed l.wait (strobes_of a) p true)
next l (running a acts p) (suc (suc r)) = ended (outcome bad_reply)

-- what follows an act's frame, by the byte that it gave
unfoldable pub follow_up : Limits → Act → List Act → (reads byte : ℕ) → Exchange
follow_up l (send ss) acts n x = conversation l acts
follow_up l (poll ok) acts n x = cond (ok x) (conversation l acts) (polling l.wait (l.reads - suc n) ok (conversation l acts))
follow_up l (expect y o) acts n x = cond (eqb x y) (conversation l acts) (Shared.ended o)

-- what is still to be said at a point
unfoldable pub left_to_say : Limits → Point → Exchange
left_to_say l (ended o) = Shared.ended o
left_to_say l (running a acts p) = remaining l.wait (strobes_of a) p (follow_up l a acts p.count)

-- the point after replies in a row
unfoldable pub reached : Limits → Point → (replies : List ℕ) → Point
reached l x [] = x
reached l x (r ∷ rs) = reached l (next l x r) rs

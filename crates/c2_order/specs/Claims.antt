-- What is claimed of a session's exchange and of the figure of the most steps to come, document 01's own term
-- ("How much is left"). Types alone: proofs/Laws/Claims proves each.
use Rattle.std.specs.Prelude.{◌≡◌, true, List, [], ◌∷◌, ◌++◌, ◌⊎◌, ℕ, ◌+◌, ◌-◌, ◌*◌, ◌/◌, ◌≤◌, length, replicate}
use Rattle.numbers.specs.Numbers.{done, bad_reply, wait_limit_reached, compare_differs}
use Rattle.laws.specs.Bytes.{Bytes}
use Rattle.c2_wire.specs.Exchange.{Exchange, Outcome, outcome, fed, steps, taken, own}
use Rattle.settings.specs.declared.Settings.{Settings}
use Rattle.settings.specs.Accepted.{InBytes}
use Rattle.settings.specs.Registers.{no_pairs}
use Rattle.settings.specs.Opening.{opening_refusal}
use Rattle.c2_order.specs.Acts.{Act, expect, data_write}
use Rattle.c2_order.specs.Order.{session_order}
use Rattle.c2_order.specs.Conversation.{Limits, Positive, limits_of, conversation}
use Rattle.c2_order.specs.Point.{Point, ended, Stands, ExistsIn, begin, next, reached, left_to_say}
use Rattle.c2_order.specs.Figure.{figure, drop_of, pair_cost, page_cost}
use Rattle.exchange.specs.Exchange as Shared

-- an opening that is not refused, over bytes
pub record Opening (s : Settings) (first : ℕ) (image : List ℕ) : Type 0 where
  pub settings : InBytes s
  pub bytes : Bytes image
  pub accepted : opening_refusal s first (length image) ≡ 0

-- the point of a session after replies (`point_after`), and the exchange of its whole order (`exchange_of`)
abbrev pub point_after : Limits → Settings → (first : ℕ) → (image replies : List ℕ) → Point
point_after l s first image rs = reached l (begin (session_order s first image)) rs

abbrev pub exchange_of : Limits → Settings → (first : ℕ) → (image : List ℕ) → Exchange
exchange_of l s first image = conversation l (session_order s first image)

-- the point moves as the exchange does: what is left to say after any replies is what the exchange leaves
abbrev pub PointsFollow : Type 0
PointsFollow = (l : Limits) (s : Settings) (first : ℕ) (image : List ℕ) → Positive l → Opening s first image → (rs : List ℕ)
    → left_to_say l (point_after l s first image rs) ≡ fed (exchange_of l s first image) rs

-- after any replies the point exists in the session's order
abbrev pub PointsExist : Type 0
PointsExist = (l : Limits) (s : Settings) (first : ℕ) (image : List ℕ) → Positive l → Opening s first image → (rs : List ℕ)
    → ExistsIn l (session_order s first image) (point_after l s first image rs)

-- feeding replies in parts is feeding them in a row: steps joined, replies taken summed, and the exchange
-- that is left
pub record InParts (e : Exchange) (rs qs : List ℕ) : Type 0 where
  pub steps_joined : steps e (rs ++ qs) ≡ steps e rs ++ steps (fed e rs) qs
  pub taken_summed : taken e (rs ++ qs) ≡ taken e rs + taken (fed e rs) qs
  pub left : fed e (rs ++ qs) ≡ fed (fed e rs) qs

abbrev pub PartsInARow : Type 0
PartsInARow = (e : Exchange) (rs qs : List ℕ) → InParts e rs qs

-- whatever the replies, C2D is driven only in a field of the master's
abbrev pub DrivenByMaster : Type 0
DrivenByMaster = (l : Limits) (s : Settings) (first : ℕ) (image : List ℕ) → Opening s first image → (rs : List ℕ)
    → own (fed (exchange_of l s first image) rs) ≡ true

-- The same holds from any point of the order on.
abbrev pub DrivenOn : Type 0
DrivenOn = (l : Limits) (s : Settings) (first : ℕ) (image : List ℕ) → Opening s first image
    → (x : Point) → ExistsIn l (session_order s first image) x → (rs : List ℕ) → own (fed (left_to_say l x) rs) ≡ true

-- the figure is 0 exactly once the session has ended
pub record ZeroWhenEnded (l : Limits) (x : Point) : Type 0 where
  pub ended_zero : (o : Outcome) → x ≡ ended o → figure l x ≡ 0
  pub zero_ended : figure l x ≡ 0 → (o : Outcome) × (x ≡ ended o)

-- At every point of the order, reached or not, the figure is 0 exactly if the session has ended.
abbrev pub FigureZero : Type 0
FigureZero = (l : Limits) (s : Settings) (first : ℕ) (image : List ℕ) → Positive l → Opening s first image
    → (x : Point) → ExistsIn l (session_order s first image) x → ZeroWhenEnded l x

-- From every point of the order on, each reply taken lowers the figure by at least 1.
abbrev pub FigureFalls : Type 0
FigureFalls = (l : Limits) (s : Settings) (first : ℕ) (image : List ℕ) → Positive l → Opening s first image
    → (x : Point) → ExistsIn l (session_order s first image) x
    → (rs : List ℕ) → figure l (reached l x rs) + taken (left_to_say l x) rs ≤ figure l x

-- At every point of the order, what a reply takes from the figure leaves the figure at the point after it (for
-- document 02, f, where the figure is kept and lowered).
abbrev pub FigureDrops : Type 0
FigureDrops = (l : Limits) (s : Settings) (first : ℕ) (image : List ℕ) → Positive l → Opening s first image
    → (x : Point) → ExistsIn l (session_order s first image) x
    → (r : ℕ) → drop_of l x r + figure l (next l x r) ≡ figure l x

-- From every point of the order on, no replies whatever take more steps than the figure.
abbrev pub FigureBounds : Type 0
FigureBounds = (l : Limits) (s : Settings) (first : ℕ) (image : List ℕ) → Positive l → Opening s first image
    → (x : Point) → ExistsIn l (session_order s first image) x → (rs : List ℕ) → taken (left_to_say l x) rs ≤ figure l x

-- The figure at the start, for k pages of B blocks: the lead has two resets, an Address Write, the pause and four
-- Data frames, then come the pairs, and the end is a reset.
abbrev pub FigureStarts : Type 0
FigureStarts = (l : Limits) (s : Settings) (first : ℕ) (image : List ℕ) → Positive l → Opening s first image
    → figure l (begin (session_order s first image))
    ≡ 16 + 4 * (14 + l.wait) + s.pairs.count * pair_cost l + length image / s.size * page_cost l (s.size / 256)

-- Document 01's, with its WAIT limit of 20 and no pairs: 152 + k × (18,648 + 2 × B × 813,784).
abbrev pub FigureStartsPaper : Type 0
FigureStartsPaper = (s : Settings) (first : ℕ) (image : List ℕ) → s.wait ≡ 20 → s.pairs.count ≡ 0 → Opening s first image
    → figure (limits_of s) (begin (session_order s first image)) ≡ 152 + length image / s.size * (18648 + 2 * (s.size / 256) * 813784)

-- The WAIT of a Data Write comes after 13 strobes, that of a Data Read after 5. In either as many zeros as the
-- settings' limit refuse; in a Data Write one fewer, a 1 and the reply to the STOP pass (document 02, d).
pub record WaitsSo (s : Settings) (b x : ℕ) (o : Outcome) (acts : List Act) : Type 0 where
  pub write_refused : fed (conversation (limits_of s) (data_write b ∷ acts)) (replicate 13 1 ++ replicate s.wait 0)
      ≡ Shared.ended (outcome wait_limit_reached)
  pub read_refused : fed (conversation (limits_of s) (expect x o ∷ acts)) (replicate 5 1 ++ replicate s.wait 0)
      ≡ Shared.ended (outcome wait_limit_reached)
  pub write_passed : fed (conversation (limits_of s) (data_write b ∷ acts)) (replicate 13 1 ++ (replicate (s.wait - 1) 0 ++ 1 ∷ 1 ∷ []))
      ≡ conversation (limits_of s) acts

abbrev pub WaitLimit : Type 0
WaitLimit = (s : Settings) → 1 ≤ s.wait → (b x : ℕ) (o : Outcome) (acts : List Act) → WaitsSo s b x o acts

-- A device with a WAIT limit of 255, no pairs and 64 pages of 1,024 bytes, all of them programmed (document 02, d).
abbrev pub slow_device : Settings
slow_device = record { id = 0x04; fpdat = 0xb4; size = 1024; count = 64; wait = 255; pairs = no_pairs }

abbrev pub FigureSlow : Type 0
FigureSlow = (image : List ℕ) → Bytes image → length image ≡ 65536
    → figure (limits_of slow_device) (begin (session_order slow_device 0 image)) ≡ 449466052

-- Replies that reach the figure of the start: all of them are taken, and they end the session done.
pub record Reaching (l : Limits) (s : Settings) (first : ℕ) (image : List ℕ) : Type 0 where
  pub replies : List ℕ
  pub count : taken (exchange_of l s first image) replies ≡ figure l (begin (session_order s first image))
  pub ends : fed (exchange_of l s first image) replies ≡ Shared.ended (outcome done)

abbrev pub FigureReached : Type 0
FigureReached = (l : Limits) (s : Settings) (first : ℕ) (image : List ℕ) → Positive l → Opening s first image → Reaching l s first image

-- The numbers that end a session: 32, and 9 to 14.
abbrev pub LastNumber : ℕ → Type 0
LastNumber n = (n ≡ done) ⊎ ((bad_reply ≤ n) × (n ≤ compare_differs))

-- From every point of the order on, and whatever the replies, a session that has ended has one of these
-- numbers.
abbrev pub EndsSo : Type 0
EndsSo = (l : Limits) (s : Settings) (first : ℕ) (image : List ℕ) → Opening s first image
    → (x : Point) → Stands l (session_order s first image) x → (rs : List ℕ) (o : Outcome) → reached l x rs ≡ ended o → LastNumber o.number

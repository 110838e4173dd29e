-- What is claimed of the point of the order that a session's numbers name (document 01, "What the driver
-- keeps over sleep"). Types alone: proofs/Laws/Claims proves each.
use Rattle.std.specs.Prelude.{◌≡◌, true, List, ℕ, ◌*◌, length}
use Rattle.c2_order.specs.Acts.{Act}
use Rattle.c2_order.specs.Order.{session_order}
use Rattle.c2_order.specs.Conversation.{Limits, limits_of}
use Rattle.c2_order.specs.Point.{Stands}
use Rattle.c2_session.specs.declared.Session.{Session}
use Rattle.c2_session.specs.declared.Point.TheVariants.{Running, Ended}
use Rattle.c2_range.specs.Range.{in_range}
use Rattle.c2_position.specs.Position.{position}
use Rattle.c2_order.specs.Point
use Rattle.c2_session.specs.declared.Point as Session

-- Where a session's point stands in an order: a running one at an act of it, an ended one at an end, with its
-- outcome.
abbrev pub Placed : Limits → (order : List Act) → Session.Point → Point.Point → Type 0
Placed l order (Running g i j k q c v) x = Stands l order x
Placed l order (Ended n o) x = x ≡ Point.ended (record { number = n; offset = o })

-- A session in range, lent an image of its length, stands in the order of its settings, first page and image:
-- the point reached exists there.
abbrev pub InOrder : Type 0
InOrder = (s : Session) (image : List ℕ) → in_range s ≡ true → length image ≡ s.settings.size * s.pages
    → Placed (limits_of s.settings) (session_order s.settings s.first image) s.point (position s image)

-- One session for one point of the order: sessions in range with the same settings, first page and number of
-- pages that stand at the same point, lent an image of their length, are the same.
abbrev pub OneSession : Type 0
OneSession = (s t : Session) (image : List ℕ) → in_range s ≡ true → in_range t ≡ true
    → s.settings ≡ t.settings → s.first ≡ t.first → s.pages ≡ t.pages
    → length image ≡ s.settings.size * s.pages → position s image ≡ position t image → s ≡ t

-- A session in range that stands at a point of the order, with the settings and pages of another.
pub record SessionAt (s : Session) (image : List ℕ) (x : Point.Point) : Type 0 where
  pub session : Session
  pub settings : session.settings ≡ s.settings
  pub first_page : session.first ≡ s.first
  pub pages : session.pages ≡ s.pages
  pub range : in_range session ≡ true
  pub here : position session image ≡ x

-- A session for each point of the order: whatever stands in the order of a session in range, lent an image of
-- its length, is the point of a session in range. With `InOrder` and `OneSession`: running sessions in
-- range are the points of the order, one for one.
abbrev pub EachPoint : Type 0
EachPoint = (s : Session) (image : List ℕ) → in_range s ≡ true → length image ≡ s.settings.size * s.pages
    → (x : Point.Point) → Stands (limits_of s.settings) (session_order s.settings s.first image) x → SessionAt s image x

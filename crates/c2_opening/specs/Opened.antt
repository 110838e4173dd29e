-- The session that an opening begins, the session after replies, and what it leaves to say.
use Rattle.std.specs.Prelude.{List, [], ◌∷◌, ℕ, ◌*◌, ◌/◌}
use Rattle.c2_wire.specs.Exchange.{Exchange}
use Rattle.settings.specs.declared.Settings.{Settings}
use Rattle.settings.specs.Accepted.{tidied}
use Rattle.c2_order.specs.Conversation.{limits_of}
use Rattle.c2_order.specs.Point.{left_to_say}
use Rattle.c2_acts.specs.declared.Stage.TheVariants.{Lead}
use Rattle.c2_session.specs.declared.Point.TheVariants.{Running}
use Rattle.c2_session.specs.declared.Session.{Session}
use Rattle.c2_session.specs.Code.Advance.{advanced}
use Rattle.c2_position.specs.Position.{position}

-- the session that an opening begins, at its first step, the reset; of pairs it keeps those that are named
unfoldable pub opened_session : Settings → (first length : ℕ) → Session
opened_session t first n = record { settings = tidied t; first = first; pages = n / t.size; point = Running Lead 0 0 0 0 0 0 }

-- the length of a session's image
abbrev pub image_length : Session → ℕ
image_length s = s.settings.size * s.pages

-- what a session leaves to say, lent its image
abbrev pub exchange_at : Session → (image : List ℕ) → Exchange
exchange_at s image = left_to_say (limits_of s.settings) (position s image)

-- the session after replies
unfoldable pub session_fed : Session → (image replies : List ℕ) → Session
session_fed s image [] = s
session_fed s image (r ∷ rs) = session_fed (advanced s r image) image rs

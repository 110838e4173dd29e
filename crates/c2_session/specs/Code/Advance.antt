-- For the code: the session after a reply, lent its image. `advances` of proofs/Laws/Advanced in c2_position
-- is the law that for an image of the session's length it is at the next point of the order.
use Rattle.std.specs.Prelude.{Bool, cond, List, ℕ, eqb, ltb}
use Rattle.numbers.specs.Numbers.{bad_reply}
use Rattle.c2_wire.specs.Frames.{frame}
use Rattle.c2_wire.specs.Place.{place, followed}
use Rattle.c2_wire.specs.declared.Place.{Place}
use Rattle.c2_order.specs.Conversation.{Limits, limits_of}
use Rattle.c2_acts.specs.declared.Task.{Task}
use Rattle.c2_session.specs.declared.At.{At}
use Rattle.c2_session.specs.declared.Point.{Point}
use Rattle.c2_session.specs.declared.Point.TheVariants.{Running, Ended}
use Rattle.c2_session.specs.declared.Session.{Session}
use Rattle.c2_acts.specs.Code.Acts.{task_of}
use Rattle.c2_session.specs.Code.Next.{act_at, end_point, next_act}
use Rattle.c2_session.specs.Code.Judge.{frame_answered}
use Rattle.c2_session.specs.Code.Step.{alone, task_frame}

-- the point after a reply of 0 or 1; a step that stands in no frame is over at its reply
abbrev pub task_taken : Limits → Task → Session → At → Place → Bool → List ℕ → Point
task_taken l k s a p b image =
    cond (eqb (alone k) 0) (frame_answered l.reads (followed l.wait (frame (task_frame k) 0) p b) k s a p.count image) (next_act s a)

-- the point after a reply, in an act that does this; a reply that is neither 0 nor 1 comes first
abbrev pub replied_by : Limits → Task → Session → At → Place → (reply : ℕ) → List ℕ → Point
replied_by l k s a p reply image = cond (ltb 1 reply) (end_point bad_reply) (task_taken l k s a p (eqb reply 1) image)

-- the point after a reply, in any act
unfoldable pub point_replied : Limits → Session → At → Place → (reply : ℕ) → List ℕ → Point
point_replied l s a p reply image = replied_by l (task_of a.stage a.act) s a p reply image

-- the point after a reply, of any session: one that has ended takes none
abbrev pub point_advanced : Limits → Point → Session → (reply : ℕ) → List ℕ → Point
point_advanced l (Running g i j k q c v) s reply image = point_replied l s (act_at g i j k) (place q c v) reply image
point_advanced l (Ended n o) s reply image = Ended n o

-- a session at another point
abbrev pub with_point : Session → Point → Session
with_point s y = record { settings = s.settings; first = s.first; pages = s.pages; point = y }

-- the session after a reply
unfoldable pub advanced : Session → (reply : ℕ) → List ℕ → Session
advanced s reply image = with_point s (point_advanced (limits_of s.settings) s.point s reply image)

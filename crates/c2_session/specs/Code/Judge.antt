-- For the code: what a reply makes of an act, where its frame goes on and where it is over. `advances` of
-- proofs/Laws/Advanced in c2_position is the law that for an image of the session's length this is the next
-- point of the order.
use Rattle.std.specs.Prelude.{cond, List, ℕ, ◌+◌, ◌/◌, ◌%◌, eqb, ltb}
use Rattle.numbers.specs.Numbers.{wait_limit_reached, poll_limit_reached, other_device, bad_status, compare_differs}
use Rattle.c2_wire.specs.Place.{place}
use Rattle.c2_wire.specs.declared.Moved.{Moved}
use Rattle.c2_wire.specs.declared.Moved.TheVariants.{Within, Stopped, WaitLimit}
use Rattle.c2_acts.specs.declared.Task.{Task}
use Rattle.c2_acts.specs.declared.Task.TheVariants.{Reset, Pause, Address, Send, Input, Output, Ident, Status, Compare}
use Rattle.c2_session.specs.declared.At.{At}
use Rattle.c2_session.specs.declared.Point.{Point}
use Rattle.c2_session.specs.declared.Point.TheVariants.{Ended}
use Rattle.c2_session.specs.declared.Session.{Session}
use Rattle.c2_session.specs.Code.Bytes.{image_byte, compared_offset}
use Rattle.c2_session.specs.Code.Next.{strobe_point, end_point, next_act}

-- the point after an unsatisfied read of a poll: the next read, or the limit
unfoldable pub read_again : (poll_limit : ℕ) → At → (reads : ℕ) → Point
read_again limit a n = cond (ltb (n + 1) limit) (strobe_point a (place 0 (n + 1) 0)) (end_point poll_limit_reached)

-- a byte read back that differs ends the session with its image offset, which is a 32-bit number
unfoldable pub differs : Session → At → Point
differs s a = Ended compare_differs (compared_offset s a % 4294967296)

-- the point after a byte read back, where the image's byte is this
unfoldable pub compared : (wanted : ℕ) → Session → At → (byte : ℕ) → Point
compared b s a x = cond (eqb x b) (next_act s a) (differs s a)

-- the point after the reply to a frame's STOP, where the frame has given this byte
abbrev pub frame_judged : (poll_limit : ℕ) → Task → Session → At → (reads byte : ℕ) → List ℕ → Point
frame_judged limit Reset s a n x image = next_act s a
frame_judged limit Pause s a n x image = next_act s a
frame_judged limit Address s a n x image = next_act s a
frame_judged limit Send s a n x image = next_act s a
frame_judged limit Input s a n x image = cond (eqb (x / 2 % 2) 0) (next_act s a) (read_again limit a n)
frame_judged limit Output s a n x image = cond (eqb (x % 2) 1) (next_act s a) (read_again limit a n)
frame_judged limit Ident s a n x image = cond (eqb x s.settings.id) (next_act s a) (end_point other_device)
frame_judged limit Status s a n x image = cond (eqb x 0x0d) (next_act s a) (end_point bad_status)
frame_judged limit Compare s a n x image = compared (image_byte image (compared_offset s a)) s a x

-- the point after a reply to a strobe of the act's frame
abbrev pub frame_answered : (poll_limit : ℕ) → Moved → Task → Session → At → (reads : ℕ) → List ℕ → Point
frame_answered limit (Within p) k s a n image = strobe_point a p
frame_answered limit (Stopped x) k s a n image = frame_judged limit k s a n x image
frame_answered limit WaitLimit k s a n image = end_point wait_limit_reached

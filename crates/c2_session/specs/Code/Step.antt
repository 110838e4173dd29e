-- For the code: the step that a session waits at. `asks_step` of proofs/Laws/Step in c2_position is the law
-- that it is the one that the exchange of the session's order asks for.
use Rattle.std.specs.Prelude.{Bool, true, false, cond, List, ℕ, eqb}
use Rattle.c2_wire.specs.Frames.{frame}
use Rattle.c2_wire.specs.Place.{step_at}
use Rattle.c2_wire.specs.declared.Frame.{Frame}
use Rattle.c2_wire.specs.declared.Frame.TheVariants.{AddressWrite, AddressRead, DataWrite, DataRead}
use Rattle.c2_acts.specs.declared.Task.{Task}
use Rattle.c2_acts.specs.declared.Task.TheVariants.{Reset, Pause, Address, Send, Input, Output, Ident, Status, Compare}
use Rattle.c2_session.specs.declared.At.{At}
use Rattle.c2_session.specs.declared.Point.{Point}
use Rattle.c2_session.specs.declared.Point.TheVariants.{Running, Ended}
use Rattle.c2_session.specs.declared.Session.{Session}
use Rattle.c2_acts.specs.Code.Acts.{task_of}
use Rattle.c2_session.specs.Code.Bytes.{stage_byte}
use Rattle.c2_session.specs.Code.Next.{act_at}

-- the step of an act that stands in no frame, 0 for any other act
abbrev pub alone : Task → ℕ
alone Reset = 4
alone Pause = 5
alone Address = 0
alone Send = 0
alone Input = 0
alone Output = 0
alone Ident = 0
alone Status = 0
alone Compare = 0

-- the frame of an act; what is said of Reset and Pause, which stand in no frame, is not used
abbrev pub task_frame : Task → Frame
task_frame Reset = AddressWrite
task_frame Pause = AddressWrite
task_frame Address = AddressWrite
task_frame Send = DataWrite
task_frame Input = AddressRead
task_frame Output = AddressRead
task_frame Ident = DataRead
task_frame Status = DataRead
task_frame Compare = DataRead

-- whether an act's frame sends a byte
abbrev pub task_sends : Task → Bool
task_sends Reset = false
task_sends Pause = false
task_sends Address = true
task_sends Send = true
task_sends Input = false
task_sends Output = false
task_sends Ident = false
task_sends Status = false
task_sends Compare = false

-- the byte that an act's frame sends, 0 for a frame that reads
abbrev pub task_byte : Task → Session → At → List ℕ → ℕ
task_byte k s a image = cond (task_sends k) (stage_byte a.stage s a image) 0

-- the step at a strobe of an act
abbrev pub task_step : Task → Session → At → (strobe : ℕ) → List ℕ → ℕ
task_step k s a q image = cond (eqb (alone k) 0) (step_at (frame (task_frame k) (task_byte k s a image)) q) (alone k)

-- the step at a point; 6 once the session has ended
abbrev pub point_step : Point → Session → List ℕ → ℕ
point_step (Running g i j k q c v) s image = task_step (task_of g k) s (act_at g i j k) q image
point_step (Ended n o) s image = 6

-- the step that a session waits at
unfoldable pub session_step : Session → List ℕ → ℕ
session_step s image = point_step s.point s image

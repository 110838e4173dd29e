-- For the code: the script of an act, its strobes as one word. `step_by_codes` and `moves_by_codes` of
-- proofs/Laws/Script join it to the steps and places of the act.
use Rattle.std.specs.Prelude.{cond, List, ℕ, ◌/◌, ◌^◌, eqb, replicate}
use Rattle.c2_wire.specs.Code.Script.{code_word, frame_codes, kept}
use Rattle.c2_acts.specs.declared.Task.{Task}
use Rattle.c2_session.specs.declared.At.{At}
use Rattle.c2_session.specs.declared.Session.{Session}
use Rattle.c2_session.specs.Code.Step.{alone, task_frame, task_byte}

-- the codes of an act that sends this byte: its frame's, or at every strobe the step that stands in no frame
unfoldable pub task_codes : Task → (byte : ℕ) → List ℕ
task_codes t a = cond (eqb (alone t) 4) (replicate 16 4) (cond (eqb (alone t) 5) (replicate 16 5) (frame_codes (task_frame t) a))

-- what is left of an act's script from a strobe on
unfoldable pub script_at : Task → Session → At → (strobe : ℕ) → List ℕ → ℕ
script_at t s a q image = code_word (task_codes t (task_byte t s a image)) / 16 ^ kept q

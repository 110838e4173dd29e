-- The codes of an act's script are its strobes: the step at each, and what a reply makes of the place there.
use mathlib.Core.Path.{◌≡◌, refl, ap, ◌∙◌}
use mathlib.Core.Bool.{Bool, true, false, cond}
use mathlib.Core.List.{List}
use Prim.Native.Nat.{ℕ, ◌%◌, ◌<◌}
use native.Mathlib.Omega.{arith}
use lib.Dec.{eqb, leb}
use lib.ListN.{get_or, replicate, get_or-replicate}
use Rattle.c2_wire.specs.Frames.{frame}
use Rattle.c2_wire.specs.Place.{step_at, followed}
use Rattle.c2_wire.specs.Code.Script.{frame_codes, kept, code_step, code_follows}
use Rattle.c2_wire.specs.declared.Frame.{Frame}
use Rattle.c2_wire.specs.declared.Place.{Place}
use Rattle.c2_wire.specs.declared.Moved.{Moved}
use Rattle.c2_wire.specs.declared.Moved.TheVariants.{Stopped}
use Rattle.c2_wire.proofs.Laws.Script.{Codes, codes_of, code_from, kept_small, step_by_code, follows_by_code, followed_any_byte}
use Rattle.c2_acts.specs.declared.Task.{Task}
use Rattle.c2_acts.specs.declared.Task.TheVariants.{Reset, Pause, Address, Send, Input, Output, Ident, Status, Compare}
use Rattle.c2_session.specs.declared.At.{At}
use Rattle.c2_session.specs.declared.Session.{Session}
use Rattle.c2_session.specs.Code.Step.{alone, task_frame, task_byte, task_step}
use Rattle.c2_session.specs.Code.Script.{task_codes, script_at}

-- the codes of an act are sixteen, each of four bits
same_codes : (n : ℕ) → n < 16 → Codes (replicate 16 n)
same_codes n h = record { sixteen = refl; small = λ i g. rw (get_or-replicate {A = ℕ} 16 i n 7 g) h }

pub codes_of_task : (t : Task) (a : ℕ) → Codes (task_codes t a)
unfolding task_codes
codes_of_task Reset a = same_codes 4 (omega arith)
codes_of_task Pause a = same_codes 5 (omega arith)
codes_of_task Address a = codes_of _ a
codes_of_task Send a = codes_of _ a
codes_of_task Input a = codes_of _ a
codes_of_task Output a = codes_of _ a
codes_of_task Ident a = codes_of _ a
codes_of_task Status a = codes_of _ a
codes_of_task Compare a = codes_of _ a

-- the step of a strobe's code is the act's step
same_code : (n q : ℕ) → get_or (replicate 16 n) (kept q) 7 ≡ n
same_code n q = get_or-replicate {A = ℕ} 16 (kept q) n 7 (kept_small q)

pub step_by_codes : (t : Task) (a q : ℕ) → code_step (get_or (task_codes t a) (kept q) 7) ≡ cond (eqb (alone t) 0) (step_at (frame (task_frame t) a) q) (alone t)
unfolding task_codes code_step
step_by_codes Reset a q = rw (same_code 4 q)
step_by_codes Pause a q = rw (same_code 5 q)
step_by_codes Address a q = step_by_code _ a q
step_by_codes Send a q = step_by_code _ a q
step_by_codes Input a q = step_by_code _ a q
step_by_codes Output a q = step_by_code _ a q
step_by_codes Ident a q = step_by_code _ a q
step_by_codes Status a q = step_by_code _ a q
step_by_codes Compare a q = step_by_code _ a q

-- what a reply makes of a strobe's code is what it makes of the place; a step that stands in no frame is over
cond_same : (t : Bool) (x : Moved) → cond t x x ≡ x
cond_same true x = refl
cond_same false x = refl

frame_moves : (f : Frame) (a l : ℕ) (p : Place) (b : Bool) → code_follows l (get_or (frame_codes f a) (kept p.strobe) 7) p b ≡ followed l (frame f 0) p b
frame_moves f a l p b = follows_by_code f a l p b ∙ followed_any_byte f a 0 l p b

pub moves_by_codes : (t : Task) (a l : ℕ) (p : Place) (b : Bool)
    → code_follows l (get_or (task_codes t a) (kept p.strobe) 7) p b ≡ cond (eqb (alone t) 0) (followed l (frame (task_frame t) 0) p b) (Stopped p.bits)
unfolding task_codes code_follows
moves_by_codes Reset a l p b = rw (same_code 4 p.strobe) (cond_same (leb 14 p.strobe) (Stopped p.bits))
moves_by_codes Pause a l p b = rw (same_code 5 p.strobe) (cond_same (leb 14 p.strobe) (Stopped p.bits))
moves_by_codes Address a l p b = frame_moves _ a l p b
moves_by_codes Send a l p b = frame_moves _ a l p b
moves_by_codes Input a l p b = frame_moves _ a l p b
moves_by_codes Output a l p b = frame_moves _ a l p b
moves_by_codes Ident a l p b = frame_moves _ a l p b
moves_by_codes Status a l p b = frame_moves _ a l p b
moves_by_codes Compare a l p b = frame_moves _ a l p b

-- the first code of what is left of an act's script
pub script_code : (t : Task) (s : Session) (a : At) (q : ℕ) (image : List ℕ) → script_at t s a q image % 16 ≡ get_or (task_codes t (task_byte t s a image)) (kept q) 7
unfolding script_at
script_code t s a q image = code_from (task_codes t (task_byte t s a image)) (codes_of_task t (task_byte t s a image)) q

pub script_steps : (t : Task) (s : Session) (a : At) (q : ℕ) (image : List ℕ) → code_step (script_at t s a q image % 16) ≡ task_step t s a q image
script_steps t s a q image = ap code_step (script_code t s a q image) ∙ step_by_codes t (task_byte t s a image) q

pub script_moves : (t : Task) (s : Session) (a : At) (image : List ℕ) (l : ℕ) (p : Place) (b : Bool)
    → code_follows l (script_at t s a p.strobe image % 16) p b ≡ cond (eqb (alone t) 0) (followed l (frame (task_frame t) 0) p b) (Stopped p.bits)
script_moves t s a image l p b =
    ap (λ (c : ℕ). code_follows l c p b) (script_code t s a p.strobe image) ∙ moves_by_codes t (task_byte t s a image) l p b

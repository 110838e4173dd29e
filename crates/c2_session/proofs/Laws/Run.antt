-- A runner goes as its session does: its point after a reply is the session's, and what it knows of the act
-- there stays true.
use mathlib.Core.Path.{◌≡◌, refl, sym, ap, ◌∙◌}
use mathlib.Core.Bool.{Bool, true, false, cond}
use mathlib.Core.List.{List}
use mathlib.Core.Logic.{◌⊎◌, inl, inr}
use Prim.Native.Nat.{ℕ, suc, ◌+◌, ◌/◌, ◌%◌, ◌<◌}
use native.Mathlib.Omega.{arith}
use borrow.Author.Tests.{eq-eqb, ne_eqb, eqb-true, lt-ltb, leb-false}
use lib.Dec.{eqb, ltb, leb}
use Rattle.laws.proofs.Tests.{by_test}
use Rattle.c2_wire.specs.Frames.{frame}
use Rattle.c2_wire.specs.Step.{code}
use Rattle.c2_wire.specs.Place.{place, strobe_step, step_at, followed}
use Rattle.c2_wire.specs.Code.Script.{kept, code_follows}
use Rattle.c2_wire.specs.declared.Place.{Place}
use Rattle.c2_wire.specs.declared.Moved.{Moved}
use Rattle.c2_wire.specs.declared.Moved.TheVariants.{Within, Stopped, WaitLimit}
use Rattle.c2_wire.proofs.Laws.Script.{left_from, left_rest}
use Rattle.c2_acts.specs.declared.Stage.{Stage}
use Rattle.c2_acts.specs.declared.Stage.TheVariants.{Lead, Erase, Write, Read, Close, Register}
use Rattle.c2_order.specs.Conversation.{limits_of}
use Rattle.c2_acts.specs.declared.Task.{Task}
use Rattle.c2_acts.specs.declared.Task.TheVariants.{Reset, Pause, Address, Send, Input, Output, Ident, Status, Compare}
use Rattle.c2_acts.specs.Code.Acts.{task_of, acts_in}
use Rattle.c2_session.specs.declared.At.{At}
use Rattle.c2_session.specs.declared.Point.{Point}
use Rattle.c2_session.specs.declared.Point.TheVariants.{Running, Ended}
use Rattle.c2_session.specs.declared.Session.{Session}
use Rattle.c2_session.specs.declared.Runner.{Runner}
use Rattle.c2_session.specs.Code.Bytes.{erase_byte, block_byte, image_byte, sent_offset, compared_offset, write_byte, stage_byte, register_byte}
use Rattle.c2_session.specs.Code.Next.{act_at, next_write, next_page, next_read, next_register, next_stage, next_act}
use Rattle.c2_session.specs.Code.Judge.{read_again, differs, compared, frame_judged, frame_answered}
use Rattle.c2_session.specs.Code.Step.{alone, task_frame, task_byte, point_step, session_step}
use Rattle.c2_session.specs.Code.Advance.{task_taken, point_replied, point_advanced, with_point, advanced}
use Rattle.c2_session.specs.Code.Script.{task_codes, script_at}
use Rattle.c2_session.specs.Code.Run.{is_known, runner_at, runner_settled, runner_replied, runner_taken, point_taken, runner_advanced, step_from, runner_step}
use Rattle.c2_session.proofs.Laws.Script.{codes_of_task, script_steps, script_moves}

-- what a runner knows of the act at its point: at strobe 0 nothing yet, later its task and what is left of its
-- script
abbrev KnowsAt : Session → (image : List ℕ) → Point → Task → (script : ℕ) → Type 0
KnowsAt s image (Running g i j k q c v) t w = (q ≡ 0) ⊎ ((t ≡ task_of g k) × (w ≡ script_at (task_of g k) s (act_at g i j k) q image))
KnowsAt s image (Ended n o) t w = Unit {0}

pub record Knows (s : Session) (image : List ℕ) (r : Runner) : Type 0 where
  pub so : KnowsAt s image r.point r.task r.script

-- a runner that can go on: it knows its act, or it knows that it does not
pub record Ready (s : Session) (image : List ℕ) (r : Runner) : Type 0 where
  pub so : (r.script ≡ 0) ⊎ KnowsAt s image r.point r.task r.script

pub sets_off : (s : Session) (image : List ℕ) (p : Point) → Ready s image (runner_at p)
sets_off s image p = record { so = inl refl }

-- at the first strobe of an act a runner need know nothing
pub sets_off_known : (s : Session) (image : List ℕ) (p : Point) {g : Stage} {i j k c v : ℕ} → p ≡ Running g i j k 0 c v → Knows s image (runner_at p)
sets_off_known s image p e = record { so = rw e (inl refl) }

pub goes_on_ready : (s : Session) (image : List ℕ) (r : Runner) → Knows s image r → Ready s image r
goes_on_ready s image r k = record { so = inr k.so }

-- points at which an act begins, or a poll anew
abbrev FreshPoint : Point → Type 0
FreshPoint (Running g i j k q c v) = q ≡ 0
FreshPoint (Ended n o) = Unit {0}

module _ (s : Session) (image : List ℕ) (a : At) where
  either : (b : Bool) (x y : Point) → FreshPoint x → FreshPoint y → FreshPoint (cond b x y)
  either true x y p q = p
  either false x y p q = q

  onward_fresh : FreshPoint (next_act s a)
  unfolding next_act next_write next_read next_page next_register
  onward_fresh = either (ltb (a.act + 1) (acts_in a.stage)) _ _ refl (go a.stage)
    where
      page_fresh : (page : ℕ) → FreshPoint (next_page s page)
      page_fresh page = either (ltb (page + 1) s.pages) _ _ refl refl

      register_fresh : (i : ℕ) → FreshPoint (next_register s i)
      register_fresh i = either (ltb i s.settings.pairs.count) _ _ refl refl

      go : (g : Stage) → FreshPoint (next_stage g s a)
      go Lead = register_fresh 0
      go Erase = refl
      go Write = either (ltb (a.block + 1) (s.settings.size / 256)) _ _ refl refl
      go Read = either (ltb (a.block + 1) (s.settings.size / 256)) _ _ refl (page_fresh a.page)
      go Close = tt
      go Register = register_fresh (a.page + 1)

  again_fresh : (n : ℕ) → FreshPoint (read_again 256 a n)
  unfolding read_again
  again_fresh n = either (ltb (n + 1) 256) _ _ refl tt

  judged_fresh : (t : Task) (n x : ℕ) → FreshPoint (frame_judged 256 t s a n x image)
  unfolding compared differs
  judged_fresh Reset n x = onward_fresh
  judged_fresh Pause n x = onward_fresh
  judged_fresh Address n x = onward_fresh
  judged_fresh Send n x = onward_fresh
  judged_fresh Input n x = either (eqb (x / 2 % 2) 0) _ _ onward_fresh (again_fresh n)
  judged_fresh Output n x = either (eqb (x % 2) 1) _ _ onward_fresh (again_fresh n)
  judged_fresh Ident n x = either (eqb x s.settings.id) _ _ onward_fresh tt
  judged_fresh Status n x = either (eqb x 13) _ _ onward_fresh tt
  judged_fresh Compare n x = either (eqb x (image_byte image (compared_offset s a))) _ _ onward_fresh tt

knows_fresh : (s : Session) (image : List ℕ) (y : Point) (t : Task) (w : ℕ) → FreshPoint y → KnowsAt s image y t w
knows_fresh s image (Running g i j k q c v) t w e = inl e
knows_fresh s image (Ended n o) t w e = tt

-- where a reply leads within a frame: to the same strobe, or to the next one
abbrev MovesOn : Place → Moved → Type 0
MovesOn p (Within n) = (p.strobe < 14) × ((n.strobe ≡ p.strobe) ⊎ (n.strobe ≡ p.strobe + 1))
MovesOn p (Stopped x) = Unit {0}
MovesOn p WaitLimit = Unit {0}

moved_either : (t : Bool) (p : Place) (x y : Moved) → (t ≡ true → MovesOn p x) → (t ≡ false → MovesOn p y) → MovesOn p (cond t x y)
moved_either true p x y f g = f refl
moved_either false p x y f g = g refl

moves_on : (l c : ℕ) (p : Place) (b : Bool) → MovesOn p (code_follows l c p b)
unfolding code_follows
moves_on l c p b = moved_either (leb 14 p.strobe) p _ _ (λ _. tt) (λ e. let h : p.strobe < 14 = leb-false 14 p.strobe e in
    moved_either (ltb c 4) p _ _ (λ _. (h, inr refl))
    (λ _. moved_either (leb 8 c) p _ _ (λ _. (h, inr refl))
    (λ _. moved_either (eqb c 6) p _ _
    (λ _. moved_either b p _ _ (λ _. (h, inr refl)) (λ _. moved_either (ltb (p.count + 1) l) p _ _ (λ _. (h, inl refl)) (λ _. tt)))
    (λ _. tt))))

-- what is left of a script after a reply that leads to the next strobe
script_rest : (t : Task) (s : Session) (a : At) (q : ℕ) (image : List ℕ) → q < 14 → script_at t s a q image / 16 ≡ script_at t s a (q + 1) image
unfolding script_at kept
script_rest t s a q image h =
    let cs = task_codes t (task_byte t s a image) in
    let k = codes_of_task t (task_byte t s a image) in
    let e : q + 1 ≡ suc q = omega arith in
    rw (lt-ltb q 15 (omega arith), lt-ltb (q + 1) 15 (omega arith), e, left_from cs k q, left_from cs k (suc q)) (left_rest cs k q (omega arith))

-- what a runner knows after a reply has moved the place
settled_knows : (t : Task) (s : Session) (a : At) (p : Place) (image : List ℕ) (m : Moved) → t ≡ task_of a.stage a.act → MovesOn p m
    → Knows s image (runner_settled m t (script_at t s a p.strobe image) s a p image)
settled_knows t s a p image (Within n) e (h, inl f) = record { so = inr (e, rw (f, eq-eqb p.strobe p.strobe refl, ← e)) }
settled_knows t s a p image (Within n) e (h, inr f) =
    record { so = inr (e, rw (f, ne_eqb (p.strobe + 1) p.strobe (λ z. omega arith), ← e) (script_rest t s a p.strobe image h)) }
settled_knows t s a p image (Stopped x) e h = record { so = knows_fresh s image (frame_judged 256 t s a p.count x image) t 0 (judged_fresh s image a t p.count x) }
settled_knows t s a p image WaitLimit e h = record { so = tt }

settled_point : (m : Moved) (t : Task) (w : ℕ) (s : Session) (a : At) (p : Place) (image : List ℕ)
    → (runner_settled m t w s a p image).point ≡ frame_answered 256 m t s a p.count image
settled_point (Within n) t w s a p image = refl
settled_point (Stopped x) t w s a p image = refl
settled_point WaitLimit t w s a p image = refl

-- a step that stands in no frame is over at its reply
answered_alone : (t : Task) (s : Session) (a : At) (p : Place) (b : Bool) (image : List ℕ)
    → frame_answered 256 (cond (eqb (alone t) 0) (followed (limits_of s.settings).wait (frame (task_frame t) 0) p b) (Stopped p.bits)) t s a p.count image ≡ task_taken (limits_of s.settings) t s a p b image
answered_alone Reset s a p b image = refl
answered_alone Pause s a p b image = refl
answered_alone Address s a p b image = refl
answered_alone Send s a p b image = refl
answered_alone Input s a p b image = refl
answered_alone Output s a p b image = refl
answered_alone Ident s a p b image = refl
answered_alone Status s a p b image = refl
answered_alone Compare s a p b image = refl

-- the runner after a reply, where its task and script are those of the act
module _ (s : Session) (image : List ℕ) (a : At) (p : Place) (x : ℕ) where
  abbrev t : Task
  t = task_of a.stage a.act

  abbrev w : ℕ
  w = script_at t s a p.strobe image

  replied_point : (runner_replied t w s a p x image).point ≡ point_replied (limits_of s.settings) s a p x image
  unfolding runner_replied point_replied
  replied_point = by_test (ltb 1 x) (λ e. rw e) (λ e. rw e (
      settled_point (code_follows (limits_of s.settings).wait (w % 16) p (eqb x 1)) t w s a p image
      ∙ ap (λ (m : Moved). frame_answered 256 m t s a p.count image) (script_moves t s a image (limits_of s.settings).wait p (eqb x 1))
      ∙ answered_alone t s a p (eqb x 1) image))

  replied_knows : Knows s image (runner_replied t w s a p x image)
  unfolding runner_replied
  replied_knows = by_test (ltb 1 x) (λ e. rw e (record { so = tt }))
      (λ e. rw e (settled_knows t s a p image (code_follows (limits_of s.settings).wait (w % 16) p (eqb x 1)) refl (moves_on (limits_of s.settings).wait (w % 16) p (eqb x 1))))

-- a runner that can go on finds the task and the script of its act
known_nonzero : (q w : ℕ) → is_known q w ≡ true → (q ≡ 0 → ⊥) × (w ≡ 0 → ⊥)
unfolding is_known
known_nonzero q w e = (
  λ z. absurd (let f : false ≡ true = rw (eq-eqb q 0 z) at e in let n : ◌≡◌ {A = ℕ} 0 1 = cc in omega arith),
  λ z. by_test (eqb q 0)
      (λ p. absurd (let f : false ≡ true = rw p at e in let n : ◌≡◌ {A = ℕ} 0 1 = cc in omega arith))
      (λ p. absurd (let f : false ≡ true = rw (p, eq-eqb w 0 z) at e in let n : ◌≡◌ {A = ℕ} 0 1 = cc in omega arith)),
)

finds : (s : Session) (image : List ℕ) (g : Stage) (i j k q c v : ℕ) (t : Task) (w : ℕ)
    → (w ≡ 0) ⊎ KnowsAt s image (Running g i j k q c v) t w → is_known q w ≡ true
    → (t ≡ task_of g k) × (w ≡ script_at (task_of g k) s (act_at g i j k) q image)
finds s image g i j k q c v t w (inl z) e = absurd ((known_nonzero q w e).1 z)
finds s image g i j k q c v t w (inr (inl z)) e = absurd ((known_nonzero q w e).0 z)
finds s image g i j k q c v t w (inr (inr h)) e = h

taken_so : (s : Session) (image : List ℕ) (g : Stage) (i j k q c v : ℕ) (t : Task) (w x : ℕ) → (w ≡ 0) ⊎ KnowsAt s image (Running g i j k q c v) t w
    → runner_taken t w s (act_at g i j k) (place q c v) x image ≡ runner_replied (task_of g k) (script_at (task_of g k) s (act_at g i j k) q image) s (act_at g i j k) (place q c v) x image
unfolding runner_taken
taken_so s image g i j k q c v t w x h =
    by_test (is_known q w)
    (λ e. let f = finds s image g i j k q c v t w h e in rw (e, f.1, f.0))
    (λ e. rw e)

pub runner_goes : (s : Session) (image : List ℕ) (r : Runner) (x : ℕ) → Ready s image r
    → ((runner_advanced s r x image).point ≡ point_advanced (limits_of s.settings) r.point s x image) × Knows s image (runner_advanced s r x image)
unfolding runner_advanced
runner_goes s image r x h = go r.point h.so
  where
    go : (y : Point) → (r.script ≡ 0) ⊎ KnowsAt s image y r.task r.script
        → ((point_taken y r.task r.script s x image).point ≡ point_advanced (limits_of s.settings) y s x image) × Knows s image (point_taken y r.task r.script s x image)
    go (Running g i j k q c v) f =
        let e = taken_so s image g i j k q c v r.task r.script x f in
        (ap (λ (z : Runner). z.point) e ∙ replied_point s image (act_at g i j k) (place q c v) x, rw e (replied_knows s image (act_at g i j k) (place q c v) x))
    go (Ended n o) f = (refl, record { so = tt })

-- the step that a runner waits at is the session's
first_is : (t : Task) (s : Session) (a : At) (image : List ℕ) → alone t ≡ cond (eqb (alone t) 0) (step_at (frame (task_frame t) (task_byte t s a image)) 0) (alone t)
unfolding frame step_at strobe_step code
first_is Reset s a image = refl
first_is Pause s a image = refl
first_is Address s a image = refl
first_is Send s a image = refl
first_is Input s a image = refl
first_is Output s a image = refl
first_is Ident s a image = refl
first_is Status s a image = refl
first_is Compare s a image = refl

pub runner_waits : (s : Session) (image : List ℕ) (r : Runner) → Knows s image r → runner_step r ≡ point_step r.point s image
unfolding runner_step
runner_waits s image r h = go r.point h.so
  where
    go : (y : Point) → KnowsAt s image y r.task r.script → step_from y r.script ≡ point_step y s image
    go (Running g i j k q c v) (inl e) = rw e (first_is (task_of g k) s (act_at g i j k) image)
    go (Running g i j k q c v) (inr f) =
        by_test (eqb q 0)
        (λ e. rw (eqb-true q 0 e) (first_is (task_of g k) s (act_at g i j k) image))
        (λ e. rw (e, f.1) (script_steps (task_of g k) s (act_at g i j k) q image))
    go (Ended n o) f = refl

-- where a session goes, and what it waits at, goes by the point that is given and not by the session's own
module _ (s : Session) (z : Point) (image : List ℕ) where
  next_keeps : (g : Stage) (i j k : ℕ) → next_act (with_point s z) (act_at g i j k) ≡ next_act s (act_at g i j k)
  unfolding next_act next_write next_page next_read next_register
  next_keeps Lead i j k = refl
  next_keeps Erase i j k = refl
  next_keeps Write i j k = refl
  next_keeps Read i j k = refl
  next_keeps Close i j k = refl
  next_keeps Register i j k = refl

  judged_keeps : (t : Task) (g : Stage) (i j k n x : ℕ) → frame_judged 256 t (with_point s z) (act_at g i j k) n x image ≡ frame_judged 256 t s (act_at g i j k) n x image
  unfolding compared differs compared_offset
  judged_keeps Reset g i j k n x = next_keeps g i j k
  judged_keeps Pause g i j k n x = next_keeps g i j k
  judged_keeps Address g i j k n x = next_keeps g i j k
  judged_keeps Send g i j k n x = next_keeps g i j k
  judged_keeps Input g i j k n x = rw (next_keeps g i j k)
  judged_keeps Output g i j k n x = rw (next_keeps g i j k)
  judged_keeps Ident g i j k n x = rw (next_keeps g i j k)
  judged_keeps Status g i j k n x = rw (next_keeps g i j k)
  judged_keeps Compare g i j k n x = rw (next_keeps g i j k)

  answered_keeps : (m : Moved) (t : Task) (g : Stage) (i j k n : ℕ)
      → frame_answered 256 m t (with_point s z) (act_at g i j k) n image ≡ frame_answered 256 m t s (act_at g i j k) n image
  answered_keeps (Within p) t g i j k n = refl
  answered_keeps (Stopped x) t g i j k n = judged_keeps t g i j k n x
  answered_keeps WaitLimit t g i j k n = refl

  pub point_keeps : (y : Point) (x : ℕ) → point_advanced (limits_of s.settings) y (with_point s z) x image ≡ point_advanced (limits_of s.settings) y s x image
  unfolding point_replied
  point_keeps (Running g i j k q c v) x =
      rw (answered_keeps (followed (limits_of s.settings).wait (frame (task_frame (task_of g k)) 0) (place q c v) (eqb x 1)) (task_of g k) g i j k c, next_keeps g i j k)
  point_keeps (Ended n o) x = refl

  byte_keeps : (g : Stage) (i j k : ℕ) → stage_byte g (with_point s z) (act_at g i j k) image ≡ stage_byte g s (act_at g i j k) image
  unfolding write_byte erase_byte block_byte sent_offset register_byte
  byte_keeps Lead i j k = refl
  byte_keeps Erase i j k = refl
  byte_keeps Write i j k = refl
  byte_keeps Read i j k = refl
  byte_keeps Close i j k = refl
  byte_keeps Register i j k = refl

  pub step_keeps : (y : Point) → point_step y (with_point s z) image ≡ point_step y s image
  step_keeps (Running g i j k q c v) = rw (byte_keeps g i j k)
  step_keeps (Ended n o) = refl

-- the session of a runner
abbrev pub session_of : Session → Runner → Session
session_of s r = with_point s r.point

-- the session of a runner after a reply is its session after that reply, and it waits at the same step
pub session_goes : (s : Session) (image : List ℕ) (r : Runner) (x : ℕ) → Ready s image r → session_of s (runner_advanced s r x image) ≡ advanced (session_of s r) x image
unfolding advanced
session_goes s image r x h = ap (with_point s) ((runner_goes s image r x h).0 ∙ sym (point_keeps s r.point image r.point x))

pub session_waits : (s : Session) (image : List ℕ) (r : Runner) → Knows s image r → runner_step r ≡ session_step (session_of s r) image
unfolding session_step
session_waits s image r h = runner_waits s image r h ∙ sym (step_keeps s r.point image r.point)

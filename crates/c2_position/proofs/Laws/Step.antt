-- The step that a session waits at is the one that its exchange asks for.
use mathlib.Core.Path.{◌≡◌, refl, sym, ap, ◌∙◌}
use mathlib.Core.Bool.{Bool, true, false}
use mathlib.Core.List.{List}
use Prim.Native.Nat.{ℕ, ◌*◌, ◌%◌, ◌<◌, ◌≤◌}
use native.Mathlib.Omega.{arith}
use native.Mathlib.Decide.{dec_lt}
use borrow.Author.Tests.{lt-ltb, le-ltb, ne_eqb}
use lib.Dec.{eqb}
use lib.ListN.{length}
use Rattle.laws.proofs.Tests.{by_test}
use Rattle.c2_wire.specs.Step.{code}
use Rattle.c2_wire.specs.Exchange.{asks}
use Rattle.c2_wire.specs.Frames.{frame}
use Rattle.c2_wire.specs.Place.{place, step_at}
use Rattle.c2_wire.specs.declared.Frame.TheVariants.{AddressWrite, DataWrite}
use Rattle.c2_wire.specs.declared.Place.{Place}
use Rattle.c2_wire.proofs.Laws.Place.{Exists, remaining_asks}
use Rattle.c2_wire.proofs.Laws.Script.{exists_any_byte}
use Rattle.c2_order.specs.Acts.{Act}
use Rattle.c2_order.specs.Conversation.{limits, limits_of}
use Rattle.c2_order.specs.Point.{strobes_of, follow_up, left_to_say}
use Rattle.c2_acts.specs.declared.Stage.{Stage}
use Rattle.c2_acts.specs.declared.Stage.TheVariants.{Lead, Erase, Write, Read, Close, Register}
use Rattle.c2_acts.specs.declared.Task.{Task}
use Rattle.c2_acts.specs.declared.Task.TheVariants.{Reset, Pause, Address, Send, Input, Output, Ident, Status, Compare}
use Rattle.c2_session.specs.declared.Point.TheVariants.{Running, Ended}
use Rattle.c2_session.specs.declared.Session.{Session}
use Rattle.c2_acts.specs.Code.Acts.{task_of, read_task}
use Rattle.c2_session.specs.Code.Bytes.{stage_byte, compared_offset}
use Rattle.c2_session.specs.Code.Next.{act_at}
use Rattle.c2_session.specs.Code.Step.{task_step, point_step, session_step}
use Rattle.c2_range.specs.Range.{in_range, point_in_range}
use Rattle.c2_range.specs.Code.Bounds.{strobes_in, reads_in}
use Rattle.c2_position.specs.Position.{point_position, position}
use Rattle.c2_range.proofs.Laws.Acts.{task_act}
use Rattle.c2_position.proofs.Laws.Position.{Fits, act_byte}
use Rattle.c2_position.proofs.Laws.Onward.{rest_from, acts_here}
use Rattle.c2_position.proofs.Laws.Advanced.{fits_of, point_of, SessionPoint}
use Rattle.c2_range.proofs.Laws.Bounds.{bounded}
use Rattle.c2_position.proofs.Laws.Range.{place_exists}
use Rattle.c2_wire.specs.Place
use Rattle.c2_order.specs.Point

-- an act of a block read that sends a byte is one of its command
is_sent : Task → Bool
is_sent = elim [ Reset ↦ false | Pause ↦ false | Address ↦ true | Send ↦ true | Input ↦ false | Output ↦ false | Ident ↦ false | Status ↦ false | Compare ↦ false ]

late_unsent : (k : ℕ) → 11 ≤ k → is_sent (read_task k) ≡ false
unfolding is_sent
late_unsent k h =
    rw (ne_eqb k 0 (λ e. omega arith), ne_eqb k 3 (λ e. omega arith), ne_eqb k 4 (λ e. omega arith), le-ltb k 11 h)
    (by_test (eqb (k % 2) 1) (λ e. rw e) (λ e. by_test (eqb k 12) (λ f. rw (e, f)) (λ f. rw (e, f))))

sent_byte : (s : Session) (image : List ℕ) (h : Fits s image) (g : Stage) (i j k : ℕ) → is_sent (task_of g k) ≡ true
    → act_byte s image h g (act_at g i j k) ≡ stage_byte g s (act_at g i j k) image
sent_byte s image h Lead i j k e = refl
sent_byte s image h Erase i j k e = refl
sent_byte s image h Write i j k e = refl
sent_byte s image h Read i j k e = go (dec_lt k 11)
  where
    go : Dec (k < 11) → act_byte s image h Read (act_at Read i j k) ≡ stage_byte Read s (act_at Read i j k) image
    go (yes y) = rw (lt-ltb k 11 y)
    go (no y) = absurd (let z : false ≡ true = sym (late_unsent k (omega arith)) ∙ e in let n : ◌≡◌ {A = ℕ} 0 1 = cc in omega arith)
sent_byte s image h Close i j k e = refl
sent_byte s image h Register i j k e = refl

-- at a place that exists the exchange asks for the step of that strobe
asks_place : (w r : ℕ) (a : Act) (acts : List Act) (p : Place) → (n : ℕ) → Exists w n (strobes_of a) p
    → asks (left_to_say (limits w r) (Point.running a acts p)) ≡ step_at (strobes_of a) p.strobe
unfolding left_to_say asks step_at
asks_place w r a acts p n e =
    let node = remaining_asks w n (strobes_of a) p (follow_up (limits w r) a acts p.count) e in
    rw node.2

reset_code : step_at (strobes_in Reset) 0 ≡ 4
unfolding step_at Place.strobe_step code
reset_code = refl

pause_code : step_at (strobes_in Pause) 0 ≡ 5
unfolding step_at Place.strobe_step code
pause_code = refl

module _ (s : Session) (image : List ℕ) (h : Fits s image) (w r : ℕ) (g : Stage) (i j k : ℕ) (acts : List Act) (p : Place) where
  abbrev act_of : Task → Act
  act_of t = task_act t (act_byte s image h g (act_at g i j k)) s.settings.id (compared_offset s (act_at g i j k))

  asks_task : (t : Task) → task_of g k ≡ t → Exists w (reads_in r t) (strobes_in t) p
      → asks (left_to_say (limits w r) (Point.running (act_of t) acts p)) ≡ task_step t s (act_at g i j k) p.strobe image
  unfolding strobes_of is_sent
  asks_task Reset q e = asks_place w r (act_of Reset) acts p 1 e ∙ only e
    where
      only : Exists w 1 (strobes_in Reset) p → step_at (strobes_in Reset) p.strobe ≡ 4
      only e = let z : p.strobe ≡ 0 = omega (arith, e.inside) in rw z reset_code
  asks_task Pause q e = asks_place w r (act_of Pause) acts p 1 e ∙ only e
    where
      only : Exists w 1 (strobes_in Pause) p → step_at (strobes_in Pause) p.strobe ≡ 5
      only e = let z : p.strobe ≡ 0 = omega (arith, e.inside) in rw z pause_code
  asks_task Address q e =
      asks_place w r (act_of Address) acts p 1 (exists_any_byte AddressWrite 0 (act_byte s image h g (act_at g i j k)) w 1 p e)
      ∙ ap (λ (b : ℕ). step_at (frame AddressWrite b) p.strobe) (sent_byte s image h g i j k (ap is_sent q))
  asks_task Send q e =
      asks_place w r (act_of Send) acts p 1 (exists_any_byte DataWrite 0 (act_byte s image h g (act_at g i j k)) w 1 p e)
      ∙ ap (λ (b : ℕ). step_at (frame DataWrite b) p.strobe) (sent_byte s image h g i j k (ap is_sent q))
  asks_task Input q e = asks_place w r (act_of Input) acts p r e
  asks_task Output q e = asks_place w r (act_of Output) acts p r e
  asks_task Ident q e = asks_place w r (act_of Ident) acts p 1 e
  asks_task Status q e = asks_place w r (act_of Status) acts p 1 e
  asks_task Compare q e = asks_place w r (act_of Compare) acts p 1 e

-- the step that a session in range waits at, lent its image, is the one that its exchange asks for
pub asks_step : (s : Session) (image : List ℕ) → in_range s ≡ true → length image ≡ s.settings.size * s.pages
    → session_step s image ≡ asks (left_to_say (limits_of s.settings) (position s image))
unfolding session_step point_position asks left_to_say code
asks_step s image e l = go s.point (point_of s e)
  where
    w : ℕ
    w = (limits_of s.settings).wait

    r : ℕ
    r = (limits_of s.settings).reads

    h : Fits s image
    h = fits_of s image e l

    go : (y : SessionPoint) → point_in_range (limits_of s.settings) s.settings.size s.settings.pairs.count s.pages y ≡ true → point_step y s image ≡ asks (left_to_say (limits_of s.settings) (point_position s image y))
    go (Running g i j k q c v) f =
        let n = bounded w r s.settings.size s.settings.pairs.count s.pages g i j k q c v f in
        let x = place_exists w (reads_in r (task_of g k)) (strobes_in (task_of g k)) (place q c v) n.place in
        rw (acts_here s image h g i j k n.page n.block n.act)
        (sym (asks_task s image h w r g i j k (rest_from s image h g i j k) (place q c v) (task_of g k) refl x))
    go (Ended n o) f = refl

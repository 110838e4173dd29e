-- Each point that stands in the order is a point of a session in range: walked through act by act.
use mathlib.Core.Path.{◌≡◌, refl, sym, ap, ◌∙◌}
use mathlib.Core.Bool.{true}
use mathlib.Core.List.{List, [], ◌∷◌, ◌++◌}
use Prim.Native.Nat.{ℕ, ◌<◌}
use native.Mathlib.Omega.{arith}
use lib.ListN.{length, drop}
use Rattle.c2_wire.specs.Place.{place}
use Rattle.c2_wire.specs.declared.Frame.TheVariants.{AddressWrite, DataWrite}
use Rattle.c2_wire.specs.declared.Place.{Place}
use Rattle.c2_wire.proofs.Laws.Place.{Exists}
use Rattle.c2_wire.proofs.Laws.Script.{exists_any_byte}
use Rattle.c2_order.specs.Acts.{Act}
use Rattle.c2_order.specs.Order.{session_order}
use Rattle.c2_order.specs.Conversation.{limits}
use Rattle.c2_order.specs.Point.{strobes_of, reads_of, Stands, begin}
use Rattle.c2_acts.specs.declared.Stage.{Stage}
use Rattle.c2_acts.specs.declared.Stage.TheVariants.{Lead}
use Rattle.c2_acts.specs.declared.Task.{Task}
use Rattle.c2_acts.specs.declared.Task.TheVariants.{Reset, Pause, Address, Send, Input, Output, Ident, Status, Compare}
use Rattle.c2_session.specs.declared.Point.TheVariants.{Running, Ended}
use Rattle.c2_session.specs.declared.Session.{Session}
use Rattle.c2_acts.specs.Code.Acts.{task_of, acts_in}
use Rattle.c2_session.specs.Code.Next.{act_at, strobe_point, next_act}
use Rattle.c2_range.specs.Range.{pages_in, blocks_in, point_in_range}
use Rattle.c2_range.specs.Code.Bounds.{strobes_in, reads_in}
use Rattle.c2_position.specs.Position.{acts_from, at_act, point_position}
use Rattle.c2_range.proofs.Laws.Acts.{task_act}
use Rattle.c2_position.proofs.Laws.Position.{Fits, act_here, act_byte}
use Rattle.c2_position.proofs.Laws.Onward.{rest_from, acts_here, goes_on}
use Rattle.c2_position.proofs.Laws.Advanced.{SessionPoint}
use Rattle.c2_range.proofs.Laws.Bounds.{bounded}
use Rattle.c2_position.proofs.Laws.Range.{running_in, onward_in}
use Rattle.c2_position.proofs.Laws.Before.{lead_first}
use Rattle.c2_order.specs.Point

-- the acts that are left at a point of the order
abbrev pub acts_of : Point.Point → List Act
acts_of (Point.running a acts p) = a ∷ acts
acts_of (Point.ended o) = []

pub acts_there : (acts : List Act) (p : Place) → acts_of (at_act acts p) ≡ acts
acts_there [] p = refl
acts_there (a ∷ acts) p = refl

acts_begun : (acts : List Act) → acts_of (begin acts) ≡ acts
unfolding begin
acts_begun [] = refl
acts_begun (a ∷ acts) = refl

some_left : (before : List Act) (a : Act) (acts : List Act) → before ++ a ∷ acts ≡ [] → ⊥
some_left before a acts e = go before (ap length e)
  where
    go : (xs : List Act) → length (xs ++ a ∷ acts) ≡ 0 → ⊥
    go [] f = omega arith
    go (x ∷ xs) f = omega arith

-- a place of an act is a place of its task
exists_task : (w r : ℕ) (t : Task) (b id o : ℕ) (p : Place)
    → Exists w (reads_of (limits w r) (task_act t b id o)) (strobes_of (task_act t b id o)) p → Exists w (reads_in r t) (strobes_in t) p
unfolding reads_of strobes_of
exists_task w r Reset b id o p e = e
exists_task w r Pause b id o p e = e
exists_task w r Address b id o p e = exists_any_byte AddressWrite b 0 w 1 p e
exists_task w r Send b id o p e = exists_any_byte DataWrite b 0 w 1 p e
exists_task w r Input b id o p e = e
exists_task w r Output b id o p e = e
exists_task w r Ident b id o p e = e
exists_task w r Status b id o p e = e
exists_task w r Compare b id o p e = e

module _ (w r : ℕ) (hw : 0 < w) (hr : 0 < r) (s : Session) (image : List ℕ) (h : Fits s image) where
  abbrev In : SessionPoint → Type 0
  In y = point_in_range (limits w r) s.settings.size s.settings.pairs.count s.pages y ≡ true

  -- An act of a stage, in range, with these acts from it on (`Found`); where acts follow it, the next is
  -- found (`one_on`).
  record Found (acts : List Act) : Type 0 where
    stage : Stage
    page : ℕ
    block : ℕ
    act : ℕ
    page_in : page < pages_in stage s.settings.pairs.count s.pages
    block_in : block < blocks_in stage s.settings.size
    act_in : act < acts_in stage
    from : acts_from stage s image page block act ≡ acts

  one_on : (c : Act) (before : List Act) (a : Act) (acts : List Act) → Found (c ∷ (before ++ a ∷ acts)) → Found (before ++ a ∷ acts)
  unfolding point_position
  one_on c before a acts f = go (next_act s (act_at g i j k)) refl
    where
      g : Stage
      g = f.stage

      i : ℕ
      i = f.page

      j : ℕ
      j = f.block

      k : ℕ
      k = f.act

      rest : rest_from s image h g i j k ≡ before ++ a ∷ acts
      rest = ap (λ (xs : List Act). drop 1 xs) (sym (acts_here s image h g i j k f.page_in f.block_in f.act_in) ∙ f.from)

      next : acts_of (point_position s image (next_act s (act_at g i j k))) ≡ before ++ a ∷ acts
      next = sym (ap acts_of (goes_on s image h g i j k f.page_in f.block_in f.act_in)) ∙ acts_begun (rest_from s image h g i j k) ∙ rest

      go : (y : SessionPoint) → next_act s (act_at g i j k) ≡ y → Found (before ++ a ∷ acts)
      go (Running g₁ i₁ j₁ k₁ q c v) e =
          let n = bounded w r s.settings.size s.settings.pairs.count s.pages g₁ i₁ j₁ k₁ q c v (rw e at (onward_in w r hw hr s image h g i j k f.page_in f.block_in f.act_in)) in
          record {
            stage = g₁;
            page = i₁;
            block = j₁;
            act = k₁;
            page_in = n.page;
            block_in = n.block;
            act_in = n.act;
            from = sym (acts_there (acts_from g₁ s image i₁ j₁ k₁) (place q c v))
                ∙ ap (λ (y : SessionPoint). acts_of (point_position s image y)) (sym e) ∙ next;
          }
      go (Ended n o) e = absurd (some_left before a acts (sym next ∙ ap (λ (y : SessionPoint). acts_of (point_position s image y)) e))

  walk : (before : List Act) (a : Act) (acts : List Act) → Found (before ++ a ∷ acts) → Found (a ∷ acts)
  walk [] a acts f = f
  walk (c ∷ before) a acts f = walk before a acts (one_on c before a acts f)

  -- the point of the session at which a point that stands in the order is
  pub point_there : (x : Point.Point) → Stands (limits w r) (session_order s.settings s.first image) x
      → (y : SessionPoint) × In y × (point_position s image y ≡ x)
  unfolding point_position
  point_there x st = (strobe_point (act_at g i j k) p, running_in w r hw hr s image h g i j k p f.page_in f.block_in f.act_in there, stands_so)
    where
      f : Found (st.act ∷ st.later)
      f =
          walk st.before st.act st.later
          (record { stage = Lead; page = 0; block = 0; act = 0; page_in = omega arith; block_in = omega arith; act_in = omega arith; from = lead_first s image h ∙ sym st.whole })

      g : Stage
      g = f.stage

      i : ℕ
      i = f.page

      j : ℕ
      j = f.block

      k : ℕ
      k = f.act

      p : Place
      p = st.place

      acts : act_here s image h g (act_at g i j k) ∷ rest_from s image h g i j k ≡ st.act ∷ st.later
      acts = sym (acts_here s image h g i j k f.page_in f.block_in f.act_in) ∙ f.from

      act : st.act ≡ act_here s image h g (act_at g i j k)
      act = ap (λ (xs : List Act). first_of xs st.act) (sym acts)
        where
          first_of : List Act → Act → Act
          first_of [] a = a
          first_of (x ∷ xs) a = x

      there : Exists w (reads_in r (task_of g k)) (strobes_in (task_of g k)) p
      there =
          let e : Exists w (reads_of (limits w r) st.act) (strobes_of st.act) st.place = record { inside = st.strobe; counted = st.count; sampled_only = st.bits } in
          exists_task w r (task_of g k) (act_byte s image h g (act_at g i j k)) s.settings.id _ p (rw act at e)

      stands_so : at_act (acts_from g s image i j k) p ≡ x
      stands_so = ap (λ (xs : List Act). at_act xs p) f.from ∙ sym st.here

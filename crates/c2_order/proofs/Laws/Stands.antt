-- A point that exists in an order of sound acts is valid, and a reply leads to another that exists there.
use mathlib.Core.Path.{◌≡◌, refl, ◌∙◌}
use mathlib.Core.Bool.{Bool, true, false, cond}
use mathlib.Core.List.{List, [], ◌∷◌, ◌++◌, append_assoc}
use mathlib.Core.Logic.{inl, inr}
use Prim.Native.Nat.{ℕ, zero, suc, ◌+◌}
use lib.Dec.{ltb, eqb}
use Rattle.numbers.specs.Numbers.{poll_limit_reached}
use Rattle.c2_wire.specs.Exchange.{outcome}
use Rattle.c2_wire.specs.Place.{place, followed}
use Rattle.c2_wire.specs.declared.Moved.{Moved}
use Rattle.c2_wire.specs.declared.Moved.TheVariants.{Within, Stopped, WaitLimit}
use Rattle.c2_order.specs.Acts.{Act, send, poll, expect}
use Rattle.c2_order.specs.Conversation.{Limits}
use Rattle.c2_order.specs.Point.{Point, running, ended, strobes_of, ExistsIn, begin, again, judged, settled, next, reached}
use Rattle.c2_order.proofs.Laws.Valid.{Sound, Every, more, Valid}

-- what holds of every act of a list holds of those at its end
pub every_end : {P : Act → Type 0} (xs ys : List Act) → Every P (xs ++ ys) → Every P ys
every_end [] ys f = f
every_end (x ∷ xs) ys (more p f) = every_end xs ys f

pub first_and_later : {P : Act → Type 0} (a : Act) (acts : List Act) → Every P (a ∷ acts) → P a × Every P acts
first_and_later a acts (more p f) = (p, f)

pub exists_valid : (l : Limits) (order : List Act) → Every Sound order → (x : Point) → ExistsIn l order x → Valid l x
exists_valid l order f x (inl h) =
    let b = first_and_later {P = Sound} h.act h.later (every_end h.before (h.act ∷ h.later) (rw h.whole f)) in
    rw h.here (b.0, b.1, record { inside = h.strobe; counted = h.count; sampled_only = h.bits })
exists_valid l order f x (inr h) = rw h.1 tt

-- the acts that are left at a point are the end of an order
abbrev pub Ends : List Act → Point → Type 0
Ends order (running a acts p) = (before : List Act) × (before ++ a ∷ acts ≡ order)
Ends order (ended o) = Unit {0}

module _ (order : List Act) where
  pub begin_ends : (before acts : List Act) → before ++ acts ≡ order → Ends order (begin acts)
  unfolding begin
  begin_ends before [] e = tt
  begin_ends before (a ∷ acts) e = (before, e)

  cond_ends : (t : Bool) (x y : Point) → Ends order x → Ends order y → Ends order (cond t x y)
  cond_ends true x y f g = f
  cond_ends false x y f g = g

  module _ (l : Limits) (before acts : List Act) where
    onward_ends : (a : Act) → before ++ a ∷ acts ≡ order → Ends order (begin acts)
    onward_ends a e = begin_ends (before ++ a ∷ []) acts (append_assoc before (a ∷ []) acts ∙ e)

    again_ends : (a : Act) (n : ℕ) → before ++ a ∷ acts ≡ order → Ends order (again l a acts n)
    unfolding again
    again_ends a n e = cond_ends (ltb (n + 1) l.reads) (running a acts (place 0 (n + 1) 0)) (ended (outcome poll_limit_reached)) (before, e) tt

    judged_ends : (a : Act) (n x : ℕ) → before ++ a ∷ acts ≡ order → Ends order (judged l a acts n x)
    unfolding judged
    judged_ends (send ss) n x e = onward_ends (send ss) e
    judged_ends (poll ok) n x e = cond_ends (ok x) (begin acts) (again l (poll ok) acts n) (onward_ends (poll ok) e) (again_ends (poll ok) n e)
    judged_ends (expect y o) n x e = cond_ends (eqb x y) (begin acts) (ended o) (onward_ends (expect y o) e) tt

    settled_ends : (a : Act) (n : ℕ) (m : Moved) → before ++ a ∷ acts ≡ order → Ends order (settled l a acts n m)
    unfolding settled
    settled_ends a n (Within p) e = (before, e)
    settled_ends a n (Stopped x) e = judged_ends a n x e
    settled_ends a n WaitLimit e = tt

  next_ends : (l : Limits) (x : Point) (r : ℕ) → Ends order x → Ends order (next l x r)
  unfolding next
  next_ends l (ended o) r h = tt
  next_ends l (running a acts p) zero h = settled_ends l h.0 acts a p.count (followed l.wait (strobes_of a) p false) h.1
  next_ends l (running a acts p) (suc zero) h = settled_ends l h.0 acts a p.count (followed l.wait (strobes_of a) p true) h.1
  next_ends l (running a acts p) (suc (suc r)) h = tt

  pub reached_ends : (l : Limits) (x : Point) (rs : List ℕ) → Ends order x → Ends order (reached l x rs)
  unfolding reached
  reached_ends l x [] h = h
  reached_ends l x (r ∷ rs) h = reached_ends l (next l x r) rs (next_ends l x r h)

  pub ends_exist : (l : Limits) (x : Point) → Valid l x → Ends order x → ExistsIn l order x
  ends_exist l (running a acts p) v h =
      inl (record {
        before = h.0;
        act = a;
        later = acts;
        place = p;
        here = refl;
        whole = h.1;
        strobe = v.2.inside;
        count = v.2.counted;
        bits = v.2.sampled_only;
      })
  ends_exist l (ended o) v h = inr (o, refl)

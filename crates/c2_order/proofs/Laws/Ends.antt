-- The numbers that end a session: every act of its order that expects a byte ends it with one of them.
use mathlib.Core.Path.{refl}
use mathlib.Core.Bool.{Bool, true, false, cond}
use mathlib.Core.List.{List, [], ◌∷◌}
use mathlib.Core.Logic.{inl, inr}
use Prim.Native.Nat.{ℕ, zero, suc, ◌+◌}
use native.Mathlib.Omega.{arith}
use lib.Dec.{ltb, eqb}
use Rattle.numbers.specs.Numbers.{poll_limit_reached}
use Rattle.c2_wire.specs.Exchange.{outcome}
use Rattle.c2_wire.specs.Place.{place, followed}
use Rattle.c2_wire.specs.declared.Moved.{Moved}
use Rattle.c2_wire.specs.declared.Moved.TheVariants.{Within, Stopped, WaitLimit}
use Rattle.c2_order.specs.Acts.{Act, send, poll, expect}
use Rattle.c2_order.specs.Conversation.{Limits}
use Rattle.c2_order.specs.Point.{Point, running, ended, strobes_of, begin, again, judged, settled, next, reached}
use Rattle.c2_order.specs.Claims.{LastNumber, EndsSo}
use Rattle.c2_order.proofs.Laws.Valid.{Every, none, more}
use Rattle.c2_order.proofs.Laws.Order.{Ground, every_session}
use Rattle.c2_order.proofs.Laws.Stands.{every_end, first_and_later}

-- an act ends the session, if at all, with one of the numbers
abbrev EndsWell : Act → Type 0
EndsWell (send ss) = Unit {0}
EndsWell (poll ok) = Unit {0}
EndsWell (expect x o) = LastNumber o.number

well : Ground EndsWell
well = record { resets = tt; pauses = tt; addresses = λ a. tt; writes = λ b. tt; takes = tt; readies = tt; expects = λ x o h e. e }

-- a point from which every end is one of the numbers
abbrev Well : Point → Type 0
Well (running a acts p) = EndsWell a × Every EndsWell acts
Well (ended o) = LastNumber o.number

begin_well : (acts : List Act) → Every EndsWell acts → Well (begin acts)
unfolding begin
begin_well [] none = inl refl
begin_well (a ∷ acts) (more p f) = (p, f)

cond_well : (t : Bool) (x y : Point) → Well x → Well y → Well (cond t x y)
cond_well true x y f g = f
cond_well false x y f g = g

module _ (l : Limits) (acts : List Act) (f : Every EndsWell acts) where
  judged_well : (a : Act) → EndsWell a → (n x : ℕ) → Well (judged l a acts n x)
  unfolding judged again
  judged_well (send ss) h n x = begin_well acts f
  judged_well (poll ok) h n x =
      cond_well (ok x) (begin acts) (again l (poll ok) acts n) (begin_well acts f)
      (cond_well (ltb (n + 1) l.reads) (running (poll ok) acts (place 0 (n + 1) 0)) (ended (outcome poll_limit_reached)) (tt, f) (inr (omega arith, omega arith)))
  judged_well (expect y o) h n x = cond_well (eqb x y) (begin acts) (ended o) (begin_well acts f) h

  settled_well : (a : Act) → EndsWell a → (n : ℕ) (m : Moved) → Well (settled l a acts n m)
  unfolding settled
  settled_well a h n (Within p) = (h, f)
  settled_well a h n (Stopped x) = judged_well a h n x
  settled_well a h n WaitLimit = inr (omega arith, omega arith)

next_well : (l : Limits) (x : Point) → Well x → (r : ℕ) → Well (next l x r)
unfolding next
next_well l (ended o) h r = h
next_well l (running a acts p) h zero = settled_well l acts h.1 a h.0 p.count (followed l.wait (strobes_of a) p false)
next_well l (running a acts p) h (suc zero) = settled_well l acts h.1 a h.0 p.count (followed l.wait (strobes_of a) p true)
next_well l (running a acts p) h (suc (suc r)) = inr (omega arith, omega arith)

reached_well : (l : Limits) (x : Point) → Well x → (rs : List ℕ) → Well (reached l x rs)
unfolding reached
reached_well l x h [] = h
reached_well l x h (r ∷ rs) = reached_well l (next l x r) (next_well l x h r) rs

pub ends_so : EndsSo
ends_so l s first image o x h rs end ending =
    let every = every_session EndsWell well s o.settings.id first image o.bytes in
    let b = first_and_later {P = EndsWell} h.act h.later (every_end h.before (h.act ∷ h.later) (rw h.whole every)) in
    let there : Well x = rw h.here (b.0, b.1) in
    rw ending at (reached_well l x there rs)

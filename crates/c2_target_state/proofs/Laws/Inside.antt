-- A strobe inside a frame changes nothing of the device, so that its numbers are those of the state before it.
use mathlib.Core.Path.{◌≡◌, refl, sym, ap, ◌∙◌}
use mathlib.Core.Bool.{Bool, true, false}
use mathlib.Core.List.{List}
use Rattle.std.specs.Prelude.{Some}
use Prim.Native.Nat.{ℕ, ◌<◌}
use native.Mathlib.Omega.{arith}
use Rattle.std.proofs.lemmas.Bool.Decides.{nat_tests}
use borrow.Author.Tests.{ltb-true}
use lib.Dec.{eqb, ltb}
use Rattle.laws.proofs.Tests.{by_test, both}
use Rattle.c2_wire.specs.Step.{Step, released, driven, reset, pause, off}
use Rattle.c2_target.specs.declared.Point.{Point}
use Rattle.c2_target.specs.declared.Point.TheVariants.{Start, Ins, WriteLength, ReadLength, Address, Data, LongData, Wait, Waiting, Send, Stop}
use Rattle.c2_target.specs.declared.Target.{Target}
use Rattle.c2_target.specs.Target.{Replied}
use Rattle.c2_target.specs.Delays.{Setup}
use Rattle.c2_target.specs.Strobes.{strobed_at}
use Rattle.c2_target.specs.Target.{stepped, step_coded, step_refusal, answer}
use Rattle.c2_target_state.specs.declared.State.{State}
use Rattle.c2_target_state.specs.State.{state_of, later_point, state_point, target_read, target_of}
use Rattle.c2_target_state.specs.Code.Inside.{is_inside, point_moved}
use Rattle.c2_target_state.proofs.Laws.State.{read_says, held_says}

-- points inside a frame
unfoldable inner : Point → Bool
inner Start = false
inner (Stop e) = false
inner _ = true

strobe_keeps : (u : Setup) (p : Point) (t : Target) (f : List ℕ) (x : Step) → inner p ≡ true → (strobed_at u p t f x).target.device ≡ t.device
unfolding inner strobed_at
strobe_keeps u Start t f x h = cc
strobe_keeps u (Ins n v) t f x h = refl
strobe_keeps u (WriteLength n v) t f x h = refl
strobe_keeps u (ReadLength n v) t f x h = refl
strobe_keeps u (Address n v) t f x h = refl
strobe_keeps u (Data n v) t f x h = refl
strobe_keeps u (LongData n) t f x h = refl
strobe_keeps u (Wait n e) t f x h = refl
strobe_keeps u (Waiting z n e) t f x h = refl
strobe_keeps u (Send n v e) t f x h = refl
strobe_keeps u (Stop e) t f x h = cc

-- steps that are strobes, or change nothing
unfoldable calm : Step → Bool
calm reset = false
calm pause = false
calm _ = true

step_keeps : (u : Setup) (t : Target) (f : List ℕ) (x : Step) → calm x ≡ true → inner t.point ≡ true → (stepped u t f x).target.device ≡ t.device
unfolding calm stepped
step_keeps u t f released h i = strobe_keeps u t.point t f released i
step_keeps u t f (driven b) h i = strobe_keeps u t.point t f (driven b) i
step_keeps u t f reset h i = cc
step_keeps u t f pause h i = cc
step_keeps u t f off h i = refl

coded_calm : (x : ℕ) → x < 4 → calm (step_coded x) ≡ true
unfolding calm step_coded
coded_calm x l = grind (arith, nat_tests)

answer_keeps : (u : Setup) (t : Target) (f : List ℕ) (x : ℕ) → x < 4 → inner t.point ≡ true → (answer u t f x).target.device ≡ t.device
unfolding answer
answer_keeps u t f x l i =
    by_test (eqb (step_refusal u t f x) 0) (λ e. rw e (step_keeps u t f (step_coded x) (coded_calm x l) i)) (λ e. rw e)

-- the point that a state says, where its number is between those of START and STOP
point_inner : (s : State) → 0 < s.point → s.point < 10 → inner (state_point s) ≡ true
unfolding inner state_point later_point
point_inner s a b = grind (arith, nat_tests)

-- the state of a target goes by the device of any target with the same one
by_device : (g t : Target) → t.device ≡ g.device → point_moved (state_of g) t ≡ state_of t
unfolding state_of point_moved
by_device g t e = rw e

pub kept_inside : (s : State) (t : Target) → target_of s ≡ Some t → (x : ℕ) → is_inside s.point x ≡ true → (u : Setup) (f : List ℕ) (r : Replied)
    → r ≡ answer u t f x → state_of r.target ≡ point_moved s r.target
unfolding is_inside target_read
kept_inside s t k x i u f r e =
    let q = both (ltb x 4) _ i in
    let o = both (ltb 0 s.point) _ q.1 in
    let n : inner t.point ≡ true = rw (read_says t s k) (point_inner s (ltb-true 0 s.point o.0) (ltb-true s.point 10 o.1)) in
    let d : r.target.device ≡ t.device = rw e (answer_keeps u t f x (ltb-true x 4 q.0) n) in
    sym (by_device t r.target d) ∙ ap (λ y. point_moved y r.target) (held_says t s k)

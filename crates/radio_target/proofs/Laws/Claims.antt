-- The claims of specs/Claims.antt, each proved under its name.
use mathlib.Core.Path.{◌≡◌, refl, sym, ◌∙◌}
use mathlib.Core.Bool.{Bool, true, false, cond, ◌&&◌}
use mathlib.Core.List.{List}
use Rattle.std.proofs.Common.{Option, Some, None}
use Prim.Native.Nat.{ℕ, suc, ◌-◌, ◌≤◌, ◌<◌}
use native.Mathlib.Omega.{arith}
use lib.Dec.{eqb, ltb, leb}
use lib.ListN.{length}
use borrow.Author.Tests.{eq-eqb, eqb-true, eqb-false, le-leb, leb-true}
use Rattle.laws.proofs.Tests.{by_test, both}
use Rattle.radio_command.specs.Command.{built}
use Rattle.radio_flash.proofs.Laws.Flash.{page_set_long}
use Rattle.radio_target.specs.declared.ModulePoint.{ModulePoint}
use Rattle.radio_target.specs.declared.ModulePoint.TheVariants.{Waits, Takes, Loads, Sends}
use Rattle.radio_target.specs.declared.RadioTarget.{RadioTarget}
use Rattle.radio_target.specs.Model.{is_point, is_taken, response, message_refusal}
use Rattle.radio_target.specs.State.{module_state, module_point, radio_target, found_stepped, radio_stepped}
use Rattle.radio_target.specs.Claims.{PointBack, PointState, StaysModule, NeverLost}
use Rattle.radio_target.proofs.Laws.Deeds.{commanded_stays, spans}
use Rattle.radio_target.proofs.Laws.Model.{page_long, waits_fit, takes_fit, sends_fit, fits}

pub point_back : PointBack
unfolding module_state module_point
point_back Waits = refl
point_back (Takes p n) = refl
point_back (Loads n) = refl
point_back (Sends p n) = refl

-- a state that has no point has none
none : (p : ModulePoint) → None ≡ Some p → ⊥
none p e = cc

-- a point that a state has, and that point's state
has : (x p : ModulePoint) (t : RadioTarget) → Some x ≡ Some p → module_state x ≡ t → module_state p ≡ t
has x p t e h = cc

numbers_state : (k q n : ℕ) (p : ModulePoint) → module_point (radio_target k q n) ≡ Some p → module_state p ≡ radio_target k q n
unfolding module_state module_point
numbers_state k q n p e =
    by_test (eqb k 0)
    (λ a. by_test (eqb q 0 && eqb n 0)
    (λ b. let g = both (eqb q 0) (eqb n 0) b in has Waits p _ (rw (a, b) at e) (rw (eqb-true k 0 a, eqb-true q 0 g.0, eqb-true n 0 g.1)))
    (λ b. absurd (none p (rw (a, b) at e))))
    (λ a. by_test (eqb k 1)
    (λ b. has (Takes q n) p _ (rw (a, b) at e) (rw (eqb-true k 1 b)))
    (λ b. by_test (eqb k 2)
    (λ d. by_test (eqb q 0)
    (λ g. has (Loads n) p _ (rw (a, b, d, g) at e) (rw (eqb-true k 2 d, eqb-true q 0 g)))
    (λ g. absurd (none p (rw (a, b, d, g) at e))))
    (λ d. by_test (eqb k 3)
    (λ g. has (Sends q n) p _ (rw (a, b, d, g) at e) (rw (eqb-true k 3 g)))
    (λ g. absurd (none p (rw (a, b, d, g) at e))))))

pub point_state : PointState
point_state t p e = numbers_state t.point t.page t.left p e

pub stays_module : StaysModule
unfolding built
stays_module Waits f m room e =
    let k = waits_fit f m room Waits refl e in
    let s = commanded_stays m f k.1.0 in
    (s.0, (s.1, omega arith))
stays_module (Takes p n) f m room e =
    let k = takes_fit f m room (Takes p n) p n refl e in
    let h : p < 128 = omega (arith, k.0, k.1.0) in
    by_test (eqb n 1)
    (λ t. rw t (refl, (page_set_long p m f h k.1.1.0 k.1.1.1.0, omega arith)))
    (λ t. let y = eqb-false n 1 t in rw t (spans (suc p) (n - 1) 128 (omega (arith, k.0)) (omega (arith, k.0, k.1.0)), (page_set_long p m f h k.1.1.0 k.1.1.1.0, omega arith)))
stays_module (Loads n) f m room e =
    let w = fits (Loads n) f m room e in
    let g = both (leb 1 n) (leb n 4) w.point in
    let a = leb-true 1 n g.0 in
    let b = leb-true n 4 g.1 in
    by_test (eqb n 1)
    (λ t. rw t (refl, (w.flash, omega arith)))
    (λ t. let y = eqb-false n 1 t in rw t (rw (le-leb 1 (n - 1) (omega (arith, a, y)), le-leb (n - 1) 4 (omega (arith, b))), (w.flash, omega arith)))
stays_module (Sends p n) f m room e =
    let k = sends_fit f m room (Sends p n) p n refl e in
    let h : p < 129 = omega (arith, k.0, k.1.0) in
    let l = page_long p f k.1.1.0 h in
    let short : length (response (Sends p n) f m).reply ≤ 256 = omega arith in
    by_test (eqb n 1)
    (λ t. rw t (refl, (k.1.1.0, short)))
    (λ t. let y = eqb-false n 1 t in rw t (spans (suc p) (n - 1) 129 (omega (arith, k.0)) (omega (arith, k.0, k.1.0)), (k.1.1.0, short)))

-- the number that a step gives at a point
number_at : (p : ModulePoint) (t : RadioTarget) (f m : List ℕ) (room : ℕ)
    → (found_stepped (Some p) t f m room).number ≡ message_refusal p f m room
number_at p t f m room =
    by_test (eqb (message_refusal p f m room) 0) (λ e. rw e (sym (eqb-true (message_refusal p f m room) 0 e))) (λ e. rw e)

-- 26, 0 or 28 are not 17
other_number : (x y : Bool) → ◌≡◌ {A = ℕ} (cond x 26 (cond y 0 28)) 17 → ⊥
other_number true y e = omega arith
other_number false true e = omega arith
other_number false false e = omega arith

-- a point that there is, over a flash of its length, is never refused by 17
there : (p : ModulePoint) (f m : List ℕ) (room : ℕ) → is_point p ≡ true → length f ≡ 33024 → message_refusal p f m room ≡ 17 → ⊥
unfolding message_refusal
there p f m room h w e = other_number (ltb room 256) (is_taken p m) (rw (eq-eqb (length f) 33024 w, h) at e)

never_after : (q : Option ModulePoint) (t : RadioTarget) (f m : List ℕ) (room : ℕ) → (found_stepped q t f m room).number ≡ 0 → (n : List ℕ) (space : ℕ)
    → (radio_stepped (found_stepped q t f m room).target (found_stepped q t f m room).flash n space).number ≡ 17 → ⊥
unfolding radio_stepped
never_after None t f m room e n space x = let z : ◌≡◌ {A = ℕ} 17 0 = e in omega arith
never_after (Some p) t f m room e n space x =
    let z : message_refusal p f m room ≡ 0 = sym (number_at p t f m room) ∙ e in
    let s = stays_module p f m room z in
    let g = (response p f m).flash in
    let q = (response p f m).point in
    let y : (found_stepped (module_point (module_state q)) (module_state q) g n space).number ≡ 17 = rw (eq-eqb (message_refusal p f m room) 0 z) at x in
    let u : (found_stepped (Some q) (module_state q) g n space).number ≡ 17 = rw (point_back q) at y in
    there q g n space s.0 s.1.0 (sym (number_at q (module_state q) g n space) ∙ u)

pub never_lost : NeverLost
unfolding radio_stepped
never_lost t f m room e n space x = never_after (module_point t) t f m room e n space x

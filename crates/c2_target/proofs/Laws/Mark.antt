-- A mark stays for good: a target without one had none before.
use mathlib.Core.Path.{◌≡◌, sym, ◌∙◌}
use mathlib.Core.Bool.{Bool, true, false, ◌||◌}
use mathlib.Core.List.{List, [], ◌∷◌}
use Prim.Native.Nat.{ℕ}
use lib.Dec.{eqb}
use Rattle.laws.proofs.Tests.{by_test}
use Rattle.c2_wire.specs.Step.{Step, released, driven, reset, pause, off, drives}
use Rattle.c2_target.specs.declared.Point.{Point}
use Rattle.c2_target.specs.declared.Point.TheVariants.{Start, Ins, WriteLength, ReadLength, Address, Data, LongData, Wait, Waiting, Send, Stop}
use Rattle.c2_target.specs.declared.Target.{Target}
use Rattle.c2_target.specs.Delays.{Setup}
use Rattle.c2_target.specs.Strobes.{marked, strobed_at}
use Rattle.c2_target.specs.Target.{after_reset, after_pause, step_coded, stepped, step_refusal, answer, flash_after}
use Rattle.c2_target.specs.Steps.{left_by}
use Rattle.c2_target.specs.Claims.{MarkStays}
use Rattle.c2_target.proofs.Laws.KnownPoint.{not_both}

neither : (a b : Bool) → (a || b) ≡ false → b ≡ false
neither true b e = absurd (not_both (sym e))
neither false b e = e

strobe_unmarked : (u : Setup) (p : Point) (t : Target) (f : List ℕ) (x : Step) → (strobed_at u p t f x).target.collision ≡ false → t.collision ≡ false
unfolding strobed_at marked
strobe_unmarked u Start t f x h = neither (drives x) t.collision h
strobe_unmarked u (Ins n v) t f x h = h
strobe_unmarked u (WriteLength n v) t f x h = h
strobe_unmarked u (ReadLength n v) t f x h = h
strobe_unmarked u (Address n v) t f x h = h
strobe_unmarked u (Data n v) t f x h = h
strobe_unmarked u (LongData n) t f x h = h
strobe_unmarked u (Wait n e) t f x h = neither (drives x) t.collision h
strobe_unmarked u (Waiting z n e) t f x h = neither (drives x) t.collision h
strobe_unmarked u (Send n v e) t f x h = neither (drives x) t.collision h
strobe_unmarked u (Stop e) t f x h = neither (drives x) t.collision h

pub step_unmarked : (u : Setup) (t : Target) (f : List ℕ) (x : Step) → (stepped u t f x).target.collision ≡ false → t.collision ≡ false
unfolding stepped after_reset after_pause
step_unmarked u t f released h = strobe_unmarked u t.point t f released h
step_unmarked u t f (driven b) h = strobe_unmarked u t.point t f (driven b) h
step_unmarked u t f reset h = h
step_unmarked u t f pause h = h
step_unmarked u t f off h = h

pub answer_unmarked : (u : Setup) (t : Target) (f : List ℕ) (x : ℕ) → (answer u t f x).target.collision ≡ false → t.collision ≡ false
unfolding answer
answer_unmarked u t f x h = by_test (eqb (step_refusal u t f x) 0) (λ e. step_unmarked u t f (step_coded x) (rw e at h)) (λ e. rw e at h)

answer_marked : (u : Setup) (t : Target) (f : List ℕ) (x : ℕ) → t.collision ≡ true → (answer u t f x).target.collision ≡ true
answer_marked u t f x h =
    by_test (answer u t f x).target.collision (λ e. e) (λ e. absurd (not_both (sym (answer_unmarked u t f x e) ∙ h)))

pub mark_stays : MarkStays
unfolding left_by
mark_stays u t f [] h = h
mark_stays u t f (x ∷ xs) h = mark_stays u (answer u t f x).target (flash_after u t f x) xs (answer_marked u t f x h)

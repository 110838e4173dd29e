-- `radio_image::shared` meets its contract: where the other slice ends or the bytes differ, no more are shared.
use Rattle.std.proofs.Common.{◌≡◌, ℕ, ◌+◌, List, [], ◌∷◌, refl, drop, arith, drop_of_length-le}
use Rattle.std.proofs.lemmas.Grind.{common_steps}
use Rattle.radio_job.specs.Job.{shared}
use Rattle.radio_image.proofs.shared.Goals as goal
use Rattle.radio_image.proofs.shared.Goals.{then-b-i-via-then-b-i, then-b-i-via-else-b-i+then-x-b}

shared_none : (xs : List ℕ) → shared xs [] ≡ 0
unfolding shared
shared_none [] = refl
shared_none (x ∷ xs) = refl

over : (a b : List ℕ) (i : ℕ) → drop i b ≡ [] → shared a b ≡ i + shared (drop i a) (drop i b) → i ≡ shared a b
over a b i e q = let none : shared (drop i a) (drop i b) ≡ 0 = rw e (shared_none (drop i a)) in omega (arith, q, none)

pub returns-then-b-i : goal.returns-then-b-i
unfolding shared
returns-then-b-i c =
    elim c.then-b-i.branch [
      | then-b-i-via-then-b-i w ↦ over _ _ _ (drop_of_length-le _ w.if-b-i.true) c.loop-i.invariant.so_far
      | then-b-i-via-else-b-i+then-x-b w ↦ grind (arith, common_steps)
    ]

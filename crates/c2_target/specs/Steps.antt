-- Steps in a row to a target, with no exchange: its own replies to them, and the target and its flash
-- afterwards. In C, over the target's state, these are `replies` and `bench_after` of c2_whole.
use Rattle.std.specs.Prelude.{List, [], ◌∷◌, ℕ}
use Rattle.c2_target.specs.declared.Target.{Target}
use Rattle.c2_target.specs.Delays.{Setup}
use Rattle.c2_target.specs.Target.{answer, flash_after}

-- the target's own replies to steps in a row
unfoldable pub own_replies : Setup → Target → List ℕ → (steps : List ℕ) → List ℕ
own_replies u t f [] = []
own_replies u t f (x ∷ xs) = (answer u t f x).reply ∷ own_replies u (answer u t f x).target (flash_after u t f x) xs

-- A target and its flash.
pub record State : Type 0 where
  pub target : Target
  pub flash : List ℕ

-- the target and its flash after steps in a row
unfoldable pub left_by : Setup → Target → List ℕ → (steps : List ℕ) → State
left_by u t f [] = record { target = t; flash = f }
left_by u t f (x ∷ xs) = left_by u (answer u t f x).target (flash_after u t f x) xs

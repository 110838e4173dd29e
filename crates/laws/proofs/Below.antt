-- What two functions give below a bound: one computed list for each, and equal at every number where the
-- lists are.
use mathlib.Core.Path.{◌≡◌}
use mathlib.Core.List.{List, [], ◌∷◌}
use Prim.Native.Nat.{ℕ, zero, suc, ◌<◌}
use native.Mathlib.Nat.{not-suc-le-zero}
use native.Mathlib.Omega.{arith}
use native.Mathlib.Decide.{dec_lt}

abbrev pub upto : {A : Type 0} → (ℕ → A) → ℕ → List A
upto f zero = []
upto f (suc n) = f n ∷ upto f n

pub same_below : {A : Type 0} (f g : ℕ → A) (n : ℕ) → upto f n ≡ upto g n → (i : ℕ) → i < n → f i ≡ g i
same_below f g zero e i h = absurd (not-suc-le-zero h)
same_below f g (suc n) e i h = go (dec_lt i n) (same_below f g n (cc) i)
  where
    go : Dec (i < n) → (i < n → f i ≡ g i) → f i ≡ g i
    go (yes y) k = k y
    go (no y) k = let p : i ≡ n = omega arith in rw p (cc)

-- a fact of every number below a bound, one by one
abbrev pub Each : (ℕ → Type 0) → ℕ → Type 0
Each P zero = Unit {0}
Each P (suc n) = P n × Each P n

pub each_below : (P : ℕ → Type 0) (n : ℕ) → Each P n → (i : ℕ) → i < n → P i
each_below P zero e i h = absurd (not-suc-le-zero h)
each_below P (suc n) e i h = go (dec_lt i n) (each_below P n e.1 i)
  where
    go : Dec (i < n) → (i < n → P i) → P i
    go (yes y) k = k y
    go (no y) k = let p : i ≡ n = omega arith in rw p e.0

-- Laws of tests taken apart.
use mathlib.Core.Path.{◌≡◌, refl}
use mathlib.Core.Bool.{Bool, true, false, cond, ◌&&◌}
use Prim.Native.Nat.{ℕ, ◌<◌}
use native.Mathlib.Omega.{arith}

-- a refusal by number that is 0 has passed its first test
pub passes : (t : Bool) (x k : ℕ) → 0 < k → cond t x k ≡ 0 → (t ≡ true) × (x ≡ 0)
passes true x k h e = (refl, e)
passes false x k h e = absurd (omega arith)

pub both : (a b : Bool) → a && b ≡ true → (a ≡ true) × (b ≡ true)
both true b e = (refl, e)
both false b e = absurd (let z : ◌≡◌ {A = ℕ} 0 1 = cc in omega arith)

-- a fact that holds whichever way a test goes
pub by_test : {A : Type 0} (t : Bool) → (t ≡ true → A) → (t ≡ false → A) → A
by_test true f g = f refl
by_test false f g = g refl

-- a test that a false branch could not have passed
pub not_first : (t x : Bool) → cond t false x ≡ true → (t ≡ false) × (x ≡ true)
not_first true x e = absurd (let z : ◌≡◌ {A = ℕ} 0 1 = cc in omega arith)
not_first false x e = (refl, e)

pub not_second : (t x : Bool) → cond t x false ≡ true → (t ≡ true) × (x ≡ true)
not_second true x e = (refl, e)
not_second false x e = absurd (let z : ◌≡◌ {A = ℕ} 0 1 = cc in omega arith)

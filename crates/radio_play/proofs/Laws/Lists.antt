-- Lists that are joined, read and set in the second.
use mathlib.Core.Path.{◌≡◌, ap}
use mathlib.Core.List.{List, [], ◌∷◌, ◌++◌}
use Prim.Native.Nat.{ℕ, zero, suc, ◌+◌}
use native.Mathlib.Omega.{arith}
use lib.ListN.{length, get_or, set}

pub get_second : (xs ys : List ℕ) (j k : ℕ) → j ≡ length xs + k → get_or (xs ++ ys) j 0 ≡ get_or ys k 0
get_second [] ys j k e = let z : j ≡ k = omega arith in rw z
get_second (x ∷ xs) ys zero k e = absurd (let z : zero ≡ suc (length xs) + k = e in omega arith)
get_second (x ∷ xs) ys (suc j) k e = let z : suc j ≡ suc (length xs) + k = e in get_second xs ys j k (omega arith)

pub set_second : (xs ys : List ℕ) (j k v : ℕ) → j ≡ length xs + k → set (xs ++ ys) j v ≡ xs ++ set ys k v
set_second [] ys j k v e = let z : j ≡ k = omega arith in rw z
set_second (x ∷ xs) ys zero k v e = absurd (let z : zero ≡ suc (length xs) + k = e in omega arith)
set_second (x ∷ xs) ys (suc j) k v e =
    let z : suc j ≡ suc (length xs) + k = e in ap (λ (t : List ℕ). x ∷ t) (set_second xs ys j k v (omega arith))

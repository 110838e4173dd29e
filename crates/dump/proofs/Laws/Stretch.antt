-- Laws of stretches that grow by a byte: what the loops over bytes keep.
use mathlib.Core.Path.{◌≡◌, ap}
use mathlib.Core.List.{List}
use mathlib.Core.Logic.{by_cases}
use Prim.Native.Nat.{ℕ, ◌+◌, ◌-◌, ◌<◌, ◌≤◌}
use native.Mathlib.Omega.{arith}
use native.Mathlib.Decide.{dec_lt}
use lib.ListN.{take, drop, get_or}
use lib.Seq.{get_or-take, get_or-drop}
use Rattle.dump.specs.Code.Stretch.{Equal}

pub every_more : (P : ℕ → Type 0) (from i : ℕ) → ((k : ℕ) → from ≤ k → k < i → P k) → P i → (k : ℕ) → from ≤ k → k < i + 1 → P k
every_more P from i f p k h l = by_cases (dec_lt k i) (λ y. f k h y) (λ n. let e : k ≡ i = omega arith in rw e p)

pub equal_more : (a b : List ℕ) (from i : ℕ) → Equal a b from i → get_or a i 0 ≡ get_or b i 0 → Equal a b from (i + 1)
equal_more a b from i f p = every_more (λ k. get_or a k 0 ≡ get_or b k 0) from i f p

-- a part that is equal as a whole
pub equal_part : (a b : List ℕ) (from i n : ℕ) → Equal a b from i → take (i + n - i) (drop i a) ≡ take (i + n - i) (drop i b)
    → Equal a b from (i + n)
equal_part a b from i n f e k h l = by_cases (dec_lt k i) (λ y. f k h y) here
  where
    here : (k < i → ⊥) → get_or a k 0 ≡ get_or b k 0
    here y =
        let j : k - i < i + n - i = omega arith in
        let q : i + (k - i) ≡ k = omega arith in
        let p = ap (λ (s : List ℕ). get_or s (k - i) 0) e in
        let t = get_or-take (i + n - i) (drop i a) (k - i) 0 j in
        let u = get_or-take (i + n - i) (drop i b) (k - i) 0 j in
        rw (t, u, get_or-drop i a (k - i) 0, get_or-drop i b (k - i) 0, q) at p

-- Equal stretches in a row are one; so the first difference behind them is the first one of all.
pub equal_join : (a b : List ℕ) (from to next : ℕ) → Equal a b from to → Equal a b to next → Equal a b from next
equal_join a b from to next f g k h l = by_cases (dec_lt k to) (λ y. f k h y) (λ y. g k (omega arith) l)

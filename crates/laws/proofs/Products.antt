-- Bounds on products and powers.
use mathlib.Core.Path.{◌≡◌, subst⁻¹}
use Prim.Native.Nat.{ℕ, ◌+◌, ◌*◌, ◌%◌, ◌^◌, ◌<◌, ◌≤◌}
use native.Mathlib.Nat.{lt_of_le_of_lt, le_of_lt, mul-le-mul_left, mul-lt-mul_of_pos_right, mod-eq_of_lt, pow-le-pow_right}
use native.Mathlib.Omega.{arith}
use lib.Pow.{pow_pos, pow-add}

-- the product of a number of k bits and one of m bits has at most k + m bits
pub product_below : (k m : ℕ) {a b : ℕ} → a < 2 ^ k → b < 2 ^ m → a * b < 2 ^ (k + m)
product_below k m {a} {b} ha hb =
    subst⁻¹ (λ (n : ℕ). a * b < n) (pow-add 2 k m) (lt_of_le_of_lt (mul-le-mul_left a (le_of_lt hb)) (mul-lt-mul_of_pos_right ha (pow_pos m)))

-- a power of two of up to eight bits fits 64 bits
pub power_fits : (n : ℕ) → n ≤ 8 → (1 * 2 ^ n) % 18446744073709551616 ≡ 2 ^ n
power_fits n h =
    let b = pow-le-pow_right {n = 2} (omega arith) {i = n} {j = 8} h in
    let e : 1 * 2 ^ n ≡ 2 ^ n = omega arith in
    rw e (mod-eq_of_lt (omega (arith, b)))

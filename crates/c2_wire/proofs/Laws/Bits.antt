-- Laws of bits and numbers, over the width.
use mathlib.Core.Path.{◌≡◌, refl, sym, ap, ◌∙◌}
use mathlib.Core.Bool.{Bool, true, false}
use mathlib.Core.List.{List, [], ◌∷◌, ◌++◌}
use Prim.Native.Nat.{ℕ, zero, suc, ◌+◌, ◌*◌, ◌/◌, ◌%◌, ◌^◌, ◌≤◌, ◌<◌}
use native.Mathlib.Omega.{arith}
use native.Mathlib.Nat.{pow-suc, pow-succ', div-one, div-div-eq-div-mul, not-suc-le-zero, pow-le-pow_right}
use lib.Dec.{eqb}
use lib.ListN.{length, get_or, take, drop}
use Rattle.laws.specs.Bytes.{Bytes}
use Rattle.c2_wire.specs.Bits.{odd, bits, bit, number}

pub bit_odd : (a : ℕ) → bit (odd a) ≡ a % 2
unfolding bit odd
bit_odd a = go (a % 2) (omega arith)
  where
    go : (m : ℕ) → m < 2 → bit (eqb m 1) ≡ m
    go zero h = refl
    go (suc zero) h = refl
    go (suc (suc m)) h = omega arith

pub bit_small : (b : Bool) → bit b ≤ 1
unfolding bit
bit_small false = omega arith
bit_small true = omega arith

pub length_bits : (n a : ℕ) → length (bits n a) ≡ n
unfolding bits
length_bits zero a = refl
length_bits (suc n) a = ap suc (length_bits n (a / 2))

-- the bits of a number, put together again
pub number_bits : (n a : ℕ) → a < 2 ^ n → number (bits n a) ≡ a
unfolding bits number
number_bits zero a h = omega arith
number_bits (suc n) a h = omega (arith, bit_odd a, number_bits n (a / 2) (omega (arith, pow-suc 2 n)))

-- a number of n bits is below 2 ^ n
pub number_small : (bs : List Bool) → number bs < 2 ^ length bs
unfolding number bit
number_small [] = omega arith
number_small (b ∷ bs) = omega (arith, bit_small b, number_small bs, pow-suc 2 (length bs))

-- one bit more, above the others, adds its power of two
pub number_snoc : (bs : List Bool) (b : Bool) → number (bs ++ b ∷ []) ≡ number bs + bit b * 2 ^ length bs
unfolding number bit
number_snoc [] b = omega arith
number_snoc (c ∷ bs) b =
    let h : bit b * 2 ^ suc (length bs) ≡ 2 * (bit b * 2 ^ length bs) = doubled b (length bs) in
    omega (arith, number_snoc bs b, h)
  where
    doubled : (b : Bool) (n : ℕ) → bit b * 2 ^ suc n ≡ 2 * (bit b * 2 ^ n)
    doubled false n = omega arith
    doubled true n = omega (arith, pow-suc 2 n)

-- the bit at a place
pub bits_at : (n a i : ℕ) → i < n → get_or (bits n a) i false ≡ odd (a / 2 ^ i)
unfolding bits
bits_at zero a i h = absurd (not-suc-le-zero h)
bits_at (suc n) a zero h = ap odd (sym (div-one a))
bits_at (suc n) a (suc i) h = bits_at n (a / 2) i (omega arith) ∙ ap odd (div-div-eq-div-mul a 2 (2 ^ i) ∙ ap (λ (m : ℕ). a / m) (sym (pow-succ' 2 i)))

-- the value of a bit of a byte
pub weight_small : (i : ℕ) → i < 8 → 2 ^ i ≤ 128
weight_small i h = pow-le-pow_right {n = 2} (omega arith) {i = i} {j = 7} (omega arith)

-- parts of bytes are bytes
pub bytes_take : (n : ℕ) (bs : List ℕ) → Bytes bs → Bytes (take n bs)
bytes_take zero bs h = tt
bytes_take (suc n) [] h = tt
bytes_take (suc n) (b ∷ bs) h = (h.0, bytes_take n bs h.1)

pub bytes_drop : (n : ℕ) (bs : List ℕ) → Bytes bs → Bytes (drop n bs)
bytes_drop zero bs h = h
bytes_drop (suc n) [] h = tt
bytes_drop (suc n) (b ∷ bs) h = bytes_drop n bs h.1

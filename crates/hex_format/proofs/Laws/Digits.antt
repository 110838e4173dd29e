-- Laws of digits and of the bytes that they stand for.
use mathlib.Core.Path.{◌≡◌, refl, ap}
use mathlib.Core.List.{List, [], ◌∷◌}
use Prim.Native.Nat.{ℕ, zero, suc, ◌+◌, ◌*◌, ◌<◌}
use native.Mathlib.Omega.{arith}
use lib.ListN.{length, get_or}
use Rattle.laws.specs.Bytes.{Bytes}
use Rattle.hex_format.specs.Digits.{digit, octet, octets}

-- the bytes of digits: how many, and each by its place
pub octets_length : (s : List ℕ) (n : ℕ) → length s ≡ 2 * n → length (octets s) ≡ n
unfolding octets
octets_length [] n h = omega arith
octets_length (a ∷ []) n h = absurd (omega arith)
octets_length (a ∷ b ∷ s) zero h = absurd (omega arith)
octets_length (a ∷ b ∷ s) (suc n) h = ap suc (octets_length s n (omega arith))

pub octets_at : (s : List ℕ) (i : ℕ) → 2 * i + 1 < length s → get_or (octets s) i 0 ≡ octet (get_or s (2 * i) 0) (get_or s (2 * i + 1) 0)
unfolding octets
octets_at [] i h = absurd (omega arith)
octets_at (a ∷ []) i h = absurd (omega arith)
octets_at (a ∷ b ∷ s) zero h = refl
octets_at (a ∷ b ∷ s) (suc i) h =
    let p : 2 * suc i ≡ suc (suc (2 * i)) = omega arith in
    let q : suc (suc (2 * i)) + 1 ≡ suc (suc (2 * i + 1)) = omega arith in
    rw (p, q) (octets_at s i (omega arith))

-- the byte of two digits is a byte
pub octet_byte : (high low : ℕ) → octet high low < 256
unfolding octet
octet_byte high low = omega arith

pub octets_bytes : (s : List ℕ) → Bytes (octets s)
unfolding octets
octets_bytes [] = tt
octets_bytes (a ∷ []) = tt
octets_bytes (a ∷ b ∷ s) = (octet_byte a b, octets_bytes s)

-- digits below 16 give the byte with no remainder to take
pub octet_is : (high low : ℕ) → digit high < 16 → digit low < 16 → octet high low ≡ digit high * 16 + digit low
unfolding octet
octet_is high low h l = omega arith

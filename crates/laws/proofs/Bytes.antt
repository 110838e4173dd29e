-- A list is bytes if each of its numbers is one, and each of its numbers is one if it is bytes.
use mathlib.Core.List.{List, [], ◌∷◌}
use Prim.Native.Nat.{ℕ, zero, suc, ◌<◌}
use native.Mathlib.Omega.{arith}
use lib.ListN.{get_or}
use Rattle.laws.specs.Bytes.{Bytes}

pub bytes_all : (xs : List ℕ) → ((i : ℕ) → get_or xs i 0 < 256) → Bytes xs
bytes_all [] h = tt
bytes_all (x ∷ xs) h = (h 0, bytes_all xs (λ i. h (suc i)))

-- a byte of a list of bytes, or the 0 past its end, is below 256
pub getD_byte : (xs : List ℕ) (i : ℕ) → Bytes xs → get_or xs i 0 < 256
getD_byte [] i h = omega arith
getD_byte (x ∷ xs) zero h = h.0
getD_byte (x ∷ xs) (suc i) h = getD_byte xs i h.1

-- Bits and numbers. All fields of a frame go lowest bit first.
use Rattle.std.specs.Prelude.{Bool, true, false, List, [], ◌∷◌, ℕ, zero, suc, ◌+◌, ◌*◌, ◌/◌, ◌%◌, eqb}

unfoldable pub odd : ℕ → Bool
odd n = eqb (n % 2) 1

-- the lowest bits of a number, as many as the width, lowest first
unfoldable pub bits : (width : ℕ) → ℕ → List Bool
bits zero a = []
bits (suc n) a = odd a ∷ bits n (a / 2)

-- a bit as a number
unfoldable pub bit : Bool → ℕ
bit false = 0
bit true = 1

-- the number of these bits, lowest first
unfoldable pub number : List Bool → ℕ
number [] = 0
number (b ∷ bs) = bit b + 2 * number bs

-- Hex digits, and the bytes that they stand for (document 02, a). Characters are bytes: '0' is 48, 'A' 65,
-- 'a' 97.
use Rattle.std.specs.Prelude.{Bool, true, cond, ◌&&◌, List, [], ◌∷◌, ℕ, ◌+◌, ◌-◌, ◌*◌, ◌/◌, ◌%◌, ltb}

-- the value of a digit of either case; 16 for a character that is none
unfoldable pub digit : ℕ → ℕ
digit a =
    cond (ltb a 48) 16
    (cond (ltb a 58) (a - 48)
    (cond (ltb a 65) 16 (cond (ltb a 71) (a - 55) (cond (ltb a 97) 16 (cond (ltb a 103) (a - 87) 16)))))

unfoldable pub all_digits : List ℕ → Bool
all_digits [] = true
all_digits (a ∷ s) = ltb (digit a) 16 && all_digits s

-- the byte of two digits, the high one first
unfoldable pub octet : (high low : ℕ) → ℕ
octet high low = digit high % 16 * 16 + digit low % 16

unfoldable pub octets : List ℕ → List ℕ
octets [] = []
octets (a ∷ []) = []
octets (a ∷ b ∷ s) = octet a b ∷ octets s

-- the character of a digit's value, upper case
unfoldable pub upper : ℕ → ℕ
upper n = cond (ltb n 10) (n + 48) (n + 55)

-- the digits of bytes
unfoldable pub text : List ℕ → List ℕ
text [] = []
text (b ∷ s) = upper (b / 16) ∷ upper (b % 16) ∷ text s

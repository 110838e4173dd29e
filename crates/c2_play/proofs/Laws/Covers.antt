-- Bytes that may be written without an erase: no bit has to be raised (request n).
use mathlib.Core.Path.{◌≡◌}
use mathlib.Core.List.{List, [], ◌∷◌}
use Prim.Native.Nat.{ℕ}
use lib.Bits.{bit_and}

-- Each new byte is written over an old one, as many: old AND new is new.
unfoldable pub Covers : (old new : List ℕ) → Type 0
Covers [] [] = Unit {0}
Covers [] (b ∷ bs) = ⊥
Covers (o ∷ os) [] = ⊥
Covers (o ∷ os) (b ∷ bs) = (bit_and o b ≡ b) × Covers os bs

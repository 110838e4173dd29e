-- For the code: the bytes of a record that a session leaves at 0, tested several at once. `as_checked` of
-- proofs/Laws/Spare is the law that a session read from a record passes these tests exactly where `checked`
-- takes it.
use Rattle.std.specs.Prelude.{Bool, false, cond, List, ℕ, ◌+◌, ◌*◌, eqb}
use Rattle.c2_record.specs.Record.{byte, two_bytes}

-- four bytes as one number
abbrev pub four : (a b c d : ℕ) → ℕ
four a b c d = a + b * 256 + c * 65536 + d * 16777216

-- whether the eight bytes from this one on are 0
unfoldable pub all_zero : List ℕ → ℕ → Bool
all_zero r i =
    cond (eqb (four (byte r i) (byte r (i + 1)) (byte r (i + 2)) (byte r (i + 3))) 0)
    (eqb (four (byte r (i + 4)) (byte r (i + 5)) (byte r (i + 6)) (byte r (i + 7))) 0) false

-- whether the fields not in use are 0: the offset of a session that runs, or the point of one that has ended
unfoldable pub unused : List ℕ → Bool
unused r = cond (eqb (byte r 7) 0) (eqb (two_bytes r 8) 0) (all_zero r 10)

-- whether the spare bytes, 28 to 31, are 0
unfoldable pub spare : List ℕ → Bool
spare r = eqb (four (byte r 28) (byte r 29) (byte r 30) (byte r 31)) 0

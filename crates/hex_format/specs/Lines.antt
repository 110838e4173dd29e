-- A line of an Intel HEX file by itself (document 02, a): a colon, the record's bytes in hex digits, LF or CR
-- LF. The record's bytes are length, address (two, the high one first), type, the data, and the checksum.
use Rattle.std.specs.Prelude.{Bool, false, cond, ◌&&◌, ◌||◌, List, [], ◌∷◌, ℕ, ◌+◌, ◌*◌, ◌%◌, leb, eqb, get_or, take, drop, Result, Ok, Err}
use Rattle.numbers.specs.declared.Refusal.{Refusal}
use Rattle.hex_format.specs.Digits.{octet, octets, all_digits}
use Rattle.numbers.specs.declared.Refusal.TheVariants.{BadLine, BadChecksum, BadHexRecord}
use Rattle.hex_format.specs.declared.Record.{Record}
use Rattle.hex_format.specs.declared.Record.TheVariants.{Data, Last}

-- the characters of a line
abbrev pub colon : ℕ
colon = 58

abbrev pub lf : ℕ
lf = 10

abbrev pub cr : ℕ
cr = 13

-- LF or CR LF
unfoldable pub is_end : List ℕ → Bool
is_end [] = false
is_end (a ∷ []) = eqb a lf
is_end (a ∷ b ∷ []) = eqb a cr && eqb b lf
is_end (a ∷ b ∷ d ∷ s) = false

-- the record's first byte: how many data bytes it has
unfoldable pub count : List ℕ → ℕ
count l = octet (get_or l 1 0) (get_or l 2 0)

-- the digits that this asks for: two for each data byte, and ten
abbrev pub digits : List ℕ → List ℕ
digits l = take (2 * count l + 10) (drop 1 l)

-- the line has a record's shape: the colon, so many digits, the line end, nothing else
unfoldable pub is_line : List ℕ → Bool
is_line l = eqb (get_or l 0 0) colon && (all_digits (digits l) && is_end (drop (2 * count l + 11) l))

unfoldable pub sum : List ℕ → ℕ
sum [] = 0
sum (a ∷ s) = a + sum s

-- the record's bytes, checksum included, add up to 0 with the sum kept to its low byte
unfoldable pub adds_up : List ℕ → Bool
adds_up l = eqb (sum (octets (digits l)) % 256) 0

unfoldable pub address : List ℕ → ℕ
address l = 256 * octet (get_or l 3 0) (get_or l 4 0) + octet (get_or l 5 0) (get_or l 6 0)

unfoldable pub kind : List ℕ → ℕ
kind l = octet (get_or l 7 0) (get_or l 8 0)

unfoldable pub data_of : List ℕ → List ℕ
data_of l = octets (take (2 * count l) (drop 9 l))

-- what a line is by itself: a record, or why it is refused
abbrev pub Line : Type 0
Line = Result Record Refusal

-- type 00 is data, none of it past the last flash byte; type 01 with length and address 0 is the end record
unfoldable pub kinded : (flash kind count address : ℕ) → Line
kinded flash kind count address =
    cond (eqb kind 0)
    (cond (eqb count 0 || leb (address + count) flash) (Ok (Data address count)) (Err BadHexRecord))
    (cond (eqb kind 1 && (eqb count 0 && eqb address 0)) (Ok Last) (Err BadHexRecord))

-- what a line is by itself, for a flash of so many bytes; the lowest number comes first
unfoldable pub judged_line : (flash : ℕ) → List ℕ → Line
judged_line flash l =
    cond (is_line l)
    (cond (adds_up l) (kinded flash (kind l) (count l) (address l)) (Err BadChecksum))
    (Err BadLine)

-- A line as the code finds it, at the front of what is left of a file. For the code alone: `lines_first` and
-- `shaped_is` of Shape in proofs/Laws/ join it to the lines of hex_format.
use Rattle.std.specs.Prelude.{ℕ, zero, suc, ◌+◌, ◌*◌, cond, ◌&&◌, List, [], ◌∷◌, length, drop, ◌==◌, slice_index}
use Rattle.hex_format.specs.Digits.{all_digits}
use Rattle.hex_format.specs.Lines.{colon, lf, cr, count, digits, is_line, Line, judged_line}

-- the first line of a file, up to its LF
unfoldable pub first_line : List ℕ → List ℕ
first_line [] = []
first_line (b ∷ s) = cond (b == lf) (b ∷ []) (b ∷ first_line s)

-- what that line is, and its length, 0 where it has no record's shape
pub record Judgement : Type 0 where
  pub line : Line
  pub bytes : ℕ

abbrev pub judgement : Line → ℕ → Judgement
judgement line bytes = record { line = line; bytes = bytes }

unfoldable pub judgement_at : (flash : ℕ) → List ℕ → Judgement
judgement_at flash s = judgement (judged_line flash (first_line s)) (cond (is_line (first_line s)) (length (first_line s)) 0)

-- the length of the line end at the front, or 0
unfoldable pub line_end : List ℕ → ℕ
line_end [] = 0
line_end (a ∷ s) = cond (a == lf) 1 (cond (a == cr && slice_index s 0 == lf) 2 0)

unfoldable pub ended_by : (end : ℕ) → ℕ → ℕ
ended_by end zero = 0
ended_by end (suc n) = end + suc n

-- the length of a line of a record's shape at the front, or 0
unfoldable pub shaped : List ℕ → ℕ
shaped s =
    let end = 2 * count s + 11 in
    cond (slice_index s 0 == colon && all_digits (digits s)) (ended_by end (line_end (drop end s))) 0

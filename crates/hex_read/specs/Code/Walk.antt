-- What the code keeps while it judges the lines. For the code alone: a map, the first address set and the
-- address past the last one stand for the cells of hex_format; `walk_on`, `walk_stops` and `walk_ends` of
-- Judging in proofs/Laws/ join them to `lines_taken`.
use Rattle.std.specs.Prelude.{◌≡◌, cond, List, ℕ, ◌+◌, ◌≤◌, ◌<◌, eqb, length, get_or, Result, Ok, Err, unwrap_or}
use Rattle.numbers.specs.Numbers.{refusal_number}
use Rattle.numbers.specs.declared.Refusal.{Refusal}
use Rattle.hex_format.specs.declared.Record.TheVariants.{Data}
use Rattle.hex_format.specs.Lines.{Line, judged_line}
use Rattle.hex_format.specs.Reading.{unset, first_set, past_set, LineTaken, line_taken, LinesTaken}
use Rattle.hex_read.specs.declared.walk.Taken.{Taken}
use Rattle.hex_read.specs.declared.walk.Fault.{Fault}
use Rattle.hex_read.specs.Code.Map.{marked_at}

-- a map, a first address and one past the last that say what is set in cells
pub record MapFollows (map : List ℕ) (low high : ℕ) (cells : List ℕ) : Type 0 where
  pub marks : (k : ℕ) → k < length cells → marked_at map k ≡ cond (eqb (get_or cells k unset) unset) 0 1
  pub first : low ≡ first_set cells
  pub past : high ≡ past_set cells

-- a line's data lies in what the map covers
abbrev pub Within : Line → (most : ℕ) → Type 0
Within line most = (a n : ℕ) → line ≡ Ok (Data a n) → (n ≡ 0 → ⊥) → a + n ≤ most

-- what the code has after a line that it took, beside what the definition has
pub record TakesOn (map : List ℕ) (s : Taken) (t : LineTaken) : Type 0 where
  pub right : t.number ≡ 0
  pub same_end : s.ended ≡ t.ended
  pub follows : MapFollows map s.low s.high t.cells

abbrev pub Takes : (map : List ℕ) → Result Taken Refusal → LineTaken → Type 0
Takes map (Ok s) t = TakesOn map s t
Takes map (Err e) t = refusal_number e ≡ t.number

-- a line, beside the definition's for any cells that the map stands for
abbrev pub TakesLine : (old new : List ℕ) (line : Line) (before : Taken) → Result Taken Refusal → Type 0
TakesLine old new line before r =
    (cells l : List ℕ) → line ≡ judged_line (length cells) l → MapFollows old before.low before.high cells
    → Takes new r (line_taken before.ended cells l)

-- what the code has after all lines
pub record Walks (number line low high : ℕ) (w : LinesTaken) : Type 0 where
  pub same_number : number ≡ w.number
  pub same_line : line ≡ w.line
  pub first : number ≡ 0 → low ≡ first_set w.cells
  pub past : number ≡ 0 → high ≡ past_set w.cells

abbrev pub Walked : Result Taken Fault → LinesTaken → Type 0
Walked (Ok s) w = Walks 0 0 s.low s.high w
Walked (Err f) w = Walks (refusal_number f.refusal) (unwrap_or f.line 0) 0 0 w

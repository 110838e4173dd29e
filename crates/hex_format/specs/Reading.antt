-- Reading an Intel HEX file (document 02, a): its lines, what they set one after the other, and the image of
-- the touched pages.
use Rattle.std.specs.Prelude.{Bool, true, false, cond, ◌&&◌, List, [], ◌∷◌, ◌++◌, ℕ, suc, ◌+◌, ◌-◌, ◌*◌, ◌/◌, ltb, eqb, length, take, drop, replicate, Ok, Err}
use Rattle.std.proofs.lemmas.List.Edits.{sets}
use Rattle.numbers.specs.Numbers.{refusal_number, set_twice, no_end_record, no_data, buffer_too_small}
use Rattle.settings.specs.Accepted.{settings_refusal}
use Rattle.settings.specs.declared.Settings.{Settings}
use Rattle.hex_format.specs.declared.Record.TheVariants.{Data, Last}
use Rattle.hex_format.specs.Lines.{lf, Line, judged_line, data_of}

-- A file's lines, each with its LF. What follows the last LF is a line without one.
unfoldable pub joined_line : ℕ → List (List ℕ) → List (List ℕ)
joined_line b [] = (b ∷ []) ∷ []
joined_line b (l ∷ ls) = (b ∷ l) ∷ ls

unfoldable pub lines : List ℕ → List (List ℕ)
lines [] = []
lines (b ∷ s) = cond (eqb b lf) ((b ∷ []) ∷ lines s) (joined_line b (lines s))

-- What is set so far: a cell for each byte of the flash, which holds the byte, or `unset`.
abbrev pub unset : ℕ
unset = 256

unfoldable pub all_unset : List ℕ → Bool
all_unset [] = true
all_unset (a ∷ cells) = eqb a unset && all_unset cells

-- after a line: its number or 0, whether the end record has been, what is set
pub record LineTaken : Type 0 where
  pub number : ℕ
  pub ended : Bool
  pub cells : List ℕ

abbrev pub took : ℕ → Bool → List ℕ → LineTaken
took number ended cells = record { number = number; ended = ended; cells = cells }

-- data: no byte of it was set before, and no end record has been
unfoldable pub placed : (ended : Bool) (cells : List ℕ) (address count : ℕ) → List ℕ → LineTaken
placed ended cells a n bytes =
    cond (all_unset (take n (drop a cells)))
    (cond ended (took no_end_record ended cells) (took 0 ended (sets cells a bytes)))
    (took set_twice ended cells)

unfoldable pub taken_as : (ended : Bool) (cells line : List ℕ) → Line → LineTaken
taken_as ended cells l (Err e) = took (refusal_number e) ended cells
taken_as ended cells l (Ok (Data a n)) = placed ended cells a n (data_of l)
taken_as ended cells l (Ok Last) = took (cond ended no_end_record 0) true cells

unfoldable pub line_taken : (ended : Bool) (cells line : List ℕ) → LineTaken
line_taken ended cells l = taken_as ended cells l (judged_line (length cells) l)

-- after all lines: the first faulty line's number and which line it is, or the number of a missing end, or 0;
-- what is set
pub record LinesTaken : Type 0 where
  pub number : ℕ
  pub line : ℕ
  pub cells : List ℕ

abbrev pub ended_with : ℕ → ℕ → List ℕ → LinesTaken
ended_with number line cells = record { number = number; line = line; cells = cells }

-- the fold over the lines, `before` of which have been
unfoldable pub lines_taken : (before : ℕ) (ended : Bool) (cells : List ℕ) → List (List ℕ) → LinesTaken
lines_taken before ended cells [] = ended_with (cond ended 0 no_end_record) 0 cells
lines_taken before ended cells (l ∷ ls) =
    let t = line_taken ended cells l in
    elim (eqb t.number 0) [
      | true ↦ lines_taken (before + 1) t.ended t.cells ls
      | false ↦ ended_with t.number (before + 1) t.cells
    ]

-- The first address that is set (the length if none is), and the address past the last one (0 if none is).
unfoldable pub first_set : List ℕ → ℕ
first_set [] = 0
first_set (a ∷ cells) = cond (eqb a unset) (suc (first_set cells)) 0

unfoldable pub past_set : List ℕ → ℕ
past_set [] = 0
past_set (a ∷ cells) = cond (all_unset (a ∷ cells)) 0 (suc (past_set cells))

-- the image's byte of a cell: 0xFF where nothing is set
unfoldable pub cell_byte : ℕ → ℕ
cell_byte a = cond (ltb a unset) a 0xff

unfoldable pub bytes : List ℕ → List ℕ
bytes [] = []
bytes (a ∷ cells) = cell_byte a ∷ bytes cells

-- the answer: number, faulty line, first page and image
pub record Answer : Type 0 where
  pub number : ℕ
  pub line : ℕ
  pub first : ℕ
  pub image : List ℕ

abbrev pub refused : (number line : ℕ) → Answer
refused number line = record { number = number; line = line; first = 0; image = [] }

-- the bytes from one address to another, if the buffer has room for them
unfoldable pub copied : (page start stop room : ℕ) → List ℕ → Answer
copied page start stop room cells =
    cond (ltb room (stop - start)) (refused buffer_too_small 0)
    (record { number = 0; line = 0; first = page; image = bytes (take (stop - start) (drop start cells)) })

-- the pages from the first touched one to the last
unfoldable pub cut_out : (size room : ℕ) → List ℕ → Answer
cut_out size room cells =
    let page = first_set cells / size in
    let last = (past_set cells - 1) / size in
    cond (all_unset cells) (refused no_data 0) (copied page (page * size) (last * size + size) room cells)

unfoldable pub read_answer : (size room : ℕ) → LinesTaken → Answer
read_answer size room w = cond (eqb w.number 0) (cut_out size room w.cells) (refused w.number w.line)

-- the settings are tested first
unfoldable pub hex_read : Settings → (room : ℕ) (file : List ℕ) → Answer
hex_read s room file =
    cond (eqb (settings_refusal s) 0)
    (read_answer s.size room (lines_taken 0 false (replicate (s.size * s.count) unset) (lines file)))
    (refused (settings_refusal s) 0)

-- What the caller gets: the answer in numbers, and the buffer, with the image at its front and every other
-- byte as it was.
pub record ReadingDone : Type 0 where
  pub number : ℕ
  pub line : ℕ
  pub first : ℕ
  pub bytes : ℕ
  pub buffer : List ℕ

abbrev pub reading_done : (number line first bytes : ℕ) → List ℕ → ReadingDone
reading_done number line first bytes buffer = record { number = number; line = line; first = first; bytes = bytes; buffer = buffer }

unfoldable pub image_in_buffer : Answer → List ℕ → ReadingDone
image_in_buffer a old = reading_done a.number a.line a.first (length a.image) (a.image ++ drop (length a.image) old)

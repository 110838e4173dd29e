-- What is claimed of Intel HEX files beyond one call (document 02, a). Types alone: `Claims` in
-- proofs/Laws/ proves each, and `Decided` the last.
use Rattle.std.specs.Prelude.{◌≡◌, true, false, List, [], ◌↔◌, ◌⊎◌, ℕ, suc, ◌+◌, ◌-◌, ◌*◌, ◌/◌, ◌%◌, ◌≤◌, ◌<◌, length, get_or, take, Ok, Err}
use Rattle.numbers.specs.Numbers.{bad_line, bad_checksum, bad_hex_record, set_twice, no_end_record, no_data, buffer_too_small}
use Rattle.settings.specs.declared.Settings.{Settings}
use Rattle.settings.specs.Accepted.{settings_refusal}
use Rattle.numbers.specs.declared.Refusal.TheVariants.{BadHexRecord}
use Rattle.hex_format.specs.declared.Record.TheVariants.{Data, Last}
use Rattle.laws.specs.Bytes.{Bytes}
use Rattle.hex_format.specs.Lines.{is_line, adds_up, kind, count, address, data_of, kinded, judged_line}
use Rattle.hex_format.specs.Reading.{lines, Answer, hex_read}
use Rattle.hex_format.specs.Writing.{write_refusal, hex_write}

-- 1. Reading what was written gives the same first page and image, for every accepted opening of the writer,
-- whatever the bytes.
abbrev pub WrittenReads : Type 0
WrittenReads =
    (s : Settings) (first space room : ℕ) (image : List ℕ) → Bytes image → write_refusal s first (length image) space ≡ 0
    → length image ≤ room
    → hex_read s room (hex_write s first space image) ≡ record { number = 0; line = 0; first = first; image = image }

-- 2. In an accepted file each byte of the image is the byte of the one record that covers its address, or
-- 0xFF where none does; first and last page are touched; nothing is set twice.

-- the record of a line, in a flash of so many bytes, covers an address, and sets its byte
pub record SetsByte (flash : ℕ) (l : List ℕ) (k b : ℕ) : Type 0 where
  pub a : ℕ
  pub n : ℕ
  pub line : judged_line flash l ≡ Ok (Data a n)
  pub from : a ≤ k
  pub below : k < a + n
  pub byte : get_or (data_of l) (k - a) 0xff ≡ b

-- a line of the file, counted from 0; past the last one there is an empty line, which covers nothing
abbrev pub line_at : (file : List ℕ) → ℕ → List ℕ
line_at file i = get_or (lines file) i []

-- some line covers the address, and sets this byte
pub record Set (flash : ℕ) (file : List ℕ) (k b : ℕ) : Type 0 where
  pub i : ℕ
  pub covers : SetsByte flash (line_at file i) k b

pub record Shows (s : Settings) (file : List ℕ) (a : Answer) : Type 0 where
  pub byte : (k : ℕ) → k < length a.image
      → Set (s.size * s.count) file (a.first * s.size + k) (get_or a.image k 0xff)
      ⊎ ((get_or a.image k 0xff ≡ 0xff) × ((b : ℕ) → Set (s.size * s.count) file (a.first * s.size + k) b → ⊥))
  pub all : (k b : ℕ) → Set (s.size * s.count) file k b → (a.first * s.size ≤ k) × (k < a.first * s.size + length a.image)
  pub once : (i j k b c : ℕ) → SetsByte (s.size * s.count) (line_at file i) k b → SetsByte (s.size * s.count) (line_at file j) k c
      → i ≡ j
  pub pages : length a.image % s.size ≡ 0
  pub first_page : ℕ
  pub first_byte : ℕ
  pub first_touched : Set (s.size * s.count) file first_page first_byte × (first_page < a.first * s.size + s.size)
  pub last_page : ℕ
  pub last_byte : ℕ
  pub last_touched : Set (s.size * s.count) file last_page last_byte × (a.first * s.size + length a.image ≤ last_page + s.size)

abbrev pub AcceptedShows : Type 0
AcceptedShows = (s : Settings) (room : ℕ) (file : List ℕ) → (hex_read s room file).number ≡ 0 → Shows s file (hex_read s room file)

-- 3. The number given is the lowest of the first faulty line: no line before it is faulty, and no lower
-- number is a fault of it.

-- an earlier line is the end record
pub record Ended (flash : ℕ) (before : List (List ℕ)) : Type 0 where
  pub i : ℕ
  pub line : judged_line flash (get_or before i []) ≡ Ok Last

-- the line is a record of data that covers an address which an earlier line covers
pub record Twice (flash : ℕ) (before : List (List ℕ)) (l : List ℕ) : Type 0 where
  pub shape : is_line l ≡ true
  pub data_type : kind l ≡ 0
  pub k : ℕ
  pub from : address l ≤ k
  pub below : k < address l + count l
  pub i : ℕ
  pub b : ℕ
  pub earlier : SetsByte flash (get_or before i []) k b

-- a number is a fault of a line, with the lines before it
abbrev pub Fault : (flash : ℕ) (before : List (List ℕ)) (l : List ℕ) (number : ℕ) → Type 0
Fault flash before l m =
    ((m ≡ bad_line) × (is_line l ≡ false))
    ⊎ ((m ≡ bad_checksum) × (is_line l ≡ true) × (adds_up l ≡ false))
    ⊎ ((m ≡ bad_hex_record) × (is_line l ≡ true) × (kinded flash (kind l) (count l) (address l) ≡ Err BadHexRecord))
    ⊎ ((m ≡ set_twice) × Twice flash before l)
    ⊎ ((m ≡ no_end_record) × Ended flash before)

-- the line of a number, counted from 0, with the lines before it
abbrev pub FaultAt : (s : Settings) (file : List ℕ) (i number : ℕ) → Type 0
FaultAt s file i m = Fault (s.size * s.count) (take i (lines file)) (line_at file i) m

pub record LowestOfFirst (s : Settings) (file : List ℕ) (number i : ℕ) : Type 0 where
  pub there : i < length (lines file)
  pub fault : FaultAt s file i number
  pub lowest : (m : ℕ) → FaultAt s file i m → number ≤ m
  pub before : (j m : ℕ) → j < i → FaultAt s file j m → ⊥

-- the answer's line is counted from 1
abbrev pub FirstFault : Type 0
FirstFault =
    (s : Settings) (room : ℕ) (file : List ℕ) (i : ℕ) → settings_refusal s ≡ 0 → (hex_read s room file).line ≡ suc i
    → LowestOfFirst s file (hex_read s room file).number i

-- no line is faulty where the answer names none
abbrev pub NoFault : Type 0
NoFault =
    (s : Settings) (room : ℕ) (file : List ℕ) → settings_refusal s ≡ 0 → (hex_read s room file).line ≡ 0
    → (j m : ℕ) → j < length (lines file) → FaultAt s file j m → ⊥

-- 4. After the lines, where none is faulty: 24 exactly if no line is the end record; else 25 exactly if no
-- byte is set; else 26 exactly if the room is below the image's length; else the file is accepted.

-- the first and the last address that lines set
pub record Touched (flash : ℕ) (file : List ℕ) : Type 0 where
  pub least : ℕ
  pub least_byte : ℕ
  pub least_set : Set flash file least least_byte
  pub greatest : ℕ
  pub greatest_byte : ℕ
  pub greatest_set : Set flash file greatest greatest_byte
  pub between : (k b : ℕ) → Set flash file k b → (least ≤ k) × (k ≤ greatest)

-- the image's length: from the start of the first touched page to the end of the last one
abbrev pub touched_bytes : (size least greatest : ℕ) → ℕ
touched_bytes size least greatest = greatest / size * size + size - least / size * size

-- what decides the number of an answer where the lines are right, and how long its image is
pub record Decided (s : Settings) (room : ℕ) (file : List ℕ) (a : Answer) : Type 0 where
  pub missing_end : a.number ≡ no_end_record ↔ (Ended (s.size * s.count) (lines file) → ⊥)
  pub none_set : Ended (s.size * s.count) (lines file) → a.number ≡ no_data ↔ ((k b : ℕ) → Set (s.size * s.count) file k b → ⊥)
  pub touches : (k b : ℕ) → Set (s.size * s.count) file k b → Touched (s.size * s.count) file
  pub too_small : Ended (s.size * s.count) (lines file) → (t : Touched (s.size * s.count) file)
      → a.number ≡ buffer_too_small ↔ room < touched_bytes s.size t.least t.greatest
  pub file_accepted : Ended (s.size * s.count) (lines file) → (t : Touched (s.size * s.count) file)
      → a.number ≡ 0 ↔ touched_bytes s.size t.least t.greatest ≤ room
  pub image_bytes : a.number ≡ 0 → (t : Touched (s.size * s.count) file)
      → length a.image ≡ touched_bytes s.size t.least t.greatest

abbrev pub AnsweredExactly : Type 0
AnsweredExactly =
    (s : Settings) (room : ℕ) (file : List ℕ) → settings_refusal s ≡ 0 → ((j m : ℕ) → j < length (lines file) → FaultAt s file j m → ⊥)
    → Decided s room file (hex_read s room file)

-- Writing an Intel HEX file (document 02, a): rising records of 16 bytes and the end line, upper case, LF.
use Rattle.std.specs.Prelude.{cond, List, [], ◌∷◌, ◌++◌, ℕ, zero, suc, ◌+◌, ◌-◌, ◌*◌, ◌/◌, ◌%◌, leb, eqb, length, take, drop}
use Rattle.numbers.specs.Numbers.{buffer_too_small}
use Rattle.settings.specs.Opening.{opening_refusal}
use Rattle.settings.specs.declared.Settings.{Settings}
use Rattle.hex_format.specs.Digits.{text}
use Rattle.hex_format.specs.Lines.{sum, colon, lf}

-- the byte with which a record's bytes add up to 0
unfoldable pub checksum : List ℕ → ℕ
checksum s = (256 - sum s % 256) % 256

unfoldable pub line_of : List ℕ → List ℕ
line_of s = colon ∷ (text (s ++ (checksum s ∷ [])) ++ (lf ∷ []))

unfoldable pub data_line : (address : ℕ) → List ℕ → List ℕ
data_line a bytes = line_of (length bytes ∷ a / 256 ∷ a % 256 ∷ 0 ∷ bytes)

unfoldable pub last_line : List ℕ
last_line = line_of (0 ∷ 0 ∷ 0 ∷ 1 ∷ [])

unfoldable pub data_lines : (records address : ℕ) → List ℕ → List ℕ
data_lines zero a image = last_line
data_lines (suc n) a image = data_line a (take 16 image) ++ data_lines n (a + 16) (drop 16 image)

-- the file of an image from its first page on
unfoldable pub hex_file : (size first : ℕ) → List ℕ → List ℕ
hex_file size first image = data_lines (length image / 16) (first * size) image

-- The room that it takes: 44 bytes a record, 12 for the end line.
abbrev pub file_bytes : ℕ → ℕ
file_bytes n = 44 * (n / 16) + 12

-- The number by which writing is refused, or 0: what an opening asks of settings, first page and image, then
-- the room.
unfoldable pub write_refusal : Settings → (first length room : ℕ) → ℕ
write_refusal s first n room =
    cond (eqb (opening_refusal s first n) 0) (cond (leb (file_bytes n) room) 0 buffer_too_small) (opening_refusal s first n)

-- the file that is written: none when refused
unfoldable pub hex_write : Settings → (first room : ℕ) (image : List ℕ) → List ℕ
hex_write s first room image =
    cond (eqb (write_refusal s first (length image) room) 0) (hex_file s.size first image) []

-- What the caller gets: number and length, and the buffer, with the file at its front and every other byte as
-- it was.
pub record WritingDone : Type 0 where
  pub number : ℕ
  pub bytes : ℕ
  pub buffer : List ℕ

abbrev pub writing_done : (number bytes : ℕ) → List ℕ → WritingDone
writing_done number bytes buffer = record { number = number; bytes = bytes; buffer = buffer }

unfoldable pub file_in_buffer : Settings → (first : ℕ) (image old : List ℕ) → WritingDone
file_in_buffer s first image old =
    let file = hex_write s first (length old) image in
    writing_done (write_refusal s first (length image) (length old)) (length file) (file ++ drop (length file) old)

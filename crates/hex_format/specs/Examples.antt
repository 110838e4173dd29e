-- Worked examples: what the definitions give for small files, in one table each for reading and writing, and
-- the statement that it is what document 02 says. The files are written out as their characters.
use Rattle.std.specs.Prelude.{◌≡◌, refl, List, [], ◌∷◌, ◌++◌, map, ℕ, length, take, drop, replicate}
use Rattle.settings.specs.Accepted.{settings_refusal, is_fpdat, is_page_size, is_page_count}
use Rattle.settings.specs.Opening.{is_image, are_pages, opening_refusal}
use Rattle.settings.specs.declared.Settings.{Settings}
use Rattle.settings.specs.Registers.{no_pairs, pairs_from, are_registers, are_pairs}
use Rattle.hex_format.specs.Digits.{digit, octet, octets, all_digits, upper, text}
use Rattle.hex_format.specs.Lines.{sum, is_end, count, is_line, adds_up, address, kind, data_of, kinded, judged_line}
use Rattle.hex_format.specs.Reading.{joined_line, lines, all_unset, placed, taken_as, line_taken, lines_taken, first_set, past_set, cell_byte, bytes, Answer, refused, copied, cut_out, read_answer, hex_read}
use Rattle.hex_format.specs.Writing.{checksum, line_of, data_line, last_line, data_lines, hex_file, write_refusal, hex_write}

-- a device of so many pages of 512 bytes, with no pairs
abbrev pub of_pages : ℕ → Settings
of_pages count = record { id = 4; fpdat = 0xb4; size = 512; count = count; wait = 20; pairs = no_pairs }

-- :00000001FF LF
abbrev end_line : List ℕ
end_line =
    58 ∷ 48 ∷ 48 ∷ 48 ∷ 48 ∷ 48 ∷ 48 ∷ 48 ∷ 49 ∷ 70 ∷ 70 ∷ 10 ∷ []

-- :0102000041bc CR LF, 0x41 at 0x200
abbrev one_line : List ℕ
one_line =
    58 ∷ 48 ∷ 49 ∷ 48 ∷ 50 ∷ 48 ∷ 48 ∷ 48 ∷ 48 ∷ 52 ∷ 49 ∷ 98 ∷ 99 ∷ 13 ∷ 10 ∷ []

-- :0102000041BD LF
abbrev wrong_sum : List ℕ
wrong_sum =
    58 ∷ 48 ∷ 49 ∷ 48 ∷ 50 ∷ 48 ∷ 48 ∷ 48 ∷ 48 ∷ 52 ∷ 49 ∷ 66 ∷ 68 ∷ 10 ∷ []

-- :0102000241BB LF: type 02, and a wrong checksum
abbrev wrong_both : List ℕ
wrong_both =
    58 ∷ 48 ∷ 49 ∷ 48 ∷ 50 ∷ 48 ∷ 48 ∷ 48 ∷ 50 ∷ 52 ∷ 49 ∷ 66 ∷ 66 ∷ 10 ∷ []

-- :0102000241BA LF
abbrev other_type : List ℕ
other_type =
    58 ∷ 48 ∷ 49 ∷ 48 ∷ 50 ∷ 48 ∷ 48 ∷ 48 ∷ 50 ∷ 52 ∷ 49 ∷ 66 ∷ 65 ∷ 10 ∷ []

-- :00FFFF0002 LF, a record without data past every flash
abbrev no_bytes : List ℕ
no_bytes =
    58 ∷ 48 ∷ 48 ∷ 70 ∷ 70 ∷ 70 ∷ 70 ∷ 48 ∷ 48 ∷ 48 ∷ 50 ∷ 10 ∷ []

-- :00000001FF CR CR LF
abbrev two_returns : List ℕ
two_returns =
    58 ∷ 48 ∷ 48 ∷ 48 ∷ 48 ∷ 48 ∷ 48 ∷ 48 ∷ 49 ∷ 70 ∷ 70 ∷ 13 ∷ 13 ∷ 10 ∷ []

-- pages of the device, room in the buffer, the file, and the answer that the paper gives
pub record FileRow : Type 0 where
  pub pages : ℕ
  pub room : ℕ
  pub file : List ℕ
  pub answer : Answer

abbrev pub file_row : ℕ → ℕ → List ℕ → Answer → FileRow
file_row pages room file answer = record { pages = pages; room = room; file = file; answer = answer }

unfoldable pub reading : List FileRow
reading =
    -- the page of the one byte, 0xFF elsewhere
    file_row 2 512 (one_line ++ end_line) (record { number = 0; line = 0; first = 1; image = 65 ∷ replicate 511 0xff }) ∷
    -- a byte set twice is 23, also after the end record, where a right record is 24 otherwise
    file_row 2 512 (one_line ++ (one_line ++ end_line)) (refused 23 2) ∷
    file_row 2 512 (one_line ++ (end_line ++ one_line)) (refused 23 3) ∷
    file_row 2 512 (one_line ++ (end_line ++ end_line)) (refused 24 3) ∷
    file_row 2 512 (one_line ++ (end_line ++ no_bytes)) (refused 24 3) ∷
    -- a blank line is 20, also after the end record
    file_row 2 512 (10 ∷ []) (refused 20 1) ∷
    file_row 2 512 (one_line ++ (end_line ++ (10 ∷ []))) (refused 20 3) ∷
    -- the end line without its line end, and with a CR too many
    file_row 2 512 (one_line ++ take 11 end_line) (refused 20 2) ∷
    file_row 2 512 (one_line ++ two_returns) (refused 20 2) ∷
    -- the checksum, the type, and the lower of both
    file_row 2 512 (wrong_sum ++ end_line) (refused 21 1) ∷
    file_row 2 512 (other_type ++ end_line) (refused 22 1) ∷
    file_row 2 512 (wrong_both ++ end_line) (refused 21 1) ∷
    -- data past the last flash byte
    file_row 1 512 (one_line ++ end_line) (refused 22 1) ∷
    -- no end record; an empty file has none
    file_row 2 512 one_line (refused 24 0) ∷
    file_row 2 0 [] (refused 24 0) ∷
    -- no data: a record without data sets nothing, wherever it lies
    file_row 2 512 end_line (refused 25 0) ∷
    file_row 2 512 (no_bytes ++ end_line) (refused 25 0) ∷
    -- no room for the page
    file_row 2 511 (one_line ++ end_line) (refused 26 0) ∷
    []

pub reading_is : map (λ r. hex_read (of_pages r.pages) r.room r.file) reading ≡ map (λ r. r.answer) reading
unfolding reading settings_refusal is_fpdat is_page_size is_page_count are_pairs are_registers pairs_from digit octet octets all_digits sum is_end count is_line adds_up address kind data_of kinded judged_line joined_line lines all_unset placed taken_as line_taken lines_taken first_set past_set cell_byte bytes copied cut_out read_answer hex_read
reading_is = refl

-- :1002000000..0F and the checksum, LF: the bytes 0 to 15 at 0x200
abbrev sixteen_line : List ℕ
sixteen_line =
    58 ∷ 49 ∷ 48 ∷ 48 ∷ 50 ∷ 48 ∷ 48 ∷ 48 ∷ 48 ∷ 48 ∷ 48 ∷ 48 ∷ 49 ∷ 48 ∷ 50 ∷ 48 ∷ 51 ∷ 48 ∷ 52 ∷ 48 ∷ 53 ∷ 48 ∷ 54 ∷ 48 ∷ 55 ∷
    48 ∷ 56 ∷ 48 ∷ 57 ∷ 48 ∷ 65 ∷ 48 ∷ 66 ∷ 48 ∷ 67 ∷ 48 ∷ 68 ∷ 48 ∷ 69 ∷ 48 ∷ 70 ∷ 55 ∷ 54 ∷ 10 ∷ []

-- 16 rising bytes, and an image of one page that begins with them
abbrev sixteen : List ℕ
sixteen = 0 ∷ 1 ∷ 2 ∷ 3 ∷ 4 ∷ 5 ∷ 6 ∷ 7 ∷ 8 ∷ 9 ∷ 10 ∷ 11 ∷ 12 ∷ 13 ∷ 14 ∷ 15 ∷ []

abbrev one_page : List ℕ
one_page = sixteen ++ replicate 496 0xff

-- the file of the page: its first line, its length and its last line
unfoldable pub written : List ℕ
written = hex_write (of_pages 2) 1 1420 one_page

pub writing_is : (take 44 written ≡ sixteen_line) × (length written ≡ 1420) × (drop 1408 written ≡ end_line)
unfolding written settings_refusal is_fpdat is_page_size is_page_count are_pairs are_registers pairs_from sum upper text checksum line_of data_line last_line data_lines hex_file is_image are_pages opening_refusal write_refusal hex_write
writing_is = (refl, refl, refl)

-- 4 for an empty image and for a part of a page, 5 for a page too many, 26 for a byte of room too few
pub refusals_are :
    write_refusal (of_pages 2) 1 0 1420 ∷ write_refusal (of_pages 2) 1 511 1420 ∷ write_refusal (of_pages 2) 2 512 1420
    ∷ write_refusal (of_pages 2) 1 512 1419 ∷ []
    ≡ 4 ∷ 4 ∷ 5 ∷ 26 ∷ []
unfolding settings_refusal is_fpdat is_page_size is_page_count are_pairs are_registers pairs_from is_image are_pages opening_refusal write_refusal
refusals_are = refl

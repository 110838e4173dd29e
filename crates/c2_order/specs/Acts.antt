-- Acts, and the Programming Interface's commands as lists of acts (document 01, "Settings and session"; the
-- maker's note, section 4).
use Rattle.std.specs.Prelude.{Bool, not, cond, List, [], ◌∷◌, ◌++◌, ℕ, suc, ◌/◌, ◌%◌, eqb, length}
use Rattle.numbers.specs.Numbers.{bad_status, compare_differs}
use Rattle.c2_wire.specs.Bits.{odd}
use Rattle.c2_wire.specs.Step.{reset, pause}
use Rattle.c2_wire.specs.Field.{RESET, PAUSE}
use Rattle.c2_wire.specs.Exchange.{Outcome, outcome}
use Rattle.c2_wire.specs.Frames.{Strobe, plain, frame}
use Rattle.c2_wire.specs.declared.Frame.TheVariants.{AddressWrite, DataWrite}

pub data Act : Type 0 where
  -- a frame, or a step that stands in no frame; no byte is taken from it
  send : List Strobe → Act
  -- Address Reads until the status passes this test
  poll : (ℕ → Bool) → Act
  -- a Data Read that must give this byte; otherwise the session ends with this outcome
  expect : ℕ → Outcome → Act

abbrev pub reset_pulse : Act
reset_pulse = send (plain RESET reset ∷ [])

abbrev pub pause_20_ms : Act
pause_20_ms = send (plain PAUSE pause ∷ [])

abbrev pub address_write : ℕ → Act
address_write a = send (frame AddressWrite a)

abbrev pub data_write : ℕ → Act
data_write b = send (frame DataWrite b)

-- the status shows bit 1, InBusy, as 0
unfoldable pub input_taken : (status : ℕ) → Bool
input_taken s = not (odd (s / 2))

-- the status shows bit 0, OutReady, as 1
unfoldable pub output_ready : (status : ℕ) → Bool
output_ready s = odd s

-- put a byte
unfoldable pub put : ℕ → List Act
put b = data_write b ∷ poll input_taken ∷ []

-- get a byte that must be this one
unfoldable pub get : ℕ → Outcome → List Act
get b o = poll output_ready ∷ expect b o ∷ []

-- a get that must give 0x0D
unfoldable pub status : List Act
status = get 0x0d (outcome bad_status)

unfoldable pub puts : List ℕ → List Act
puts [] = []
puts (b ∷ bs) = put b ++ puts bs

-- bytes to be read back, from this image offset on
unfoldable pub compares : (offset : ℕ) → List ℕ → List Act
compares o [] = []
compares o (b ∷ bs) = get b (record { number = compare_differs; offset = o }) ++ compares (suc o) bs

-- `length_code` is the length code of 1 to 256 bytes, `coded_length` the number of bytes that a code means
unfoldable pub length_code : ℕ → ℕ
length_code n = n % 256

unfoldable pub coded_length : ℕ → ℕ
coded_length c = cond (eqb c 0) 256 c

-- A block: bytes at an address of the flash, and at an offset of the image.
pub record Block : Type 0 where
  pub address : ℕ
  pub offset : ℕ
  pub bytes : List ℕ

unfoldable pub erase : (fpdat page : ℕ) → List Act
erase fpdat page = address_write fpdat ∷ put 0x08 ++ status ++ put page ++ status ++ put 0x00 ++ status

-- a block's command, up to its length code
unfoldable pub block_command : (fpdat command : ℕ) → Block → List Act
block_command fpdat command b =
    address_write fpdat ∷ put command ++ status ++ put (b.address / 256) ++ put (b.address % 256) ++ put (length_code (length b.bytes))

unfoldable pub block_write : (fpdat : ℕ) → Block → List Act
block_write fpdat b = block_command fpdat 0x07 b ++ puts b.bytes ++ status

unfoldable pub block_read : (fpdat : ℕ) → Block → List Act
block_read fpdat b = block_command fpdat 0x06 b ++ status ++ compares b.offset b.bytes

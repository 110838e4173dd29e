-- The commands of the Programming Interface, from the target's side: what a byte put does, and the output
-- (document 01, "The modelled target").
use Rattle.std.specs.Prelude.{Bool, true, false, cond, List, ◌++◌, ℕ, ◌+◌, ◌-◌, ◌*◌, eqb, ltb, leb, length, get_or, take, drop, set, replicate}
use Rattle.std.specs.Int.Bits.{bit_and}
use Rattle.settings.specs.declared.Settings.{Settings}
use Rattle.c2_order.specs.Acts.{coded_length}
use Rattle.c2_target.specs.declared.Command.{Command}
use Rattle.c2_target.specs.declared.Command.TheVariants.{Ready, ErasePage, EraseConfirm, High, Low, LengthCode, Byte, PastEnd}
use Rattle.c2_target.specs.declared.Output.{Output}
use Rattle.c2_target.specs.declared.Output.TheVariants.{Empty, Status, StatusBlock, Block}

-- the flash with a page set to 0xFF
unfoldable pub erased : (size page : ℕ) → List ℕ → List ℕ
erased size p f = take (p * size) f ++ (replicate size 0xff ++ drop (p * size + size) f)

-- the flash with a byte set to old AND new
unfoldable pub stored : (address byte : ℕ) → List ℕ → List ℕ
stored a b f = set f a (bit_and (get_or f a 0) b)

-- What a byte put makes of the command, of the output and of the flash.
pub record PutTaken : Type 0 where
  pub command : Command
  pub output : Output
  pub flash : List ℕ

abbrev pub put_taken : Command → Output → List ℕ → PutTaken
put_taken c o f = record { command = c; output = o; flash = f }

-- the status 0x0D, as output
abbrev pub passed : Output
passed = Status true

-- the status 0x00, as output
abbrev pub failed : Output
failed = Status false

-- whether no byte of the block is past the end of the flash
unfoldable pub in_flash : (address count : ℕ) → List ℕ → Bool
in_flash a n f = leb (a + n) (length f)

-- What the first byte of a command does: three commands are known; any other byte gives status 0x00. Erase and
-- block write are turned away with status 0x00 as long as the device is not prepared: a wanted pair is not met.
unfoldable pub opens : (prepared : Bool) → (byte : ℕ) → List ℕ → PutTaken
opens prepared b f =
    cond (eqb b 0x08) (put_taken (cond prepared ErasePage Ready) (Status prepared) f)
    (cond (eqb b 0x07) (put_taken (cond prepared (High true) Ready) (Status prepared) f)
    (cond (eqb b 0x06) (put_taken (High false) passed f)
    (put_taken Ready failed f)))

-- A byte put is the command's next byte. Output comes where the maker's note has a status; where the status
-- is 0x00 the command ends.
unfoldable pub takes_put : Settings → (prepared : Bool) → Command → (byte : ℕ) → List ℕ → PutTaken
takes_put s prepared Ready b f = opens prepared b f
-- a page past the end
takes_put s prepared ErasePage b f = cond (ltb b s.count) (put_taken (EraseConfirm b) passed f) (put_taken Ready failed f)
-- the page is erased at the put of 0x00
takes_put s prepared (EraseConfirm p) b f = cond (eqb b 0x00) (put_taken Ready passed (erased s.size p f)) (put_taken Ready failed f)
takes_put s prepared (High w) b f = put_taken (Low w b) Empty f
takes_put s prepared (Low w h) b f = put_taken (LengthCode w (h * 256 + b)) Empty f
-- a block past the end: the bytes of a block write are first taken
takes_put s prepared (LengthCode true a) b f =
    put_taken (cond (in_flash a (coded_length b) f) (Byte a (coded_length b)) (PastEnd (coded_length b))) Empty f
takes_put s prepared (LengthCode false a) b f =
    put_taken Ready (cond (in_flash a (coded_length b) f) (StatusBlock a (coded_length b)) failed) f
-- each byte of a block write is written at its put, and the status follows the last
takes_put s prepared (Byte a n) b f = put_taken (cond (ltb 1 n) (Byte (a + 1) (n - 1)) Ready) (cond (ltb 1 n) Empty passed) (stored a b f)
takes_put s prepared (PastEnd n) b f = put_taken (cond (ltb 1 n) (PastEnd (n - 1)) Ready) (cond (ltb 1 n) Empty failed) f

-- whether there is output to be read
unfoldable pub some_output : Output → Bool
some_output Empty = false
some_output (Status ok) = true
some_output (StatusBlock a n) = true
some_output (Block a n) = true

-- the byte of the output that is read first
unfoldable pub first_byte : Output → List ℕ → ℕ
first_byte Empty f = 0
first_byte (Status ok) f = cond ok 0x0d 0x00
first_byte (StatusBlock a n) f = 0x0d
first_byte (Block a n) f = get_or f a 0

-- the output that is left after its first byte is read
unfoldable pub other_bytes : Output → Output
other_bytes Empty = Empty
other_bytes (Status ok) = Empty
other_bytes (StatusBlock a n) = Block a n
other_bytes (Block a n) = cond (ltb 1 n) (Block (a + 1) (n - 1)) Empty

-- The commands of the radio module, eight bytes each (source document 002, "Commands" and "Checksum").
use Rattle.std.specs.Prelude.{ℕ, ◌+◌, ◌%◌, cond, List, [], ◌∷◌, length, ◌==◌, slice_index, Option, Some, None}
use Rattle.radio_command.specs.declared.CommandName.{CommandName}
use Rattle.radio_command.specs.declared.CommandName.TheVariants.{RdSwVersion, InfSwVersion, RdFlashByte, WrFlashByte}
use Rattle.radio_command.specs.declared.CommandName.TheVariants.{RdFlashPage, WrFlashPage, RdPrgArea, WrPrgArea}
use Rattle.radio_command.specs.declared.CommandName.TheVariants.{InfOk, InfError, WrBlankChk, WrBist, WrPrgXram}
use Rattle.radio_command.specs.declared.RadioCommand.{RadioCommand}

-- Table 1: the command byte of each command
abbrev pub command_byte : CommandName → ℕ
command_byte RdSwVersion = 0x4B
command_byte InfSwVersion = 0x8C
command_byte RdFlashByte = 0x6B
command_byte WrFlashByte = 0x6C
command_byte RdFlashPage = 0x69
command_byte WrFlashPage = 0x6A
command_byte RdPrgArea = 0x6D
command_byte WrPrgArea = 0x6E
command_byte InfOk = 0x58
command_byte InfError = 0x99
command_byte WrBlankChk = 0x70
command_byte WrBist = 0x71
command_byte WrPrgXram = 0x6F

-- the thirteen commands of the list
abbrev pub command_list : List CommandName
command_list =
    RdSwVersion ∷ InfSwVersion ∷ RdFlashByte ∷ WrFlashByte ∷ RdFlashPage ∷ WrFlashPage ∷ RdPrgArea ∷ WrPrgArea
    ∷ InfOk ∷ InfError ∷ WrBlankChk ∷ WrBist ∷ WrPrgXram ∷ []

-- the command of a list that has this command byte, if there is one
abbrev pub named_in : List CommandName → ℕ → Option CommandName
named_in [] b = None
named_in (n ∷ ns) b = cond (b == command_byte n) (Some n) (named_in ns b)

unfoldable pub name_of : ℕ → Option CommandName
name_of b = named_in command_list b

-- the sum over bytes 2 to 6, modulo 256
unfoldable pub command_sum : (b2 b3 b4 b5 b6 : ℕ) → ℕ
command_sum b2 b3 b4 b5 b6 = (b2 + b3 + b4 + b5 + b6) % 256

-- the eight bytes: head, command byte, parameters, checksum
unfoldable pub built : RadioCommand → List ℕ
built c =
    let b = command_byte c.name in
    0xA5 ∷ 0x5A ∷ 0xA5 ∷ b ∷ c.p0 ∷ c.p1 ∷ c.p2 ∷ command_sum 0xA5 b c.p0 c.p1 c.p2 ∷ []

-- a command of this name, if head and sum are right
unfoldable pub read_named : CommandName → (b0 b1 b2 b4 b5 b6 b7 : ℕ) → Option RadioCommand
read_named n b0 b1 b2 b4 b5 b6 b7 =
    cond (b0 == 0xA5)
    (cond (b1 == 0x5A)
    (cond (b2 == 0xA5)
    (cond (b7 == command_sum b2 (command_byte n) b4 b5 b6) (Some (record { name = n; p0 = b4; p1 = b5; p2 = b6 })) None)
    None)
    None)
    None

-- a byte of a message, counted from 0
abbrev pub message_byte : List ℕ → ℕ → ℕ
message_byte m i = slice_index m i

-- a command of the name that was found
abbrev pub read_found : Option CommandName → List ℕ → Option RadioCommand
read_found (Some n) m =
    let b = message_byte m in read_named n (b 0) (b 1) (b 2) (b 4) (b 5) (b 6) (b 7)
read_found None m = None

-- the command that bytes are: refused where length, command byte, head or sum is wrong
unfoldable pub read_command : List ℕ → Option RadioCommand
read_command m = cond (length m == 8) (read_found (name_of (message_byte m 3)) m) None

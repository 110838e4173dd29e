-- What each command does (source document 002, the sections of the commands). Where more than one error
-- applies, the first of the definition is answered.
use Rattle.std.specs.Prelude.{Bool, cond, ◌&&◌, ◌||◌, List, ℕ, eqb, ltb, get_or}
use Rattle.radio_command.specs.declared.CommandName.{CommandName}
use Rattle.radio_command.specs.declared.CommandName.TheVariants.{RdSwVersion, InfSwVersion, RdFlashByte, WrFlashByte}
use Rattle.radio_command.specs.declared.CommandName.TheVariants.{RdFlashPage, WrFlashPage, RdPrgArea, WrPrgArea}
use Rattle.radio_command.specs.declared.CommandName.TheVariants.{InfOk, InfError, WrBlankChk, WrBist, WrPrgXram}
use Rattle.radio_command.specs.declared.RadioCommand.{RadioCommand}
use Rattle.radio_target.specs.declared.ModulePoint.{ModulePoint}
use Rattle.radio_target.specs.declared.ModulePoint.TheVariants.{Waits, Takes, Loads, Sends}
use Rattle.radio_flash.specs.declared.FlashChange.{FlashChange}
use Rattle.radio_flash.specs.declared.FlashChange.TheVariants.{Nothing, Byte, Page, Area}
use Rattle.radio_target.specs.declared.Deed.{Deed}
use Rattle.radio_flash.specs.Flash.{information, in_program_area, flash_address, is_protected, is_blank}

abbrev pub radio_command : CommandName → (p0 p1 p2 : ℕ) → RadioCommand
radio_command n p0 p1 p2 = record { name = n; p0 = p0; p1 = p1; p2 = p2 }

abbrev pub inf_ok : (code : ℕ) → RadioCommand
inf_ok c = radio_command InfOk c 0 0

abbrev pub inf_error : (error : ℕ) → RadioCommand
inf_error e = radio_command InfError e 0 0

-- the error codes of INF_ERROR
abbrev pub err_out_of_memory : ℕ
err_out_of_memory = 0

abbrev pub err_readonly : ℕ
err_readonly = 1

abbrev pub err_codeprotection : ℕ
err_codeprotection = 2

abbrev pub err_byte_not_erased : ℕ
err_byte_not_erased = 3

abbrev pub err_checksum : ℕ
err_checksum = 4

abbrev pub err_blank_check : ℕ
err_blank_check = 5

abbrev pub err_unknow_cmd : ℕ
err_unknow_cmd = 8

-- an error answer: nothing changes
abbrev pub answers_error : (error : ℕ) → Deed
answers_error e = record { answer = inf_error e; change = Nothing; point = Waits }

-- an answer with a code, and no more
abbrev pub answers_ok : (code : ℕ) → Deed
answers_ok c = record { answer = inf_ok c; change = Nothing; point = Waits }

-- a change of the flash, and the point that follows the answer
abbrev pub performs : FlashChange → ModulePoint → Deed
performs c p = record { answer = inf_ok 0; change = c; point = p }

-- a number of pages that is 0 or above the most
abbrev pub too_many : (pages most : ℕ) → Bool
too_many n most = eqb n 0 || ltb most n

-- the point after an erase: EraseOnly 0x01 takes no data
abbrev pub then_data : (erase_only page left : ℕ) → ModulePoint
then_data e p n = cond (eqb e 0x01) Waits (Takes p n)

unfoldable pub rd_flash_byte : (hi lo : ℕ) → (flash : List ℕ) → Deed
rd_flash_byte hi lo f =
    cond (in_program_area hi && is_protected f) (answers_error err_readonly)
    (cond (ltb information hi) (answers_error err_out_of_memory) (answers_ok (get_or f (flash_address hi lo) 0)))

-- READONLY for the information page, then OUT_OF_MEMORY, CODEPROTECTION, BYTE_NOT_ERASED
unfoldable pub wr_flash_byte : (hi lo to : ℕ) → (flash : List ℕ) → Deed
wr_flash_byte hi lo to f =
    cond (eqb hi information) (answers_error err_readonly)
    (cond (ltb information hi) (answers_error err_out_of_memory)
    (cond (in_program_area hi && is_protected f) (answers_error err_codeprotection)
    (cond (eqb (get_or f (flash_address hi lo) 0) 0xFF) (performs (Byte (flash_address hi lo) to) Waits)
    (answers_error err_byte_not_erased))))

unfoldable pub rd_flash_page : (page : ℕ) → (flash : List ℕ) → Deed
rd_flash_page p f =
    cond (in_program_area p && is_protected f) (answers_error err_readonly)
    (cond (ltb information p) (answers_error err_out_of_memory) (performs Nothing (Sends p 1)))

unfoldable pub wr_flash_page : (page erase_only : ℕ) → (flash : List ℕ) → Deed
wr_flash_page p e f =
    cond (is_protected f) (answers_error err_readonly)
    (cond (eqb p information) (answers_error err_readonly)
    (cond (ltb information p) (answers_error err_out_of_memory) (performs (Page p) (then_data e p 1))))

unfoldable pub rd_prg_area : (pages : ℕ) → (flash : List ℕ) → Deed
rd_prg_area n f =
    cond (is_protected f) (answers_error err_codeprotection)
    (cond (too_many n 127) (answers_error err_out_of_memory) (performs Nothing (Sends 0 n)))

unfoldable pub wr_prg_area : (pages erase_only : ℕ) → (flash : List ℕ) → Deed
wr_prg_area n e f =
    cond (is_protected f) (answers_error err_readonly)
    (cond (too_many n 127) (answers_error err_out_of_memory) (performs Area (then_data e 0 n)))

unfoldable pub wr_blank_chk : (flash : List ℕ) → Deed
wr_blank_chk f = cond (is_blank f) (answers_ok 0) (answers_error err_blank_check)

unfoldable pub wr_prg_xram : (pages : ℕ) → (flash : List ℕ) → Deed
wr_prg_xram n f =
    cond (is_protected f) (answers_error err_readonly)
    (cond (too_many n 4) (answers_error err_out_of_memory) (performs Nothing (Loads n)))

-- the version is 0, 0, 0
abbrev pub rd_sw_version : Deed
rd_sw_version = record { answer = radio_command InfSwVersion 0 0 0; change = Nothing; point = Waits }

-- The BIST always fails: the note does not give its CRC. The module's own answers are no commands to it.
abbrev pub deed : CommandName → (p0 p1 p2 : ℕ) → (flash : List ℕ) → Deed
deed RdSwVersion p0 p1 p2 f = rd_sw_version
deed InfSwVersion p0 p1 p2 f = answers_error err_unknow_cmd
deed RdFlashByte hi lo p2 f = rd_flash_byte hi lo f
deed WrFlashByte hi lo to f = wr_flash_byte hi lo to f
deed RdFlashPage p p1 p2 f = rd_flash_page p f
deed WrFlashPage p e p2 f = wr_flash_page p e f
deed RdPrgArea n p1 p2 f = rd_prg_area n f
deed WrPrgArea n e p2 f = wr_prg_area n e f
deed InfOk p0 p1 p2 f = answers_error err_unknow_cmd
deed InfError p0 p1 p2 f = answers_error err_unknow_cmd
deed WrBlankChk p0 p1 p2 f = wr_blank_chk f
deed WrBist p0 p1 p2 f = answers_ok 1
deed WrPrgXram n p1 p2 f = wr_prg_xram n f

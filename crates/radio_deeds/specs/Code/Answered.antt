-- What a command comes to in code, a deed or an error, as the deed that it is. For the code alone: `commanded` of
-- Model in radio_target says the same of a message.
use Rattle.std.specs.Prelude.{ℕ, Result, Ok, Err}
use Rattle.radio_command.specs.declared.CommandName.{CommandName}
use Rattle.radio_flash.specs.declared.FlashChange.TheVariants.{Nothing}
use Rattle.radio_target.specs.declared.ModulePoint.TheVariants.{Waits}
use Rattle.radio_target.specs.declared.Deed.{Deed}
use Rattle.radio_target.specs.Deeds.{radio_command, answers_error, err_out_of_memory, err_readonly, err_codeprotection}
use Rattle.radio_target.specs.Deeds.{err_byte_not_erased, err_checksum, err_blank_check, err_unknow_cmd}
use Rattle.radio_deeds.specs.declared.ModuleError.{ModuleError}
use Rattle.radio_deeds.specs.declared.ModuleError.TheVariants.{OutOfMemory, Readonly, Codeprotection, ByteNotErased, Checksum, BlankCheck, UnknowCmd}

-- an answer with its first parameter, and no more
abbrev pub answers : CommandName → (p0 : ℕ) → Deed
answers n p0 = record { answer = radio_command n p0 0 0; change = Nothing; point = Waits }

abbrev pub error_code : ModuleError → ℕ
error_code OutOfMemory = err_out_of_memory
error_code Readonly = err_readonly
error_code Codeprotection = err_codeprotection
error_code ByteNotErased = err_byte_not_erased
error_code Checksum = err_checksum
error_code BlankCheck = err_blank_check
error_code UnknowCmd = err_unknow_cmd

-- a deed, or the answer to an error
abbrev pub answered : Result Deed ModuleError → Deed
answered (Ok d) = d
answered (Err e) = answers_error (error_code e)

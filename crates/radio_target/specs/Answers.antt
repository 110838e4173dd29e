-- Worked examples of the model: what each command does to a blank flash and to one with code protection, and
-- what data do (the notes of each command in source document 002).
use Rattle.std.specs.Prelude.{◌≡◌, List, [], ◌∷◌, ◌++◌, map, ℕ, replicate, Some, None}
use Rattle.radio_command.specs.declared.CommandName.TheVariants.{RdSwVersion, InfSwVersion, RdFlashByte, WrFlashByte}
use Rattle.radio_command.specs.declared.CommandName.TheVariants.{RdFlashPage, WrFlashPage, RdPrgArea, WrPrgArea}
use Rattle.radio_command.specs.declared.CommandName.TheVariants.{InfOk, InfError, WrBlankChk, WrBist, WrPrgXram}
use Rattle.radio_command.specs.declared.RadioCommand.{RadioCommand}
use Rattle.radio_command.specs.Command.{built}
use Rattle.radio_target.specs.declared.ModulePoint.TheVariants.{Waits, Takes, Loads, Sends}
use Rattle.radio_flash.specs.declared.FlashChange.TheVariants.{Nothing, Byte, Page, Area}
use Rattle.radio_target.specs.declared.Deed.{Deed}
use Rattle.radio_flash.specs.Flash.{erased_bytes, byte_set, mass_erased}
use Rattle.radio_target.specs.Deeds.{radio_command, inf_ok, answers_error, answers_ok, performs}
use Rattle.radio_target.specs.Model.{commanded, response, message_refusal}
use Rattle.radio_target.specs.State.{radio_target, module_point, radio_stepped}

-- a flash that is erased
abbrev pub blank_flash : List ℕ
blank_flash = erased_bytes 33024

-- a flash that holds 0x11 everywhere but for configuration byte 1
abbrev pub protected_flash : List ℕ
protected_flash = byte_set 0x7F01 0x00 (replicate 33024 0x11)

-- a command, and what it does
pub record Example : Type 0 where
  pub request : RadioCommand
  pub effect : Deed

infixl 20 ◌answered◌
abbrev pub ◌answered◌ : RadioCommand → Deed → Example
c answered d = record { request = c; effect = d }

-- each of these commands, built, does to this flash what stands beside it
abbrev pub AllDone : (flash : List ℕ) → List Example → Type 0
AllDone f xs = map (λ x. commanded (built x.request) f) xs ≡ map (λ x. x.effect) xs

abbrev pub on_blank : List Example
on_blank =
    (radio_command RdSwVersion 0 0 0 answered record { answer = radio_command InfSwVersion 0 0 0; change = Nothing; point = Waits }) ∷
    (radio_command RdFlashByte 0x7F 0x00 0 answered answers_ok 0xFF) ∷
    (radio_command RdFlashByte 0x80 0xFF 0 answered answers_ok 0xFF) ∷
    (radio_command RdFlashByte 0x81 0x00 0 answered answers_error 0) ∷
    (radio_command RdFlashByte 0x9F 0x00 0 answered answers_error 0) ∷
    (radio_command WrFlashByte 0x7F 0x01 0x00 answered performs (Byte 0x7F01 0x00) Waits) ∷
    (radio_command WrFlashByte 0x80 0x00 0x00 answered answers_error 1) ∷
    (radio_command WrFlashByte 0xA0 0x00 0x00 answered answers_error 0) ∷
    (radio_command RdFlashPage 128 0 0 answered performs Nothing (Sends 128 1)) ∷
    (radio_command RdFlashPage 129 0 0 answered answers_error 0) ∷
    (radio_command WrFlashPage 127 0 0 answered performs (Page 127) (Takes 127 1)) ∷
    (radio_command WrFlashPage 5 1 0 answered performs (Page 5) Waits) ∷
    (radio_command WrFlashPage 5 2 0 answered performs (Page 5) (Takes 5 1)) ∷
    (radio_command WrFlashPage 128 0 0 answered answers_error 1) ∷
    (radio_command WrFlashPage 129 0 0 answered answers_error 0) ∷
    (radio_command RdPrgArea 127 0 0 answered performs Nothing (Sends 0 127)) ∷
    (radio_command RdPrgArea 128 0 0 answered answers_error 0) ∷
    (radio_command RdPrgArea 0 0 0 answered answers_error 0) ∷
    (radio_command WrPrgArea 127 0 0 answered performs Area (Takes 0 127)) ∷
    (radio_command WrPrgArea 3 1 0 answered performs Area Waits) ∷
    (radio_command WrPrgArea 0 1 0 answered answers_error 0) ∷
    (radio_command WrPrgArea 128 0 0 answered answers_error 0) ∷
    (radio_command WrBlankChk 0 0 0 answered answers_ok 0) ∷
    (radio_command WrBist 0 0 0 answered answers_ok 1) ∷
    (radio_command WrPrgXram 4 0 0 answered performs Nothing (Loads 4)) ∷
    (radio_command WrPrgXram 5 0 0 answered answers_error 0) ∷
    (radio_command InfOk 0 0 0 answered answers_error 8) ∷
    (radio_command InfError 0 0 0 answered answers_error 8) ∷
    (radio_command InfSwVersion 1 2 3 answered answers_error 8) ∷
    []

abbrev pub on_protected : List Example
on_protected =
    (radio_command RdFlashByte 0x7E 0xFF 0 answered answers_error 1) ∷
    (radio_command RdFlashByte 0x7F 0x00 0 answered answers_ok 0x11) ∷
    (radio_command RdFlashByte 0x81 0x00 0 answered answers_error 0) ∷
    (radio_command WrFlashByte 0x7E 0xFF 0 answered answers_error 2) ∷
    (radio_command WrFlashByte 0x7F 0x04 0x11 answered answers_error 3) ∷
    (radio_command WrFlashByte 0x80 0x00 0 answered answers_error 1) ∷
    (radio_command RdFlashPage 126 0 0 answered answers_error 1) ∷
    (radio_command RdFlashPage 127 0 0 answered performs Nothing (Sends 127 1)) ∷
    (radio_command WrFlashPage 127 0 0 answered answers_error 1) ∷
    (radio_command WrFlashPage 129 0 0 answered answers_error 1) ∷
    (radio_command RdPrgArea 1 0 0 answered answers_error 2) ∷
    (radio_command RdPrgArea 200 0 0 answered answers_error 2) ∷
    (radio_command WrPrgArea 1 0 0 answered answers_error 1) ∷
    (radio_command WrPrgXram 1 0 0 answered answers_error 1) ∷
    (radio_command WrBlankChk 0 0 0 answered answers_error 5) ∷
    []

-- a wrong sum is answered before the command is looked at
abbrev pub SumFirst : Type 0
SumFirst = commanded (0xA5 ∷ 0x5A ∷ 0xA5 ∷ 0x00 ∷ 0 ∷ 0 ∷ 0 ∷ 0xA4 ∷ []) blank_flash ≡ answers_error 4

-- a command byte that is not in the list is not known
abbrev pub NotListed : Type 0
NotListed = commanded (0xA5 ∷ 0x5A ∷ 0xA5 ∷ 0x00 ∷ 0 ∷ 0 ∷ 0 ∷ 0xA5 ∷ []) blank_flash ≡ answers_error 8

-- data of page 127 leave its first four bytes; the last page is answered by INF_OK
abbrev pub ConfigurationData : Type 0
ConfigurationData =
    response (Takes 127 1) blank_flash (replicate 256 0x22)
    ≡ record { reply = built (inf_ok 0); flash = erased_bytes 32516 ++ (replicate 252 0x22 ++ erased_bytes 256); point = Waits }

-- a page that is not the last has no reply
abbrev pub DataGoOn : Type 0
DataGoOn =
    response (Takes 0 2) blank_flash (replicate 256 0x22)
    ≡ record { reply = []; flash = replicate 256 0x22 ++ erased_bytes 32768; point = Takes 1 1 }

-- mass erase leaves the information page
abbrev pub AreaErased : Type 0
AreaErased = mass_erased protected_flash ≡ erased_bytes 32768 ++ replicate 256 0x11

-- a page that is not the last is sent, and the next one follows
abbrev pub PageSent : Type 0
PageSent =
    response (Sends 127 2) protected_flash []
    ≡ record { reply = 0x11 ∷ 0x00 ∷ replicate 254 0x11; flash = protected_flash; point = Sends 128 1 }

-- the program for XRAM is taken and dropped
abbrev pub ProgramDropped : Type 0
ProgramDropped = response (Loads 1) blank_flash (replicate 256 0) ≡ record { reply = []; flash = blank_flash; point = Waits }

-- a program of more than one page for XRAM
abbrev pub ProgramGoesOn : Type 0
ProgramGoesOn = response (Loads 2) blank_flash (replicate 256 0) ≡ record { reply = []; flash = blank_flash; point = Loads 1 }

-- RD_SW_VERSION, byte by byte
abbrev pub version_asked : List ℕ
version_asked = 0xA5 ∷ 0x5A ∷ 0xA5 ∷ 0x4B ∷ 0 ∷ 0 ∷ 0 ∷ 0xF0 ∷ []

-- messages by their refusals: 17 first, then 26, then 28
abbrev pub Refusals : Type 0
Refusals =
    message_refusal Waits (erased_bytes 33023) version_asked 0
    ∷ message_refusal (Takes 0 0) blank_flash [] 0
    ∷ message_refusal (Takes 127 2) blank_flash (replicate 256 0) 256
    ∷ message_refusal (Loads 0) blank_flash [] 0
    ∷ message_refusal (Loads 5) blank_flash (replicate 256 0) 256
    ∷ message_refusal (Sends 0 0) blank_flash [] 256
    ∷ message_refusal (Sends 128 2) blank_flash [] 256
    ∷ message_refusal Waits blank_flash [] 255
    ∷ message_refusal Waits blank_flash [] 256
    ∷ message_refusal Waits blank_flash (replicate 8 0xA5) 256
    ∷ message_refusal (Takes 0 1) blank_flash (replicate 255 0) 256
    ∷ message_refusal (Loads 1) blank_flash version_asked 256
    ∷ message_refusal (Sends 0 1) blank_flash (0 ∷ []) 256
    ∷ []
    ≡ 17 ∷ 17 ∷ 17 ∷ 17 ∷ 17 ∷ 17 ∷ 17 ∷ 26 ∷ 28 ∷ 28 ∷ 28 ∷ 28 ∷ 28 ∷ []

-- messages that are taken, each point at its last page
abbrev pub NotRefused : Type 0
NotRefused =
    message_refusal Waits blank_flash version_asked 256
    ∷ message_refusal (Takes 127 1) blank_flash (replicate 256 0) 256
    ∷ message_refusal (Loads 4) blank_flash (replicate 256 0) 256
    ∷ message_refusal (Sends 0 129) blank_flash [] 256
    ∷ []
    ≡ 0 ∷ 0 ∷ 0 ∷ 0 ∷ []

-- numbers that are a state, and others
abbrev pub States : Type 0
States =
    module_point (radio_target 0 0 0)
    ∷ module_point (radio_target 1 5 2)
    ∷ module_point (radio_target 2 0 3)
    ∷ module_point (radio_target 3 128 1)
    ∷ module_point (radio_target 0 1 0)
    ∷ module_point (radio_target 0 0 1)
    ∷ module_point (radio_target 2 1 1)
    ∷ module_point (radio_target 4 0 0)
    ∷ []
    ≡ Some Waits ∷ Some (Takes 5 2) ∷ Some (Loads 3) ∷ Some (Sends 128 1) ∷ None ∷ None ∷ None ∷ None ∷ []

-- a refused message has no reply and gives the state back as it came
abbrev pub RefusedStays : Type 0
RefusedStays =
    radio_stepped (radio_target 1 7 9) blank_flash version_asked 256
    ≡ record { number = 28; reply = []; target = radio_target 1 7 9; flash = blank_flash }

-- a version that is asked for is told; the module then waits for a command
abbrev pub VersionTold : Type 0
VersionTold =
    radio_stepped (radio_target 0 0 0) blank_flash version_asked 256
    ≡ record { number = 0; reply = built (radio_command InfSwVersion 0 0 0); target = radio_target 0 0 0; flash = blank_flash }

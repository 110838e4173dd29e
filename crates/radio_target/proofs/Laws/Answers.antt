-- The worked examples of `Answers`, by computing.
use mathlib.Core.Path.{refl}
use Rattle.radio_command.specs.Command.{name_of, command_sum, built}
use Rattle.radio_flash.specs.Flash.{flash_page, is_protected, is_erased, page_set, byte_set, mass_erased}
use Rattle.radio_target.specs.Deeds.{rd_flash_byte, wr_flash_byte, rd_flash_page, wr_flash_page, rd_prg_area, wr_prg_area}
use Rattle.radio_target.specs.Deeds.{wr_blank_chk, wr_prg_xram}
use Rattle.radio_target.specs.Model.{commanded, message_refusal}
use Rattle.radio_target.specs.State.{module_state, module_point, radio_stepped}
use Rattle.radio_target.specs.Answers.{blank_flash, protected_flash, AllDone, on_blank, on_protected, SumFirst, NotListed}
use Rattle.radio_target.specs.Answers.{ConfigurationData, DataGoOn, AreaErased, PageSent, ProgramDropped}
use Rattle.radio_target.specs.Answers.{ProgramGoesOn, Refusals, NotRefused, States, RefusedStays, VersionTold}

pub done_on_blank : AllDone blank_flash on_blank
unfolding is_protected flash_page commanded built name_of command_sum is_erased byte_set rd_flash_byte wr_flash_byte rd_flash_page wr_flash_page rd_prg_area wr_prg_area wr_blank_chk wr_prg_xram
done_on_blank = refl

pub done_on_protected : AllDone protected_flash on_protected
unfolding is_protected flash_page commanded built name_of command_sum is_erased byte_set rd_flash_byte wr_flash_byte rd_flash_page wr_flash_page rd_prg_area wr_prg_area wr_blank_chk wr_prg_xram
done_on_protected = refl

pub sum_first : SumFirst
unfolding commanded command_sum name_of
sum_first = refl

pub not_listed : NotListed
unfolding commanded command_sum name_of
not_listed = refl

pub configuration_data : ConfigurationData
unfolding page_set built command_sum
configuration_data = refl

pub data_go_on : DataGoOn
unfolding page_set built command_sum
data_go_on = refl

pub area_erased : AreaErased
unfolding mass_erased byte_set
area_erased = refl

pub page_sent : PageSent
unfolding byte_set flash_page
page_sent = refl

pub program_dropped : ProgramDropped
program_dropped = refl

pub program_goes_on : ProgramGoesOn
program_goes_on = refl

pub refusals : Refusals
unfolding message_refusal
refusals = refl

pub not_refused : NotRefused
unfolding message_refusal
not_refused = refl

pub states : States
unfolding module_point
states = refl

pub refused_stays : RefusedStays
unfolding radio_stepped module_point message_refusal
refused_stays = refl

pub version_told : VersionTold
unfolding radio_stepped module_point module_state message_refusal commanded command_sum name_of built
version_told = refl

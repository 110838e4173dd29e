-- A session over one page, computed: where the page is begun, where its erase and its read-back fall.
use mathlib.Core.Path.{◌≡◌, refl}
use mathlib.Core.List.{List, [], ◌∷◌}
use Prim.Native.Nat.{ℕ}
use lib.ListN.{replicate}
use Rattle.numbers.specs.Numbers.{done, running}
use Rattle.c2_wire.specs.Bits.{bits, bit, odd}
use Rattle.c2_wire.specs.Step.{drives}
use Rattle.c2_wire.specs.Exchange.{Exchange, after, fed, outcome_of}
use Rattle.c2_wire.specs.Frames.{sends, ins_code, frame, waiting, strobes}
use Rattle.settings.specs.declared.Settings.{Settings}
use Rattle.settings.specs.Registers.{no_pairs, pairs_from}
use Rattle.c2_order.specs.Acts.{coded_length, length_code, input_taken, output_ready, put, get, status, puts, compares, erase, block_command, block_write, block_read}
use Rattle.c2_order.specs.Order.{Page, pages, rising, blocks, joined, lead, pair_acts, preparation, page_acts, order, session_order}
use Rattle.c2_order.specs.Conversation.{limits_of, polling, conversation}
use Rattle.c2_target.specs.Delays.{Setup, list_place, delay, next_place}
use Rattle.c2_target.specs.Commands.{erased, stored, in_flash, opens, takes_put, some_output, first_byte, other_bytes}
use Rattle.c2_target.specs.Interface.{in_busy, out_ready, status_bits, linked, shown, given, late_of, place_after, put_byte, get_byte, counted, next_keys, begun, met_written, prepared, frame_does}
use Rattle.c2_target.specs.Strobes.{line, marked, sending, frame_begins, after_ins, after_write_length, after_read_length, after_address, after_data, after_long_data, value_sent, after_wait, strobed_at}
use Rattle.c2_target.specs.Target.{cleared, fresh, after_reset, after_pause, stepped}
use Rattle.c2_play.specs.Playing.{played}
use Rattle.c2_play.specs.Pages.{up_to}

abbrev settings : Settings
settings = record { id = 0x04; fpdat = 0xb4; size = 512; count = 1; wait = 20; pairs = no_pairs }

abbrev setup : Setup
setup = record { settings = settings; wait = 20; wanted = no_pairs; delays = [] }

abbrev blank : List ℕ
blank = replicate 512 0

abbrev page : Page
page = record { number = 0; offset = 0; bytes = replicate 512 0x5a }

abbrev whole : Exchange
whole = conversation (limits_of settings) (order settings (page ∷ []))

-- the number of the order up to some pages, after n of the target's replies
abbrev number_after : List Page → ℕ → ℕ
number_after ps n = (outcome_of (fed (conversation (limits_of settings) (up_to settings ps)) (played (stepped setup) n whole fresh blank).replies)).number

abbrev flash_at : ℕ → List ℕ
flash_at n = (played (stepped setup) n whole fresh blank).flash

-- The lead takes 75 steps. The page is erased at its 135th step, the 210th of all; its read-back ends with
-- the 28,593rd.
pub one_page : ((number_after [] 74 ≡ running) × (number_after [] 75 ≡ done) × (flash_at 209 ≡ blank) × (flash_at 210 ≡ replicate 512 0xff)
    × (number_after (page ∷ []) 28592 ≡ running) × (number_after (page ∷ []) 28593 ≡ done))
unfolding bits bit odd drives sends ins_code frame waiting strobes coded_length length_code input_taken output_ready put get status puts compares erase block_command block_write block_read pages rising blocks joined lead pair_acts preparation pairs_from page_acts order session_order polling conversation list_place delay next_place erased stored in_flash opens takes_put some_output first_byte other_bytes in_busy out_ready status_bits linked shown given late_of place_after put_byte get_byte counted next_keys begun met_written prepared frame_does line marked sending frame_begins after_ins after_write_length after_read_length after_address after_data after_long_data value_sent after_wait strobed_at cleared fresh after_reset after_pause stepped played fed after outcome_of
one_page = (refl, refl, refl, refl, refl, refl)

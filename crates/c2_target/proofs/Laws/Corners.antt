-- The table of specs/Corners.antt agrees with the paper, each row by computing. Where a row does not, the message
-- is about the whole table: a `?` for all that follows a row tells whether the table agrees so far.
use mathlib.Core.Path.{refl}
use Rattle.c2_wire.specs.Bits.{bits, bit, odd, number}
use Rattle.c2_wire.specs.Step.{code, drives}
use Rattle.c2_wire.specs.Frames.{sends, ins_code, frame}
use Rattle.c2_wire.specs.Place.{strobe_step}
use Rattle.settings.specs.Accepted.{is_fpdat, is_page_size, is_page_count, settings_refusal}
use Rattle.settings.specs.Registers.{pairs_from, are_registers, are_pairs}
use Rattle.c2_order.specs.Acts.{coded_length}
use Rattle.c2_target.specs.Delays.{list_place, delay, next_place}
use Rattle.c2_target.specs.Commands.{erased, stored, in_flash, opens, takes_put, some_output, first_byte, other_bytes}
use Rattle.c2_target.specs.Interface.{in_busy, out_ready, status_bits, linked, shown, given, late_of, place_after, put_byte, get_byte, counted, next_keys, begun, met_written, prepared, frame_does}
use Rattle.c2_target.specs.Strobes.{line, marked, sending, frame_begins, after_ins, after_write_length, after_read_length, after_address, after_data, after_long_data, value_sent, after_wait, strobed_at}
use Rattle.c2_target.specs.Known.{hearing, is_byte, known_effect, after_its_wait, is_sent, known_point, most_keys, is_count, known_block, known_command, known_output, known_link, known}
use Rattle.c2_target.specs.Target.{step_coded, cleared, fresh, after_reset, after_pause, stepped, is_step, setup_refusal, step_refusal, answer, flash_after}
use Rattle.c2_target.specs.Steps.{own_replies, left_by}
use Rattle.c2_target.specs.Corners.{move_steps, steps_given, byte_read, bytes_read, fresh_replies, reads, fresh_after, keys, wanting_reads, wanting_after}
use Rattle.c2_target.specs.Corners.{table, ◌&◌, no_more, Corners}

pub corners : Corners
unfolding bits bit odd number drives code sends ins_code frame strobe_step coded_length list_place delay next_place erased stored in_flash opens takes_put some_output first_byte other_bytes in_busy out_ready status_bits linked shown given late_of place_after put_byte get_byte counted next_keys begun met_written prepared frame_does line marked sending frame_begins after_ins after_write_length after_read_length after_address after_data after_long_data value_sent after_wait strobed_at cleared fresh after_reset after_pause stepped hearing is_byte known_effect after_its_wait is_sent known_point most_keys is_count known_block known_command known_output known_link known step_coded is_step is_fpdat is_page_size is_page_count settings_refusal pairs_from are_registers are_pairs setup_refusal step_refusal answer flash_after own_replies left_by move_steps steps_given byte_read bytes_read fresh_replies reads fresh_after keys wanting_reads wanting_after table
corners =
    -- I
    refl & refl & refl & refl & refl & refl & refl & refl & refl & refl & refl & refl & refl & refl & refl & refl & refl & refl & refl & refl &
    refl & refl & refl & refl & refl & refl & refl & refl & refl & refl & refl & refl &
    -- II
    refl & refl & refl & refl & refl & refl & refl & refl & refl & refl & refl & refl & refl & refl & refl & refl & refl & refl &
    -- III
    refl & refl & refl & refl & refl & refl & refl & refl & refl & refl & refl & refl & refl & refl & refl & refl & refl & refl & refl & refl &
    refl &
    -- IV
    refl & refl & refl & refl & refl & refl & refl & refl & refl & refl & refl & refl & refl & refl & refl & refl & refl & refl & refl &
    -- V
    refl & refl & refl & refl & refl & refl & refl & refl & refl & refl & refl & refl & refl & refl & refl & refl & refl & refl & refl & refl &
    -- VI
    refl & refl & refl & refl & refl & refl & refl & refl & refl & refl & refl & refl & refl & refl & refl & refl & refl & refl & refl & refl &
    refl & refl & refl & refl & refl & refl & refl & refl & refl & refl &
    -- VII
    refl & refl & refl & refl & refl & refl & refl & refl & refl & refl & refl & refl & refl & refl & refl & refl & refl & refl & refl & refl &
    refl & refl & refl & refl & refl & refl & refl & refl & refl & refl &
    no_more

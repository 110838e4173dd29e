-- The worked examples, by computing.
use mathlib.Core.Path.{refl}
use Rattle.exchange.specs.Exchange.{said, brought}
use Rattle.radio_command.specs.Command.{name_of, command_sum, built, read_named, read_command}
use Rattle.radio_job.specs.Image.{is_mask, mask_fits, image_fits, input_number, padded, split_pages, merged}
use Rattle.radio_job.specs.Job.{answer_ending, confirmed, fetched, fed_pages, same_bytes, shared, page_ending, pages_compared, protects}
use Rattle.radio_job.specs.Job.{restores, job}
use Rattle.radio_job.specs.Examples.{Examples}

pub examples_hold : Examples
unfolding brought said job restores protects pages_compared page_ending shared same_bytes fed_pages fetched confirmed answer_ending padded split_pages merged name_of command_sum built read_named read_command is_mask mask_fits image_fits input_number
examples_hold =
    record {
      to_the_end = refl;
      two_pages_fed = refl;
      third_byte_differs = refl;
      error_reply = refl;
      empty_reply = refl;
      other_command = refl;
      error_for_page = refl;
      too_early = refl;
      example_accepted = refl;
      no_image_given = refl;
      names_byte_2 = refl;
      half_named = refl;
      short_data = refl;
    }

-- The worked examples, computed.
use mathlib.Core.Path.{refl}
use Rattle.settings.specs.Accepted.{is_page_size}
use Rattle.dump_ranges.specs.Ranges.{grown, ranges_from, listed, equal_bytes}
use Rattle.dump_ranges.specs.Answers.{are_dumps, dump_refusal, ranges_found, ranges_refused, ranges_answer, list_filled, ranges_list}
use Rattle.dump_ranges.specs.Answers.{first_found, first_refused, first_answer}
use Rattle.dump_ranges.specs.Examples.{ranges_told, first_told, dump_table, ExamplesAgree}

pub examples_agree : ExamplesAgree
unfolding dump_table ranges_told first_told ranges_answer ranges_list ranges_found ranges_refused list_filled first_answer first_found first_refused dump_refusal are_dumps is_page_size ranges_from grown listed equal_bytes
examples_agree = (refl, (refl, (refl, (refl, (refl, (refl, (refl, (refl, (refl, (refl, (refl, tt)))))))))))

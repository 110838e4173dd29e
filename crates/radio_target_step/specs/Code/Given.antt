-- What a step gives back by what the code gives, which says of a refused one only why. For the code alone:
-- `radio_stepped` of State in radio_target says the same of a step.
use Rattle.std.specs.Prelude.{Result, Ok, Err}
use Rattle.numbers.specs.declared.Refusal.{Refusal}
use Rattle.numbers.specs.Numbers.{refusal_number}
use Rattle.radio_target.specs.declared.RadioTarget.{RadioTarget}
use Rattle.radio_target.specs.declared.RadioReplied.{RadioReplied}
use Rattle.radio_target.specs.State.{replied_with}

abbrev pub gives_back : RadioTarget → Result RadioReplied Refusal → RadioReplied
gives_back t (Ok r) = r
gives_back t (Err e) = replied_with (refusal_number e) 0 t

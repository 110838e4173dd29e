use mathlib.Core.Path.{◌≡◌}
use mathlib.Core.List.{◌++◌}
use lib.ListN.{length, take, drop}
use Rattle.hex_format.specs.Digits.{octets}
use Rattle.hex_read.proofs.fill.place.Given as goal

abbrev pub invariant-loop-i : goal.invariant-loop-i
invariant-loop-i l = (l.part ≡ take l.i (octets l.s) ++ drop l.i l.initial.part) × (length l.part ≡ length l.initial.part)

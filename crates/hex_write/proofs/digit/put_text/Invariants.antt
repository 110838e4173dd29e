use Rattle.std.proofs.Common.{◌≡◌, ◌*◌, ◌++◌, length, take, drop}
use Rattle.hex_format.specs.Digits.{text}
use Rattle.hex_write.proofs.digit.put_text.Given as goal

abbrev pub invariant-loop-i : goal.invariant-loop-i
invariant-loop-i l = (l.out ≡ take (2 * l.i) (text l.s) ++ drop (2 * l.i) l.initial.out) × (length l.out ≡ length l.initial.out)

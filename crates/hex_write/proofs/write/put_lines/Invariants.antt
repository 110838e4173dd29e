use Rattle.std.proofs.Common.{◌≡◌, ◌*◌, ◌++◌, length, drop}
use Rattle.hex_write.specs.Code.Firsts.{firsts}
use Rattle.hex_write.proofs.write.put_lines.Given as goal

abbrev pub invariant-loop-r : goal.invariant-loop-r
invariant-loop-r l = (l.out ≡ firsts l.r l.a l.image ++ drop (44 * l.r) l.initial.out) × (length l.out ≡ length l.initial.out)

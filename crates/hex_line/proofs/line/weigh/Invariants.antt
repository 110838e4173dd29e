use Rattle.std.proofs.Common.{◌≡◌}
use Rattle.std.specs.Slice.Iter.{chunks_exact_size, chunks_exact_rest}
use Rattle.hex_line.proofs.Laws.Weighing.{Weighing}
use Rattle.hex_line.proofs.line.weigh.Given as goal

abbrev pub invariant-loop-pair : goal.invariant-loop-pair
invariant-loop-pair l = (chunks_exact_size l.pair-iterator ≡ 2) × Weighing l.s (chunks_exact_rest l.pair-iterator) l.sum

use Rattle.settings.specs.Registers.{are_pairs, are_registers, pairs_from}
use Rattle.settings.proofs.registers.are_pairs.Goals as goal

pub returns-then-p-eq0 : goal.returns-then-p-eq0
unfolding are_pairs are_registers pairs_from
returns-then-p-eq0 c = rw c.if-p-eq0.true

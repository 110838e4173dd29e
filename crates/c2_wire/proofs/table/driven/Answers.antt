-- `c2_wire::table::driven` meets its contract: one test over all 2,048 entries gives each entry's rule, by
-- `table_drives` of Laws/Table.
use mathlib.Core.Path.{refl, ap, ◌∙◌}
use borrow.Author.Rules.{rules}
use Rattle.c2_wire.specs.Bits.{bits, odd}
use Rattle.c2_wire.specs.Step.{code}
use Rattle.c2_wire.specs.Code.Script.{code_word, driven_codes}
use Rattle.c2_wire.proofs.Laws.Script.{driven_word_small}
use Rattle.c2_wire.proofs.Laws.Table.{right, table_drives}
use Rattle.c2_wire.proofs.table.driven.Goals as goal

pub returns : goal.returns
unfolding right driven_codes bits odd code
returns c =
    let e = c.word.ensures ∙ ap code_word (table_drives _ refl refl c.args.byte (search rules)) in
    record { value = e; upper_bound = rw e (driven_word_small c.args.byte) }

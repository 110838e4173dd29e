-- `hex_read::map::mark` meets its contract: by the laws of Marking.
use mathlib.Core.Path.{refl, sym, ◌∙◌}
use native.Mathlib.Omega.{arith}
use borrow.Author.Rules.{rules}
use lib.ListN.{length-set}
use Rattle.hex_read.proofs.Laws.Marking.{run_none, run_more, run_stops}
use Rattle.hex_read.proofs.map.mark.Goals as goal

pub loop-i-init : goal.loop-i-init
loop-i-init c = (run_none c.args.map.now c.args.a, search rules)

pub returns-then-bit-ne0 : goal.returns-then-bit-ne0
returns-then-bit-ne0 c =
    let l = c.loop-i in
    (refl, run_stops c.args.map.now l.map c.args.a l.i l.invariant.0 (omega arith) c.args.n (omega arith) (λ z. c.if-bit-ne0.true (c.bit.ensures ∙ z)))

pub loop-i-preserved : goal.loop-i-preserved
loop-i-preserved c =
    let l = c.loop-i in
    (rw c.with_bit.ensures (run_more c.args.map.now l.map c.args.a l.i l.invariant.0 (omega arith) (sym c.bit.ensures ∙ c.if-bit-ne0.false)), simp length-set l.invariant.1)

-- `c2_record::held::holds` meets its contract: by the law of Holds, that its tests in turn decide.
use mathlib.Core.Path.{◌≡◌, ◌∙◌}
use mathlib.Core.Bool.{false, cond}
use Rattle.laws.proofs.Pick.{pick_true, pick_false, pick_call_true, pick_call_false}
use Rattle.c2_range.specs.Range.{opening_in_range}
use Rattle.c2_record.specs.Record.{byte}
use Rattle.c2_record.specs.Code.Spare.{unused, spare}
use Rattle.c2_record.proofs.Laws.Holds.{tests_hold}
use Rattle.c2_record.proofs.held.holds.Goals as goal
use Rattle.c2_record.proofs.held.holds.Goals.{then-spare, else-spare, then-opening_in_range, else-opening_in_range}

pub returns-then-unused : goal.returns-then-unused
returns-then-unused c =
    let r = c.args.r.now in
    let opens : c.if-spare.value ≡ cond (spare r) (opening_in_range c.read_settings-t.result (byte r 5) c.from-pages.result) false
    = elim c.if-spare.branch [
      | then-spare w ↦ pick_call_true _ _ _ _ _ c.spare.ensures w.if-spare.true (rw (← w.from.ensures) (w.value-is ∙ w.opening_in_range.ensures))
      | else-spare w ↦ pick_call_false _ _ _ _ _ c.spare.ensures w.if-spare.false (w.value-is ∙ w.if-spare.false)
    ] in
    let tidy : c.if-opening_in_range.value ≡ cond c.if-spare.value (unused r) false
    = elim c.if-opening_in_range.branch [
      | then-opening_in_range w ↦ pick_true _ _ _ _ w.if-opening_in_range.true (w.value-is ∙ w.unused.ensures)
      | else-opening_in_range w ↦ pick_false _ _ _ _ w.if-opening_in_range.false (w.value-is ∙ w.if-opening_in_range.false)
    ] in
    tests_hold r c.told-r c.fits-r _ c.read_settings-t.ensures _ c.from-pages.ensures _ _ _ opens tidy (pick_true _ _ _ _ c.if-unused.true c.point_holds.ensures)

pub returns-else-unused : goal.returns-else-unused
returns-else-unused c =
    let r = c.args.r.now in
    let opens : c.if-spare.value ≡ cond (spare r) (opening_in_range c.read_settings-t.result (byte r 5) c.from-pages.result) false
    = elim c.if-spare.branch [
      | then-spare w ↦ pick_call_true _ _ _ _ _ c.spare.ensures w.if-spare.true (rw (← w.from.ensures) (w.value-is ∙ w.opening_in_range.ensures))
      | else-spare w ↦ pick_call_false _ _ _ _ _ c.spare.ensures w.if-spare.false (w.value-is ∙ w.if-spare.false)
    ] in
    let tidy : c.if-opening_in_range.value ≡ cond c.if-spare.value (unused r) false
    = elim c.if-opening_in_range.branch [
      | then-opening_in_range w ↦ pick_true _ _ _ _ w.if-opening_in_range.true (w.value-is ∙ w.unused.ensures)
      | else-opening_in_range w ↦ pick_false _ _ _ _ w.if-opening_in_range.false (w.value-is ∙ w.if-opening_in_range.false)
    ] in
    tests_hold r c.told-r c.fits-r _ c.read_settings-t.ensures _ c.from-pages.ensures _ _ _ opens tidy (pick_false _ _ _ _ c.if-unused.false c.if-unused.false)

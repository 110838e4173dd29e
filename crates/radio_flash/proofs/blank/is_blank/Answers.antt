-- `radio_flash::blank::is_blank` meets its contract: the part that it looks at is what there is of the area.
use Rattle.std.proofs.Common.{arith, take, nat_eq, refl, sym, ◌∙◌, ne_eqb, eq-eqb, get_or-take, length-take}
use Rattle.std.proofs.lemmas.List.{take_min}
use Rattle.std.proofs.lemmas.List.Recursion.{and_fails_at, and_from_places}
use Rattle.radio_flash.specs.Flash.{is_erased}
use Rattle.radio_flash.proofs.blank.is_blank.Goals as goal

pub loop-b-preserved : goal.loop-b-preserved
loop-b-preserved c = grind (arith, get_or-take c.min.result c.args.flash.now c.loop-b.b-index 0, length-take c.min.result c.args.flash.now)

pub returns-then-b : goal.returns-then-b
unfolding is_erased
returns-then-b c =
    rw (← take_min 32768 c.args.flash.now, ← c.min.ensures)
    (sym (and_fails_at is_erased (λ x. nat_eq x 0xFF) refl (λ _ _. refl) _ c.loop-b.b-index 0 c.loop-b-test.true (ne_eqb _ _ c.if-b.true)))

pub returns : goal.returns
unfolding is_erased
returns c =
    let long = length-take c.min.result c.args.flash.now in
    rw (← take_min 32768 c.args.flash.now, ← c.min.ensures)
    (sym (and_from_places is_erased (λ x. nat_eq x 0xFF) refl (λ _ _. refl) (take c.min.result c.args.flash.now) 0
    (λ i l. eq-eqb _ _ (get_or-take c.min.result c.args.flash.now i 0 (omega arith) ∙ c.loop-b.invariant i (omega arith)))))

-- A state in form is that of the target that it says, and any other is none's.
use Rattle.std.proofs.Common.{sym, ◌∙◌, arith}
use Rattle.c2_target_state.proofs.Laws.Form.{Small, held_form, no_form}
use Rattle.c2_target_state.proofs.decode.TargetTryFromState.try_from.Goals as goal

pub returns-then-not-in_form : goal.returns-then-not-in_form
returns-then-not-in_form c = rw (no_form c.args.s (sym c.in_form.ensures ∙ c.if-not-in_form.true))

pub returns : goal.returns
returns c =
    let s = c.args.s in
    let small : Small s = record { heard = omega arith; value = omega arith; left = omega arith; zeros = omega arith; byte = omega arith; address = omega arith; keys = omega arith; page = omega arith; high = omega arith; busy = omega arith; late = omega arith; start = omega arith; rest = omega arith; next = omega arith; count = omega arith } in
    rw (held_form s small (sym c.in_form.ensures ∙ c.if-not-in_form.false), c.target_read.ensures)

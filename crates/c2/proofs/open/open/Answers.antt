-- `c2::open::open` meets its contract: each return by the laws of Open.
use mathlib.Core.Path.{sym, ap, ◌∙◌}
use Rattle.std.proofs.lemmas.Result.{err_from_is_err_and}
use Rattle.c2_opening.proofs.Laws.Opened.{started_is}
use Rattle.c2_record.specs.Record.{packed}
use Rattle.c2.proofs.Laws.Open.{refuses_size, refuses_opening, opens}
use Rattle.c2.proofs.open.open.Goals as goal

pub returns-in_default : goal.returns-in_default
returns-in_default c =
    let a = c.args in
    let leaves = refuses_size a.t a.first a.image.now a.held.now c.in_default.ensures.cases in
    record { value = leaves.0; held_after = leaves.1 }

pub returns-in_err-opening_refusal : goal.returns-in_err-opening_refusal
returns-in_err-opening_refusal c =
    let a = c.args in
    let whole = c.in-Some.ensures.cases in
    let e = err_from_is_err_and c.from_residual.result c.from_residual.ensures.1 in
    let leaves = refuses_opening a.t a.first a.image.now a.held.now whole.long _ c.in_err-opening_refusal.ensures in
    record { value = rw (e.1, e.2) leaves.0; held_after = whole.same ∙ leaves.1 }

pub returns : goal.returns
returns c =
    let a = c.args in
    let accepted = c.in_ok-opening_refusal.ensures in
    let packs = c.pack.ensures ∙ ap packed (c.start.ensures ∙ started_is _ _ _ (sym accepted)) in
    let leaves = opens a.t a.first a.image.now a.held.now c.in-Some.ensures.cases.long accepted _ packs in
    record { value = leaves.0; held_after = leaves.1 }

-- `radio_record::held::unpack` meets its contract: each return by the tests on its way and what the calls
-- give.
use Rattle.std.proofs.Common.{◌≡◌, refl, sym, ap, ◌∙◌, length, rules}
use Rattle.radio_record.specs.Record.{kept_pair, point_read, job_kept}
use Rattle.radio_record.proofs.Laws.Record.{not_520_bytes, tells_no_point, mask_no_fit, kept_checked, numbers_part}
use Rattle.radio_record.proofs.held.unpack.Goals as goal

pub returns-in_default : goal.returns-in_default
returns-in_default c = not_520_bytes _ c.in_default.ensures.1

pub returns-in_err-point : goal.returns-in_err-point
returns-in_err-point c =
    let k = c.in-Ok.ensures.1 in
    let long = ap length k.same ∙ k.long in
    let read = sym (ap point_read c.read_fields.ensures) ∙ sym c.read_point.ensures in
    c.from_residual.ensures ∙ tells_no_point _ long (read ∙ c.in_err-point.was) ∙ ap job_kept k.same

pub returns-then-not-mask_fits : goal.returns-then-not-mask_fits
returns-then-not-mask_fits c =
    let k = c.in-Ok.ensures.1 in
    let long = ap length k.same ∙ k.long in
    let read = sym (ap point_read c.read_fields.ensures) ∙ sym c.read_point.ensures in
    mask_no_fit _ long _ (read ∙ c.in_ok-point.was) _ refl (sym c.if-not-mask_fits.ensures) ∙ ap job_kept k.same

pub returns : goal.returns
returns c =
    let k = c.in-Ok.ensures.1 in
    let long = ap length k.same ∙ k.long in
    let read = sym (ap point_read c.read_fields.ensures) ∙ sym c.read_point.ensures in
    let pair : c.from-bytes.result ≡ kept_pair c.in-Ok.r.now 512 = search rules in
    kept_checked _ long _ (read ∙ c.in_ok-point.was) _ refl (sym c.if-not-mask_fits.ensures) _ _ _ pair (numbers_part c.in-Ok.r.now long) c.checked.ensures
    ∙ ap job_kept k.same

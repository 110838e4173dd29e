-- `c2_report::programmed` meets its contract: each return by the laws of Report.
use mathlib.Core.Path.{◌≡◌, sym, ◌∙◌}
use lib.ListN.{length}
use Rattle.std.proofs.lemmas.Result.{err_from_is_err_and}
use Rattle.laws.proofs.Bytes.{bytes_all}
use Rattle.c2_report.proofs.Laws.Report.{reports_long, reports_refused, reports_run}
use Rattle.c2_report.proofs.programmed.Goals as goal

pub returns-then-image-gt-FLASH : goal.returns-then-image-gt-FLASH
returns-then-image-gt-FLASH c = sym (reports_long c.args.image.now c.if-image-gt-FLASH.true)

pub returns-in_err-opening_refusal : goal.returns-in_err-opening_refusal
returns-in_err-opening_refusal c =
    let e = err_from_is_err_and c.from_residual.result c.from_residual.ensures.1 in
    rw (e.1, e.2) (sym (reports_refused c.args.image.now c.if-image-gt-FLASH.false _ c.in_err-opening_refusal.ensures))

pub returns : goal.returns
returns c =
    let image = c.args.image.now in
    let bytes = bytes_all image (λ i. (c.shared_slice_known-1.given i).fits) in
    sym (reports_run image c.if-image-gt-FLASH.false bytes (sym c.in_ok-opening_refusal.ensures) _ c.c2_program.ensures.value)

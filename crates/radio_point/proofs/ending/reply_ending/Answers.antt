-- `radio_point::ending::reply_ending`: a page of a point that fits is one of the image's.
use Rattle.std.proofs.Common.{length, sym, ap, ◌∙◌}
use borrow.Author.Tests.{ltb-true}
use Rattle.radio_job.specs.State.{point_fits}
use Rattle.radio_job.proofs.Laws.Image.{sized}
use Rattle.radio_point.proofs.ending.reply_ending.Goals as goal

pub page_ending-requires : goal.page_ending-requires
page_ending-requires c =
    let at = c.args.at in
    (ltb-true _ _ (sym (ap (point_fits (length at.image.now)) c.in-TakesPage.is) ∙ at.point_fits), (sized _ at.image_fits).few)

-- `radio_say::message::feed` meets its contract: each return by the tests on its way and what the calls give.
use Rattle.std.proofs.Common.{sym, ◌∙◌, arith}
use Rattle.radio_job.proofs.Laws.Image.{image_page_long}
use Rattle.radio_say.proofs.Laws.Said.{says_feeds_more, says_feeds_last, page_more, page_last, speaks_page}
use Rattle.radio_point.proofs.Laws.Compare.{put_page_is}
use Rattle.radio_say.proofs.message.feed.Goals as goal

pub returns-in-Some : goal.returns-in-Some
returns-in-Some c =
    let more = page_more _ _ _ (sym c.next_page.ensures ∙ c.in-Some.is) in
    let k = speaks_page _ _ c.args.out.now _ _ 0 (omega arith) (says_feeds_more _ _ _ c.requires more) (image_page_long _ _ c.requires) c.says.ensures (c.put_page.ensures ∙ put_page_is _ _ _ (omega arith) c.requires) in
    record { value = k.0; out_after = k.1 }

pub returns-in-None : goal.returns-in-None
returns-in-None c =
    let last = page_last _ _ (sym c.next_page.ensures ∙ c.in-None.is) in
    let k = speaks_page _ _ c.args.out.now _ _ 8 (omega arith) (says_feeds_last _ _ _ c.requires last) (image_page_long _ _ c.requires) c.says-in-None.ensures (c.put_page.ensures ∙ put_page_is _ _ _ (omega arith) c.requires) in
    record { value = k.0; out_after = k.1 }

-- `radio_image::put_page` meets its contract: each return by the tests on its way and what the calls give.
use Rattle.std.proofs.Common.{ℕ, ◌≡◌, rules, arith, length, drop, replicate}
use Rattle.radio_image.proofs.Laws.Page.{other_buffer, other_page, put_is}
use Rattle.radio_image.proofs.put_page.Goals as goal
use Rattle.radio_image.proofs.put_page.Goals.{then-out-ne-PAGE_BYTES-via-then-out-ne-PAGE_BYTES, then-out-ne-PAGE_BYTES-via-else-out-ne-PAGE_BYTES+then-pages_for-page}

pub returns-then-out-ne-PAGE_BYTES : goal.returns-then-out-ne-PAGE_BYTES
returns-then-out-ne-PAGE_BYTES c =
    elim c.then-out-ne-PAGE_BYTES.branch [
      | then-out-ne-PAGE_BYTES-via-then-out-ne-PAGE_BYTES w ↦ other_buffer _ _ _ w.if-out-ne-PAGE_BYTES.true
      | then-out-ne-PAGE_BYTES-via-else-out-ne-PAGE_BYTES+then-pages_for-page w ↦ other_page _ _ _ w.if-out-ne-PAGE_BYTES.false (omega arith)
    ]

pub returns : goal.returns
returns c =
    let long = c.if-out-ne-PAGE_BYTES.false in
    let filled : c.fill.new.self ≡ replicate (length c.args.out.now) 0xFF = search rules in
    put_is _ _ (omega arith) _ _ _ _ long filled c.min-end.ensures c.copy_from_slice.ensures.after

-- `radio_point::ending::page_ending` meets its contract: each return by the tests on its way and what the
-- calls give.
use Rattle.std.proofs.Common.{refl, sym, ◌∙◌, arith}
use Rattle.radio_point.proofs.Laws.Compare.{whole_page, page_agrees, page_disagrees, shares_at}
use Rattle.radio_point.proofs.ending.page_ending.Goals as goal

pub returns-then-at-eq-PAGE_BYTES : goal.returns-then-at-eq-PAGE_BYTES
returns-then-at-eq-PAGE_BYTES c =
    let l = whole_page _ (sym c.length_ending.ensures ∙ c.in_ok-length_ending.was) in
    page_agrees _ _ _ _ _ _ c.requires.0 l c.put_page.ensures refl c.shared-at.ensures c.if-at-eq-PAGE_BYTES.true

pub overflow_add-result : goal.overflow_add-result
overflow_add-result c =
    let l = whole_page _ (sym c.length_ending.ensures ∙ c.in_ok-length_ending.was) in
    let m = shares_at _ _ _ c.shared-at.ensures in let p = c.requires in omega (arith, m, l, p.0, p.1)

pub overflow_cast-result : goal.overflow_cast-result
overflow_cast-result c =
    let l = whole_page _ (sym c.length_ending.ensures ∙ c.in_ok-length_ending.was) in
    let m = shares_at _ _ _ c.shared-at.ensures in let p = c.requires in omega (arith, m, l, p.0, p.1)

pub returns : goal.returns
returns c =
    let l = whole_page _ (sym c.length_ending.ensures ∙ c.in_ok-length_ending.was) in
    page_disagrees _ _ _ _ _ _ c.requires.0 l c.put_page.ensures refl c.shared-at.ensures c.if-at-eq-PAGE_BYTES.false

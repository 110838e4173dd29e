-- `radio_target_step::messages::take` meets its contract: the message is not refused, so page, message, flash and
-- room fit the point.
use Rattle.std.proofs.Common.{◌≡◌, ℕ, ◌<◌, arith, ap, ◌∙◌, length-take, length-drop, add-one, ne_eqb}
use Rattle.radio_command.specs.Command.{built}
use Rattle.radio_flash.specs.Code.Changes.{change_made}
use Rattle.radio_flash.proofs.Laws.Changes.{is_made, is_put}
use Rattle.radio_target.specs.State.{module_state, replied_with}
use Rattle.radio_target.proofs.Laws.Deeds.{commanded_lies}
use Rattle.radio_target.proofs.Laws.Model.{waits_fit, takes_fit, loads_fit, sends_fit, page_copied, page_told}
use Rattle.radio_target_step.proofs.messages.take.Goals as goal

pub answer-requires : goal.answer-requires
answer-requires c = (waits_fit c.args.flash.now c.args.m.now _ c.args.p c.in-Waits.is c.requires).1.1

pub returns-in-Waits-clause-value : goal.returns-in-Waits-clause-value
unfolding built
returns-in-Waits-clause-value c = rw c.in-Waits.is (c.taken.ensures ∙ ap (λ z. replied_with 0 8 (module_state z.point)) c.commanded-d.ensures)

pub returns-in-Waits-clause-flash_after : goal.returns-in-Waits-clause-flash_after
returns-in-Waits-clause-flash_after c =
    let k = waits_fit c.args.flash.now c.args.m.now _ c.args.p c.in-Waits.is c.requires in
    rw c.in-Waits.is (
    c.change.ensures ∙ ap (λ z. change_made z.change c.args.flash.now) c.commanded-d.ensures
    ∙ is_made _ c.args.flash.now k.1.0 (commanded_lies c.args.m.now c.args.flash.now (c.type_inv.m 5).fits))

pub answer-requires-then-left-eq0 : goal.answer-requires-then-left-eq0
answer-requires-then-left-eq0 c = (takes_fit c.args.flash.now c.args.m.now _ c.args.p _ _ c.in-Takes.is c.requires).1.1.1.1

pub overflow_add-page : goal.overflow_add-page
overflow_add-page c = let k = takes_fit c.args.flash.now c.args.m.now _ c.args.p _ _ c.in-Takes.is c.requires in omega (arith, k.1.0)

pub overflow_sub-left : goal.overflow_sub-left
overflow_sub-left c = let k = takes_fit c.args.flash.now c.args.m.now _ c.args.p _ _ c.in-Takes.is c.requires in omega (arith, k.0)

pub returns-then-left-eq0 : goal.returns-then-left-eq0
unfolding built
returns-then-left-eq0 c =
    let k = takes_fit c.args.flash.now c.args.m.now _ c.args.p _ _ c.in-Takes.is c.requires in
    let h : c.in-Takes.page < 128 = omega (arith, k.0, k.1.0) in
    let last : c.in-Takes.left ≡ 1 = omega (arith, k.0) in
    record {
      value = rw (c.in-Takes.is, last) c.taken-then-left-eq0.ensures;
      flash_after = rw c.in-Takes.is (c.put_page.ensures ∙ is_put _ c.args.m.now c.args.flash.now k.1.1.1.0 h k.1.1.0);
      reply_after = rw (c.in-Takes.is, last) c.answer-then-left-eq0.ensures;
    }

pub returns-else-left-eq0 : goal.returns-else-left-eq0
returns-else-left-eq0 c =
    let k = takes_fit c.args.flash.now c.args.m.now _ c.args.p _ _ c.in-Takes.is c.requires in
    let h : c.in-Takes.page < 128 = omega (arith, k.0, k.1.0) in
    let more = ne_eqb c.in-Takes.left 1 (λ e. omega arith) in
    record {
      value = rw (c.in-Takes.is, more, ← add-one c.in-Takes.page) c.taken-else-left-eq0.ensures;
      flash_after = rw c.in-Takes.is (c.put_page.ensures ∙ is_put _ c.args.m.now c.args.flash.now k.1.1.1.0 h k.1.1.0);
      reply_after = rw (c.in-Takes.is, more);
    }

pub overflow_sub-left-in-Loads : goal.overflow_sub-left-in-Loads
overflow_sub-left-in-Loads c = let k = loads_fit c.args.flash.now c.args.m.now _ c.args.p _ c.in-Loads.is c.requires in omega (arith, k)

pub slice_bounds-copy_from_slice-end : goal.slice_bounds-copy_from_slice-end
slice_bounds-copy_from_slice-end c = (sends_fit c.args.flash.now c.args.m.now _ c.args.p _ _ c.in-Sends.is c.requires).1.1.1

pub slice_bounds-copy_from_slice-end-in-Sends : goal.slice_bounds-copy_from_slice-end-in-Sends
slice_bounds-copy_from_slice-end-in-Sends c =
    let k = sends_fit c.args.flash.now c.args.m.now _ c.args.p _ _ c.in-Sends.is c.requires in omega (arith, k.1.1.1, length-take {A = ℕ})

pub slice_bounds-copy_from_slice-end-in-Sends-2 : goal.slice_bounds-copy_from_slice-end-in-Sends-2
slice_bounds-copy_from_slice-end-in-Sends-2 c =
    let k = sends_fit c.args.flash.now c.args.m.now _ c.args.p _ _ c.in-Sends.is c.requires in omega (arith, k.0, k.1.0, k.1.1.0)

pub copy_from_slice-requires : goal.copy_from_slice-requires
copy_from_slice-requires c =
    let k = sends_fit c.args.flash.now c.args.m.now _ c.args.p _ _ c.in-Sends.is c.requires in
    omega (arith, k.0, k.1.0, k.1.1.0, k.1.1.1, length-take {A = ℕ}, length-drop {A = ℕ})

pub overflow_add-page-in-Sends : goal.overflow_add-page-in-Sends
overflow_add-page-in-Sends c =
    let k = sends_fit c.args.flash.now c.args.m.now _ c.args.p _ _ c.in-Sends.is c.requires in omega (arith, k.1.0)

pub overflow_sub-left-in-Sends : goal.overflow_sub-left-in-Sends
overflow_sub-left-in-Sends c =
    let k = sends_fit c.args.flash.now c.args.m.now _ c.args.p _ _ c.in-Sends.is c.requires in omega (arith, k.0)

pub returns-then-left-eq0-2 : goal.returns-then-left-eq0-2
returns-then-left-eq0-2 c =
    let k = sends_fit c.args.flash.now c.args.m.now _ c.args.p _ _ c.in-Sends.is c.requires in
    let h : c.in-Sends.page < 129 = omega (arith, k.0, k.1.0) in
    let last : c.in-Sends.left ≡ 1 = omega (arith, k.0) in
    record {
      value = rw (c.in-Sends.is, last) (page_told _ c.args.flash.now _ _ k.1.1.0 h c.taken-then-left-eq0-2.ensures);
      flash_after = rw c.in-Sends.is;
      reply_after = rw c.in-Sends.is (page_copied _ c.args.flash.now c.args.reply.now _ k.1.1.0 h c.copy_from_slice.ensures.after);
    }

pub returns-else-left-eq0-2 : goal.returns-else-left-eq0-2
returns-else-left-eq0-2 c =
    let k = sends_fit c.args.flash.now c.args.m.now _ c.args.p _ _ c.in-Sends.is c.requires in
    let h : c.in-Sends.page < 129 = omega (arith, k.0, k.1.0) in
    let more = ne_eqb c.in-Sends.left 1 (λ e. omega arith) in
    record {
      value =
          rw (c.in-Sends.is, more, ← add-one c.in-Sends.page)
          (page_told _ c.args.flash.now _ _ k.1.1.0 h c.taken-else-left-eq0-2.ensures);
      flash_after = rw c.in-Sends.is;
      reply_after = rw c.in-Sends.is (page_copied _ c.args.flash.now c.args.reply.now _ k.1.1.0 h c.copy_from_slice.ensures.after);
    }

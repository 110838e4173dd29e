-- `radio_advance::open::open_job` meets its contract: each return by the tests on its way and what the
-- calls give.
use Rattle.std.proofs.Common.{List, ℕ, ◌++◌, refl, ap, length, drop, ◌∙◌, arith}
use Rattle.numbers.proofs.Refused.{refused}
use Rattle.radio_advance.proofs.Laws.Open.{refuses_input, refuses_length, refuses_out, ours_room, mask_room, opens, lent_on}
use Rattle.radio_advance.proofs.open.open_job.Goals as goal

pub returns-in-Err : goal.returns-in-Err
returns-in-Err c =
    let a = c.args in
    let k = refuses_input a.held.now a.image.now a.mask.now a.ours.now a.out.now _ c.in-Err.ensures (λ z. let some = refused c.in-Err.e in omega arith) _ c.from.ensures in
    record { value = k.0; held_after = k.1.0; out_after = k.1.1 }

pub returns-in_default-as_mut_array : goal.returns-in_default-as_mut_array
returns-in_default-as_mut_array c =
    let a = c.args in
    let k = refuses_length a.held.now a.image.now a.mask.now a.ours.now a.out.now 0 c.in_default.ensures refl c.in_default-as_mut_array.ensures.cases _ c.from-in_default-as_mut_array.ensures in
    record { value = k.0; held_after = k.1.0; out_after = k.1.1 }

pub returns-then-out-lt-ROOM : goal.returns-then-out-lt-ROOM
returns-then-out-lt-ROOM c =
    let a = c.args in
    let h = c.in-Some.held.now in
    let k = lent_on h _ _ _ _ _ _ _ _ c.in-Some.ensures.cases.same
    (refuses_out h a.image.now a.mask.now a.ours.now a.out.now 0 c.in_default.ensures refl (ap length c.in-Some.ensures.cases.same ∙ c.in-Some.ensures.cases.long) c.if-out-lt-ROOM.true _ c.from-then-out-lt-ROOM.ensures) in
    record { value = k.0; held_after = k.1.0; out_after = k.1.1 }

pub returns : goal.returns
returns c =
    let a = c.args in
    let h = c.in-Some.held.now in
    let k = lent_on h _ _ _ _ _ _ _ _ c.in-Some.ensures.cases.same
    (opens h a.image.now a.mask.now a.ours.now a.out.now 0 c.in_default.ensures refl (ap length c.in-Some.ensures.cases.same ∙ c.in-Some.ensures.cases.long) c.if-out-lt-ROOM.false _ _ _ _ (ap (λ (x : List ℕ). x ++ drop 256 h) c.copy_from_slice.ensures.after) c.copy_from_slice-2.ensures.after refl c.keep_point.ensures _ _ c.say-said.ensures.value c.say-said.ensures.out_after) in
    record { value = k.0; held_after = k.1.0; out_after = k.1.1 }

pub copy_from_slice-requires : goal.copy_from_slice-requires
copy_from_slice-requires c =
    let a = c.args in
    ours_room c.in-Some.held.now a.image.now a.mask.now a.ours.now a.out.now 0 c.in_default.ensures refl (ap length c.in-Some.ensures.cases.same ∙ c.in-Some.ensures.cases.long) c.if-out-lt-ROOM.false

pub copy_from_slice-requires-2 : goal.copy_from_slice-requires-2
copy_from_slice-requires-2 c =
    let a = c.args in
    mask_room c.in-Some.held.now a.image.now a.mask.now a.ours.now a.out.now 0 c.in_default.ensures refl (ap length c.in-Some.ensures.cases.same ∙ c.in-Some.ensures.cases.long) c.if-out-lt-ROOM.false _ c.copy_from_slice.ensures.after

-- `radio_advance::advance::take_reply` meets its contract: each return by the tests on its way and what
-- the calls give.
use Rattle.std.proofs.Common.{sym, ◌∙◌}
use Rattle.radio_advance.proofs.Laws.Take.{taken_on, kept_with, refuses_other, refuses_record, refuses_image, refuses_room, accepts, lent_on}
use Rattle.radio_advance.proofs.advance.take_reply.Goals as goal

pub returns-in_default : goal.returns-in_default
returns-in_default c =
    let a = c.args in
    let k = refuses_other a.held.now a.image.now a.reply.now a.out.now c.in_default.ensures.cases _ c.from.ensures in
    record { value = k.0; held_after = k.1.0; out_after = k.1.1 }

pub returns-in_default-unpack : goal.returns-in_default-unpack
returns-in_default-unpack c =
    let a = c.args in
    let h = c.in-Some.held.now in
    let k = lent_on h _ _ _ _ _ _ _ c.in-Some.ensures.cases.same
    (refuses_record h a.image.now a.reply.now a.out.now (sym c.unpack.ensures ∙ c.in_default-unpack.is) _ c.from-in_default-unpack.ensures) in
    record { value = k.0; held_after = k.1.0; out_after = k.1.1 }

pub returns-then-image-bytes : goal.returns-then-image-bytes
returns-then-image-bytes c =
    let a = c.args in
    let h = c.in-Some.held.now in
    let j = c.in-Some-unpack.field-0 in
    let k = lent_on h _ _ _ _ _ _ _ c.in-Some.ensures.cases.same
    (refuses_image h a.image.now a.reply.now a.out.now j.bytes j.point (sym c.unpack.ensures ∙ c.in-Some-unpack.is) c.if-image-bytes.true _ c.from-then-image-bytes.ensures) in
    record { value = k.0; held_after = k.1.0; out_after = k.1.1 }

pub returns-then-out-lt-ROOM : goal.returns-then-out-lt-ROOM
returns-then-out-lt-ROOM c =
    let a = c.args in
    let h = c.in-Some.held.now in
    let j = c.in-Some-unpack.field-0 in
    let k = lent_on h _ _ _ _ _ _ _ c.in-Some.ensures.cases.same
    (refuses_room h a.image.now a.reply.now a.out.now j.bytes j.point (sym c.unpack.ensures ∙ c.in-Some-unpack.is) c.if-image-bytes.false c.if-out-lt-ROOM.true _ c.from-then-out-lt-ROOM.ensures) in
    record { value = k.0; held_after = k.1.0; out_after = k.1.1 }

pub returns : goal.returns
returns c =
    let a = c.args in
    let h = c.in-Some.held.now in
    let j = c.in-Some-unpack.field-0 in
    let f = kept_with h a.image.now j.bytes j.point (sym c.unpack.ensures ∙ c.in-Some-unpack.is) c.if-image-bytes.false in
    let t = taken_on j.point _ h _ _ a.image.now a.reply.now f.long f.image f.point c.point_after-next.ensures c.keep_page.ensures c.keep_point.ensures a.out.now c.if-out-lt-ROOM.false _ _ c.say.ensures.value c.say.ensures.out_after in
    let k = lent_on h _ _ _ _ _ _ _ c.in-Some.ensures.cases.same
    (accepts h a.image.now a.reply.now a.out.now j.bytes j.point (sym c.unpack.ensures ∙ c.in-Some-unpack.is) c.if-image-bytes.false c.if-out-lt-ROOM.false _ _ _ t.0 t.1.0 t.1.1) in
    record { value = k.0; held_after = k.1.0; out_after = k.1.1 }

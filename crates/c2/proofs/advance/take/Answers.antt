-- `c2::advance::take` meets its contract: each return by the laws of Advance, the loop's part of the step
-- buffer put back by Loop, the point put into the record by Put.
use mathlib.Core.Path.{refl, sym, ◌∙◌}
use Prim.Native.Nat.{◌+◌, ◌<◌}
use native.Mathlib.Omega.{arith}
use lib.ListN.{length}
use Rattle.c2_record.proofs.Laws.Said.{nowhere_refused}
use Rattle.c2_record.proofs.Laws.Put.{put_packs}
use Rattle.c2.specs.Code.Loop.{wrote}
use Rattle.c2.proofs.Laws.Loop.{put_back}
use Rattle.laws.proofs.Bytes.{bytes_all}
use Rattle.c2.proofs.Laws.Advance.{session_held, refuses_record, refuses_image, refuses_room, accepts}
use Rattle.c2_calls.proofs.Laws.Claims.{lent_held}
use Rattle.c2.proofs.advance.take.Goals as goal
use Rattle.c2.proofs.advance.take.Goals.{then-steps-place-via-then-steps-place, then-steps-place-via-else-steps-place+then-steps-place-2}

pub returns-in_default : goal.returns-in_default
returns-in_default c =
    let a = c.args in
    let leaves = refuses_record a.held.now a.image.now a.replies.now a.steps.now a.place _ (nowhere_refused _ (sym c.in_default.is ∙ c.point.ensures)) refl in
    record { value = leaves.0; steps_after = leaves.1.0; held_after = leaves.1.1 }

pub returns-then-image-image_bytes : goal.returns-then-image-image_bytes
returns-then-image-image_bytes c =
    let held = session_held _ _ (sym c.in-Some.is ∙ c.point.ensures) _ c.session-s.ensures in
    let a = c.args in
    let leaves = refuses_image a.held.now a.image.now a.replies.now a.steps.now a.place _ _ held (λ q. c.if-image-image_bytes.true (q ∙ sym c.image_bytes.ensures)) refl in
    record { value = leaves.0; steps_after = leaves.1.0; held_after = leaves.1.1 }

pub returns-then-steps-place : goal.returns-then-steps-place
returns-then-steps-place c =
    let held = session_held _ _ (sym c.in-Some.is ∙ c.point.ensures) _ c.session-s.ensures in
    let a = c.args in
    let short : length a.steps.now < a.place + length a.replies.now
    = elim c.then-steps-place.branch [
      | then-steps-place-via-then-steps-place w ↦ omega arith
      | then-steps-place-via-else-steps-place+then-steps-place-2 w ↦ omega arith
    ] in
    let leaves = refuses_room a.held.now a.image.now a.replies.now a.steps.now a.place _ _ held (c.if-image-image_bytes.false ∙ c.image_bytes.ensures) short refl in
    record { value = leaves.0; steps_after = leaves.1.0; held_after = leaves.1.1 }

pub returns : goal.returns
returns c =
    let held = session_held _ _ (sym c.in-Some.is ∙ c.point.ensures) _ c.session-s.ensures in
    let args = c.args in
    let image = args.image.now in
    let run = c.run-ran.ensures in
    let lent = lent_held _ image _ held (bytes_all image (λ i. (c.type_inv.image i).fits)) (c.if-image-image_bytes.false ∙ c.image_bytes.ensures) in
    let leaves = accepts args.held.now image args.replies.now args.steps.now args.place _ _ held lent (omega arith) _ _ _ _ run.point_value run.taken_value (refl, refl, refl)
    (put_back args.place args.steps.now _ (wrote image c.session-s.result args.replies.now) _ run.taken_value run.steps_after)
    (c.put_point.ensures ∙ put_packs _ _ _ held) in
    record { value = leaves.0; steps_after = leaves.1.0; held_after = leaves.1.1 }

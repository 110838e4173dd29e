-- `radio_record::held::checked` meets its contract: each return by the tests on its way and what the calls
-- give.
use Rattle.std.proofs.Common.{sym, ◌∙◌}
use Rattle.std.specs.Cmp.Lexicographic.{same_text, other_text}
use Rattle.radio_record.proofs.Laws.Record.{checked_same, no_image, no_point, checked_other}
use Rattle.radio_record.proofs.held.checked.Goals as goal
use Rattle.radio_record.proofs.held.checked.Goals.{else-image_fits-via-then-image_fits+then-point_fits+else-eq, else-image_fits-via-then-image_fits+else-point_fits, else-image_fits-via-else-image_fits}

pub returns-then-eq : goal.returns-then-eq
returns-then-eq c =
    checked_same _ _ _ (sym c.if-image_fits.ensures) (sym c.if-point_fits.ensures) (same_text _ _ c.if-eq.ensures ∙ c.as_slice.ensures ∙ c.point_bytes.ensures)

pub returns-else-image_fits : goal.returns-else-image_fits
returns-else-image_fits c =
    elim c.else-image_fits.branch [
      | else-image_fits-via-then-image_fits+then-point_fits+else-eq w ↦
          checked_other _ _ _ (sym w.if-image_fits.ensures) (sym w.if-point_fits.ensures)
          (λ e. other_text _ _ w.if-eq.ensures (e ∙ sym w.point_bytes.ensures ∙ sym w.as_slice.ensures))
      | else-image_fits-via-then-image_fits+else-point_fits w ↦ no_point _ _ _ (sym w.if-image_fits.ensures) (sym w.if-point_fits.ensures)
      | else-image_fits-via-else-image_fits w ↦ no_image _ _ _ (sym w.if-image_fits.ensures)
    ]

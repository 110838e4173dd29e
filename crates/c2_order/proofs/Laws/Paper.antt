-- P1 to P12 agree: by computing, and the two figures by their law.
use mathlib.Core.Path.{◌≡◌, refl, ap, ◌∙◌}
use mathlib.Core.List.{List, [], ◌∷◌}
use Prim.Native.Nat.{ℕ}
use native.Mathlib.Omega.{arith}
use lib.ListN.{length}
use Rattle.laws.specs.Bytes.{Bytes}
use Rattle.c2_wire.specs.Bits.{odd, bits, bit}
use Rattle.c2_wire.specs.Step.{code}
use Rattle.c2_wire.specs.Exchange.{after, fed, asks, steps, outcome_of}
use Rattle.c2_wire.specs.Frames.{sends, ins_code, frame, waiting, strobes}
use Rattle.settings.specs.Accepted.{is_fpdat, is_page_size, is_page_count, settings_refusal}
use Rattle.c2_order.specs.Acts.{input_taken, output_ready, length_code, coded_length}
use Rattle.settings.specs.Opening.{is_image, are_pages, opening_refusal}
use Rattle.settings.specs.Registers.{pairs_from, are_registers, are_pairs}
use Rattle.settings.proofs.Laws.Accepted.{in_bytes}
use Rattle.c2_order.specs.Conversation.{limits_of, polling, conversation}
use Rattle.c2_order.specs.Claims.{Opening, slow_device, FigureSlow}
use Rattle.c2_order.specs.Paper.{paper_device, steps_of, number_after, times, figure_of, table, PaperAgrees}
use Rattle.c2_order.proofs.Laws.Claims.{figure_starts, figure_starts_paper}

-- an image of whole pages that fits is accepted
opens : (image : List ℕ) → Bytes image → opening_refusal paper_device 0 (length image) ≡ 0 → Opening paper_device 0 image
opens image b e = record { settings = in_bytes _ (omega arith) (omega arith) (omega arith) refl; bytes = b; accepted = e }

-- a device with a slow WAIT
slow_opens : (image : List ℕ) → Bytes image → opening_refusal slow_device 0 (length image) ≡ 0 → Opening slow_device 0 image
slow_opens image b e = record { settings = in_bytes _ (omega arith) (omega arith) (omega arith) refl; bytes = b; accepted = e }

pub figure_slow : FigureSlow
unfolding opening_refusal is_image are_pages settings_refusal is_fpdat is_page_size is_page_count are_pairs are_registers pairs_from
figure_slow image b e = figure_starts (limits_of slow_device) slow_device 0 image (record { wait = omega arith; reads = omega arith }) (slow_opens image b (rw e)) ∙ rw e

figure_512 : (image : List ℕ) → length image ≡ 512 → Bytes image → figure_of image ≡ 3273936
unfolding figure_of opening_refusal is_image are_pages settings_refusal is_fpdat is_page_size is_page_count are_pairs are_registers pairs_from
figure_512 image e b = figure_starts_paper paper_device 0 image refl refl (opens image b (rw e)) ∙ rw e

figure_65536 : (image : List ℕ) → length image ≡ 65536 → Bytes image → figure_of image ≡ 419044504
unfolding figure_of opening_refusal is_image are_pages settings_refusal is_fpdat is_page_size is_page_count are_pairs are_registers pairs_from
figure_65536 image e b = figure_starts_paper paper_device 0 image refl refl (opens image b (rw e)) ∙ rw e

pub paper_agrees : PaperAgrees
unfolding table steps_of number_after times conversation polling asks steps fed after outcome_of code strobes waiting frame sends ins_code bits odd bit input_taken output_ready length_code coded_length
paper_agrees page device e f b c = (
  refl,
  (
    refl,
    (
      refl,
      (
        refl,
        (
          refl,
          (
            refl,
            (
              refl,
              (
                refl,
                (
                  refl,
                  (
                    refl,
                    (ap (λ (n : ℕ). n ∷ []) (figure_512 page e b), (ap (λ (n : ℕ). n ∷ []) (figure_65536 device f c), tt)),
                  ),
                ),
              ),
            ),
          ),
        ),
      ),
    ),
  ),
)

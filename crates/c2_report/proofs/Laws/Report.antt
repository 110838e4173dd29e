-- The report's laws: what `c2_report::report_of` answers at each of its returns, and the claims
-- of specs/Claims.antt.
use mathlib.Core.Path.{◌≡◌, refl, sym, ap, ◌∙◌}
use mathlib.Core.List.{List, []}
use Prim.Native.Nat.{ℕ, zero, suc, ◌+◌, ◌*◌, ◌/◌, ◌%◌, ◌≤◌, ◌<◌}
use native.Mathlib.Omega.{arith}
use borrow.Author.Tests.{ne_eqb, lt-ltb, le-ltb, le-leb, ltb-false}
use lib.Dec.{ltb}
use lib.ListN.{length, replicate}
use Rattle.laws.proofs.Tests.{by_test}
use Rattle.numbers.specs.declared.Refusal.{Refusal}
use Rattle.numbers.specs.Numbers.{past_last_page, done, refusal_number}
use Rattle.numbers.proofs.Refused.{refused}
use Rattle.laws.specs.Bytes.{Bytes}
use Rattle.c2_wire.specs.Exchange.{Outcome, outcome_of}
use Rattle.settings.specs.Accepted.{is_fpdat, is_page_size, is_page_count, settings_refusal}
use Rattle.settings.specs.Registers.{pairs_from, no_pairs, are_registers, are_pairs, leave_all}
use Rattle.settings.specs.Opening.{is_image, are_pages, opening_refusal}
use Rattle.settings.proofs.Laws.Accepted.{in_bytes}
use Rattle.settings.proofs.Laws.Opening.{Opened, opened, settings_pass}
use Rattle.c2_order.specs.Conversation.{limits_of}
use Rattle.c2_order.specs.Order.{session_order}
use Rattle.c2_order.specs.Point.{begin}
use Rattle.c2_order.specs.Figure.{figure}
use Rattle.c2_order.specs.Claims.{Opening}
use Rattle.c2_order.proofs.Laws.Claims.{figure_starts_paper}
use Rattle.c2_target.specs.Target.{fresh}
use Rattle.c2_target.specs.Delays.{setup}
use Rattle.c2_play.specs.Playing.{Played}
use Rattle.c2_play.proofs.Laws.Job.{session_programmed}
use Rattle.c2_play.proofs.Laws.Fresh.{fresh_suits}
use Rattle.c2_play.proofs.Laws.Prompt.{replies_without_delays}
use Rattle.c2_run.specs.declared.Run.{Run}
use Rattle.c2_run.specs.Run.{run, run_refusal, run_answer}
use Rattle.c2_run.proofs.Laws.Claims.{budget_enough}
use Rattle.c2_report.specs.Report.{program_device, zero_flash, image_run, image_refusal, reported}
use Rattle.c2_report.specs.Claims.{ReportsDone, ReportsPaper}

module _ (image : List ℕ) where
  -- input above 16,384 bytes
  pub reports_long : 16384 < length image → reported image ≡ record { pages = 0; replies = 0; outcome = past_last_page }
  unfolding reported image_refusal
  reports_long h = rw (lt-ltb 16384 (length image) h)

  module _ (short : length image ≤ 16384) where
    as_opening : image_refusal image ≡ opening_refusal program_device 0 (length image)
    unfolding image_refusal
    as_opening = rw (le-ltb 16384 (length image) short)

    pub reports_refused : (e : Refusal) → refusal_number e ≡ opening_refusal program_device 0 (length image)
        → reported image ≡ record { pages = 0; replies = 0; outcome = refusal_number e }
    unfolding reported
    reports_refused e h = let z = refused e in rw (as_opening, sym h, ne_eqb (refusal_number e) 0 (λ q. omega arith))

    module _ (bytes : Bytes image) (accepted : opening_refusal program_device 0 (length image) ≡ 0) where
      opening : Opening program_device 0 image
      opening = record { settings = in_bytes program_device (omega arith) (omega arith) (omega arith) refl; bytes = bytes; accepted = accepted }

      -- the most steps to come (`most`), of at most 32 pages, and a budget that is no lower
      abbrev pub most : ℕ
      most = figure (limits_of program_device) (begin (session_order program_device 0 image))

      few : most ≤ 18446744073709551615
      few =
          let x : Opened program_device 0 (length image) = opened program_device 0 (length image) accepted in
          omega (arith, figure_starts_paper program_device 0 image refl refl opening, x.inside)

      -- a run that is not refused answers what it has come to, the same for every budget that is enough
      pub answer_is : (n : ℕ) → run_answer program_device 0 image zero_flash [] n
          ≡ (let x = run program_device 0 image zero_flash [] n in
          record { number = (outcome_of x.left).number; offset = (outcome_of x.left).offset; replies = length x.replies; collision = x.target.collision })
      unfolding run_answer run_refusal
      answer_is n = rw accepted

      same_answer : (n : ℕ) → most ≤ n → run_answer program_device 0 image zero_flash [] n ≡ image_run image
      same_answer n h =
          answer_is n
          ∙ ap (λ (x : Played). record { number = (outcome_of x.left).number; offset = (outcome_of x.left).offset; replies = length x.replies; collision = x.target.collision })
          (budget_enough program_device 0 image zero_flash [] n opening h ∙ sym (budget_enough program_device 0 image zero_flash [] most opening (omega arith)))
          ∙ sym (answer_is most)

      pub reports_run : (a : Run) → a ≡ run_answer program_device 0 image zero_flash [] 18446744073709551615
          → reported image ≡ record { pages = length image / 512; replies = a.replies; outcome = a.number }
      unfolding reported
      reports_run a e =
          let same = e ∙ same_answer 18446744073709551615 few in
          rw (as_opening, accepted) (λ j. record { pages = length image / 512; replies = (sym same j).replies; outcome = (sym same j).number })

zeros : (n : ℕ) → Bytes (replicate n 0)
zeros zero = tt
zeros (suc n) = (omega arith, zeros n)

pub reports_done : ReportsDone
unfolding reported image_refusal run pairs_from are_registers are_pairs leave_all
reports_done image b h =
    by_test (ltb 16384 (length image)) (λ e. absurd (let z : past_last_page ≡ 0 = rw e at h in omega (arith, z)))
    (λ e.
    let a : opening_refusal program_device 0 (length image) ≡ 0 = rw e at h in
    let short : length image ≤ 16384 = ltb-false 16384 (length image) e in
    let o : Opening program_device 0 image = opening image short b a in
    let m : ℕ = figure (limits_of program_device) (begin (session_order program_device 0 image)) in
    let suits = fresh_suits program_device no_pairs [] zero_flash (settings_pass program_device 0 (length image) a) refl refl (zeros 16384) tt in
    let p = session_programmed (limits_of program_device) (setup program_device no_pairs []) 0 image fresh zero_flash refl o suits in
    let is = answer_is image short b a m in
    let ended = ap (λ (x : Played). (outcome_of x.left).number) (budget_enough program_device 0 image zero_flash [] m o (omega arith)) ∙ ap (λ (z : Outcome). z.number) p.ended in
    let number : (image_run image).number ≡ done = ap (λ (x : Run). x.number) is ∙ ended in
    let replies : (image_run image).replies ≡ 76 + length image / 512 * 28518 =
    ap (λ (x : Run). x.replies) is ∙ replies_without_delays program_device 0 image zero_flash m o refl (zeros 16384) (omega arith) in
    rw (e, a) (λ j. record { pages = length image / 512; replies = replies j; outcome = number j }))

accepts : (image : List ℕ) (k : ℕ) → 1 ≤ k → k ≤ 32 → length image ≡ k * 512 → image_refusal image ≡ 0
unfolding image_refusal opening_refusal is_image are_pages settings_refusal is_fpdat is_page_size is_page_count are_pairs are_registers pairs_from
accepts image k low high e =
    let whole : k * 512 % 512 ≡ 0 = omega arith in
    let count : k * 512 / 512 ≡ k = omega arith in
    rw (e, le-ltb 16384 (k * 512) (omega arith), le-leb 1 (k * 512) (omega arith), whole, count, le-leb (0 + k) 32 (omega arith))

-- the report of so many pages
reports_pages : (image : List ℕ) (k : ℕ) → 1 ≤ k → k ≤ 32 → Bytes image → length image ≡ k * 512
    → reported image ≡ record { pages = k; replies = 76 + k * 28518; outcome = done }
reports_pages image k low high b e =
    let count : length image / 512 ≡ k = omega arith in
    rw count at (reports_done image b (accepts image k low high e))

pub reports_paper : ReportsPaper
reports_paper = (
  λ image b e. reports_pages image 1 (omega arith) (omega arith) b e,
  λ image b e. reports_pages image 2 (omega arith) (omega arith) b e,
)

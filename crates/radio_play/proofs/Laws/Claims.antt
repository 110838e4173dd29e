-- The job programs the module: the laws of its parts, one after the other.
use mathlib.Core.Path.{◌≡◌, refl, sym, ap, ◌∙◌}
use mathlib.Core.Bool.{false}
use mathlib.Core.List.{List, [], ◌∷◌, ◌++◌}
use Prim.Native.Nat.{ℕ, zero, suc, ◌+◌, ◌*◌, ◌-◌, ◌≤◌, ◌<◌}
use native.Mathlib.Omega.{arith}
use lib.ListN.{length, drop, get_or, replicate, length-append, length-replicate, length-drop}
use lib.Seq.{take_all}
use borrow.Author.Tests.{ne_eqb}
use Rattle.radio_command.specs.declared.CommandName.TheVariants.{WrPrgArea}
use Rattle.radio_command.specs.Command.{message_byte}
use Rattle.radio_flash.specs.declared.FlashChange.TheVariants.{Area}
use Rattle.radio_flash.specs.Flash.{erased_bytes, flash_page, is_protected}
use Rattle.radio_target.specs.declared.ModulePoint.TheVariants.{Waits, Takes}
use Rattle.radio_target.specs.Deeds.{radio_command, performs}
use Rattle.radio_target.specs.State.{fresh_state}
use Rattle.radio_job.specs.Image.{JobInput, page_count, padded, image_pages}
use Rattle.radio_job.specs.Job.{JobExchange, fed_pages, restores, job, ends_done}
use Rattle.radio_job.proofs.Laws.Image.{padded_long, merged_long, mask_long, sized, accepted_input}
use Rattle.radio_play.specs.Run.{JobRun, then_run}
use Rattle.radio_play.specs.Flashes.{configuration_for, job_leaves, flash_with, flash_fed, feeding_flashes, job_flashes}
use Rattle.radio_play.specs.Claims.{JobPrograms, JobMessages}
use Rattle.radio_play.proofs.Laws.Steps.{run_at, goes_on, page_long, configuration_read}
use Rattle.radio_play.proofs.Laws.Flashes.{area_erased}
use Rattle.radio_play.proofs.Laws.Parts.{after, area_command, all_fed, all_restored}

not_set : (f : List ℕ) → (get_or f 0x7F01 0 ≡ 0 → ⊥) → is_protected f ≡ false
unfolding is_protected
not_set f n = ne_eqb (get_or f 0x7F01 0) 0 n

-- the flash with all pages and the whole configuration is what the job leaves
pub all_with : (g : JobInput) (f : List ℕ)
    → (let c = configuration_for g f in
    flash_with g.image (page_count g.image) (message_byte c 0) (message_byte c 1) (drop 4 c) (drop 32768 f) ≡ job_leaves g f)
unfolding flash_with job_leaves
all_with g f =
    let im = g.image in
    let c = configuration_for g f in
    let p = padded_long im in
    ap (λ (t : List ℕ). t ++ (erased_bytes (32512 - 256 * page_count im) ++ (message_byte c 0 ∷ message_byte c 1 ∷ 0xFF ∷ 0xFF ∷ (drop 4 c ++ drop 32768 f))))
    (take_all (256 * page_count im) (padded im) (omega arith))

-- pages that are fed, as many as there are
some_fed : (im info : List ℕ) → page_count im ≤ 126 → length info ≡ 256 → 1 ≤ page_count im → (rest : JobExchange)
    → run_at (fed_pages (image_pages im) rest) (Takes 0 (page_count im)) (flash_fed im 0 info)
    ≡ after (feeding_flashes im 0 (page_count im) info) (run_at rest Waits (flash_fed im (page_count im) info))
some_fed im info few wi h rest = go (page_count im) refl
  where
    go : (n : ℕ) → page_count im ≡ n
        → run_at (fed_pages (image_pages im) rest) (Takes 0 (page_count im)) (flash_fed im 0 info)
        ≡ after (feeding_flashes im 0 (page_count im) info) (run_at rest Waits (flash_fed im (page_count im) info))
    go zero e = absurd (omega arith)
    go (suc k) e =
        let z : 0 + suc k ≡ page_count im = omega arith in
        ap (λ (n : ℕ). run_at (fed_pages (image_pages im) rest) (Takes 0 n) (flash_fed im 0 info)) e
        ∙ all_fed im info few wi k 0 rest z
        ∙ ap (λ (n : ℕ). after (feeding_flashes im 0 n info) (run_at rest Waits (flash_fed im (page_count im) info))) (sym e)

pub job_programs : JobPrograms
unfolding job job_flashes
job_programs g f r w n =
    let a = accepted_input g r in
    let im = g.image in
    let s = sized (length im) a.fits in
    let s1 = s.some in
    let s2 = s.few in
    let k = page_count im in
    let k1 : 1 ≤ k = omega arith in
    let k2 : k ≤ 126 = omega arith in
    let k3 : k ≤ 127 = omega arith in
    let h : 127 < 129 = omega arith in
    let c = configuration_for g f in
    let lc : length c ≡ 256 = merged_long 256 g.mask g.ours (flash_page 127 f) (mask_long g.mask a.masked) a.ours (page_long 127 f w h) in
    let info = drop 32768 f in
    let wi : length info ≡ 256 = let d = length-drop 32768 f in omega arith in
    let ps = image_pages im in
    let f0 = flash_fed im 0 info in
    let set = flash_with im k (message_byte c 0) 0xFF (drop 4 c) info in
    configuration_read _ f w
    ∙ ap (λ (x : JobRun). then_run f (then_run f x)) (goes_on (radio_command WrPrgArea k 0 0) (fed_pages ps (restores ps c)) f (performs Area (Takes 0 k)) w (area_command k f (not_set f n) k1 k3) 0 refl)
    ∙ ap (λ (t : List ℕ). then_run f (then_run f (then_run t (run_at (fed_pages ps (restores ps c)) (Takes 0 k) t)))) (area_erased im f)
    ∙ ap (λ (x : JobRun). then_run f (then_run f (then_run f0 x))) (some_fed im info k2 wi k1 (restores ps c))
    ∙ ap (λ (x : JobRun). then_run f (then_run f (then_run f0 (after (feeding_flashes im 0 k info) x)))) (all_restored im info k2 wi c lc)
    ∙ ap (λ (t : List ℕ). record { ending = ends_done; flashes = f ∷ f ∷ f0 ∷ (feeding_flashes im 0 k info ++ (flash_fed im k info ∷ flash_with im k 0xFF 0xFF (drop 4 c) info ∷ set ∷ (replicate (2 * k) set ++ (t ∷ [])))); target = fresh_state; flash = t }) (all_with g f)

fed_many : (im : List ℕ) (i n : ℕ) (info : List ℕ) → length (feeding_flashes im i n info) ≡ n
unfolding feeding_flashes
fed_many im i zero info = refl
fed_many im i (suc n) info = ap suc (fed_many im (suc i) n info)

pub job_messages : JobMessages
unfolding job_flashes
job_messages g f =
    let im = g.image in
    let n = page_count im in
    let c = configuration_for g f in
    let info = drop 32768 f in
    let set = flash_with im n (message_byte c 0) 0xFF (drop 4 c) info in
    let last : List (List ℕ) = job_leaves g f ∷ [] in
    let rest : List (List ℕ) = flash_fed im n info ∷ flash_with im n 0xFF 0xFF (drop 4 c) info ∷ set ∷ (replicate (2 * n) set ++ last) in
    let a = fed_many im 0 n info in
    let b = length-append (feeding_flashes im 0 n info) rest in
    let d = length-append (replicate (2 * n) set) last in
    let e = length-replicate {A = List ℕ} (2 * n) set in
    let x : length (feeding_flashes im 0 n info ++ rest) ≡ 3 * n + 4 = omega arith in
    let y : suc (suc (suc (length (feeding_flashes im 0 n info ++ rest)))) ≡ 3 * n + 7 = omega arith in
    y

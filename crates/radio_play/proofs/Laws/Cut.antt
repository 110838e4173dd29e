-- A job cut after any number of messages.
use mathlib.Core.Path.{◌≡◌, refl, sym, ap, ◌∙◌}
use mathlib.Core.Bool.{true}
use mathlib.Core.List.{List, [], ◌∷◌, ◌++◌}
use Prim.Native.Nat.{ℕ, zero, suc, ◌+◌, ◌*◌, ◌-◌, ◌≤◌, ◌<◌}
use native.Mathlib.Omega.{arith}
use lib.Dec.{eqb}
use lib.ListN.{length, drop, get_or, replicate, length-append, length-replicate, length-drop}
use lib.Seq.{drop-cons}
use borrow.Author.Tests.{eq-eqb}
use Rattle.laws.proofs.Tests.{by_test}
use Rattle.exchange.specs.Exchange.{ended, ask}
use Rattle.radio_command.specs.Command.{message_byte}
use Rattle.radio_flash.specs.Flash.{erased_bytes, flash_page}
use Rattle.radio_target.specs.declared.RadioTarget.{RadioTarget}
use Rattle.radio_target.specs.State.{fresh_state, radio_stepped}
use Rattle.radio_job.specs.Image.{JobInput, is_mask, mask_fits, input_number, input_refusal, page_count, padded, merged}
use Rattle.radio_job.specs.Job.{JobExchange, job, ends_done}
use Rattle.radio_job.proofs.Laws.Image.{merged_long, mask_long, sized, accepted_input}
use Rattle.radio_play.specs.Run.{JobRun, run_job}
use Rattle.radio_play.specs.Flashes.{configuration_for, job_leaves, flash_with, flash_fed, feeding_flashes, job_flashes}
use Rattle.radio_play.specs.Cut.{flash_cut, nth_flash, full_mask, job_again, JobCuts, JobAfterCut, JobAgainRestores}
use Rattle.radio_play.proofs.Laws.Steps.{page_long}
use Rattle.radio_play.proofs.Laws.Flashes.{with_long, byte_1_is, information_is}
use Rattle.radio_play.proofs.Laws.Claims.{job_programs, job_messages, all_with}

after_none : (n : ℕ) (f : List ℕ) → nth_flash n f [] ≡ f
unfolding nth_flash
after_none zero f = refl
after_none (suc n) f = refl

cut_ended : (n : ℕ) (t : RadioTarget) (e : _) (f : List ℕ) → flash_cut n (ended e) t f ≡ f
unfolding flash_cut
cut_ended zero t e f = refl
cut_ended (suc n) t e f = refl

-- the flash of a cut is one of the flashes of the run
cut_is : (n : ℕ) (e : JobExchange) (t : RadioTarget) (f : List ℕ) → flash_cut n e t f ≡ nth_flash n f (run_job e t f).flashes
unfolding flash_cut nth_flash run_job
cut_is zero e t f = refl
cut_is (suc n) (ended x) t f = refl
cut_is (suc n) (ask a k) t f =
    let s = radio_stepped t f a.bytes 256 in
    by_test (eqb (length s.reply) a.expect)
    (λ q. rw q (cut_is n (k s.reply) s.target s.flash))
    (λ q. rw q (cut_ended n s.target _ s.flash ∙ sym (after_none n s.flash)))

-- a fact of every flash
abbrev Every : (P : List ℕ → Type 0) → List (List ℕ) → Type 0
Every P [] = Unit {0}
Every P (x ∷ xs) = P x × Every P xs

every_join : (P : List ℕ → Type 0) (xs ys : List (List ℕ)) → Every P xs → Every P ys → Every P (xs ++ ys)
every_join P [] ys a b = b
every_join P (x ∷ xs) ys a b = (a.0, every_join P xs ys a.1 b)

every_same : (P : List ℕ → Type 0) (n : ℕ) (x : List ℕ) → P x → Every P (replicate n x)
every_same P zero x p = tt
every_same P (suc n) x p = (p, every_same P n x p)

every_after : (P : List ℕ → Type 0) (n : ℕ) (f : List ℕ) (fs : List (List ℕ)) → P f → Every P fs → P (nth_flash n f fs)
unfolding nth_flash
every_after P zero f fs p a = p
every_after P (suc n) f [] p a = p
every_after P (suc n) f (x ∷ fs) p a = every_after P n x fs a.0 a.1

first_after : (P : List ℕ → Type 0) (n : ℕ) (f : List ℕ) (xs ys : List (List ℕ)) → n ≤ length xs → P f → Every P xs → P (nth_flash n f (xs ++ ys))
unfolding nth_flash
first_after P zero f xs ys h p a = p
first_after P (suc n) f [] ys h p a = absurd (let z : suc n ≤ 0 = h in omega arith)
first_after P (suc n) f (x ∷ xs) ys h p a = let z : suc n ≤ suc (length xs) = h in first_after P n x xs ys (omega arith) a.0 a.1

module _ (g : JobInput) (f : List ℕ) (r : input_refusal g ≡ 0) (w : length f ≡ 33024) where
  abbrev im : List ℕ
  im = g.image

  abbrev k : ℕ
  k = page_count im

  abbrev c : List ℕ
  c = configuration_for g f

  abbrev info : List ℕ
  info = drop 32768 f

  few : k ≤ 126
  few = let s = (sized (length im) (accepted_input g r).fits).few in omega arith

  info_long : length info ≡ 256
  info_long = let d = length-drop 32768 f in omega arith

  pub c_long : length c ≡ 256
  c_long =
      let a = accepted_input g r in
      let h : 127 < 129 = omega arith in
      merged_long 256 g.mask g.ours (flash_page 127 f) (mask_long g.mask a.masked) a.ours (page_long 127 f w h)

  rest_long : length (drop 4 c) ≡ 252
  rest_long = let l = c_long in let d = length-drop 4 c in omega arith

  abbrev set : List ℕ
  set = flash_with im k (message_byte c 0) 0xFF (drop 4 c) info

  -- all flashes but the last
  abbrev before_last : List (List ℕ)
  before_last = f ∷ f ∷ flash_fed im 0 info ∷ (feeding_flashes im 0 k info ++ (flash_fed im k info ∷ flash_with im k 0xFF 0xFF (drop 4 c) info ∷ set ∷ replicate (2 * k) set))

  parts : job_flashes g f ≡ before_last ++ (job_leaves g f ∷ [])
  unfolding job_flashes
  parts =
      ap (λ (t : List (List ℕ)). f ∷ f ∷ flash_fed im 0 info ∷ t)
      (sym (assoc (feeding_flashes im 0 k info) (flash_fed im k info ∷ flash_with im k 0xFF 0xFF (drop 4 c) info ∷ set ∷ replicate (2 * k) set) (job_leaves g f ∷ [])))
    where
      assoc : (xs ys zs : List (List ℕ)) → (xs ++ ys) ++ zs ≡ xs ++ (ys ++ zs)
      assoc [] ys zs = refl
      assoc (x ∷ xs) ys zs = ap (λ (t : List (List ℕ)). x ∷ t) (assoc xs ys zs)

  many : length before_last ≡ 3 * k + 6
  many =
      let a = ap length parts ∙ length-append before_last (job_leaves g f ∷ []) in
      let b = job_messages g f in
      omega arith

  -- what holds of every flash that has so many pages, and an erased or a set configuration
  module _ (P : List ℕ → Type 0) (p : (i a : ℕ) (t : List ℕ) → i ≤ k → length t ≡ 252 → P (flash_with im i a 0xFF t info)) where
    fed : (i n : ℕ) → i + n ≡ k → Every P (feeding_flashes im i n info)
    unfolding feeding_flashes
    fed i zero e = tt
    fed i (suc n) e =
        let a : suc i ≤ k = omega arith in
        let b : suc i + n ≡ k = omega arith in
        (p (suc i) 0xFF (erased_bytes 252) a (length-replicate {A = ℕ} 252 0xFF), fed (suc i) n b)

    before : P f → Every P before_last
    before q =
        let z : 0 ≤ k = omega arith in
        let y : k ≤ k = omega arith in
        let x : 0 + k ≡ k = omega arith in
        let s = length-replicate {A = ℕ} 252 0xFF in
        let last : P set = p k (message_byte c 0) (drop 4 c) y rest_long in (
          q,
          (
            q,
            (
              p 0 0xFF (erased_bytes 252) z s,
              every_join P (feeding_flashes im 0 k info) _ (fed 0 k x)
                  (p k 0xFF (erased_bytes 252) y s, (p k 0xFF (drop 4 c) y rest_long, (last, every_same P (2 * k) set last))),
            ),
          ),
        )

  -- lengths, the information page, and code protection
  abbrev WholeFlash : List ℕ → Type 0
  WholeFlash x = (length x ≡ 33024) × (drop 32768 x ≡ info)

  abbrev Open : List ℕ → Type 0
  Open x = get_or x 0x7F01 0 ≡ 0 → ⊥

  whole_with : (i a b : ℕ) (t : List ℕ) → i ≤ k → length t ≡ 252 → WholeFlash (flash_with im i a b t info)
  whole_with i a b t h l = (with_long im info few info_long i a b t h l, information_is im info few info_long i a b t h l)

  leaves_whole : WholeFlash (job_leaves g f)
  leaves_whole = let y : k ≤ k = omega arith in rw (all_with g f) at (whole_with k (message_byte c 0) (message_byte c 1) (drop 4 c) y rest_long)

  leaves_byte : get_or (job_leaves g f) 0x7F01 0 ≡ message_byte c 1
  leaves_byte =
      let y : k ≤ k = omega arith in
      ap (λ (x : List ℕ). get_or x 0x7F01 0) (sym (all_with g f)) ∙ byte_1_is im info few info_long k (message_byte c 0) (message_byte c 1) (drop 4 c) y

  open_with : (i a : ℕ) (t : List ℕ) → i ≤ k → length t ≡ 252 → Open (flash_with im i a 0xFF t info)
  open_with i a t h l e = let z : ◌≡◌ {A = ℕ} 0xFF 0 = sym (byte_1_is im info few info_long i a 0xFF t h) ∙ e in omega arith

  whole_after : (n : ℕ) → WholeFlash (nth_flash n f (job_flashes g f))
  whole_after n =
      rw parts
      (every_after WholeFlash n f (before_last ++ (job_leaves g f ∷ [])) (w, refl)
      (every_join WholeFlash before_last _ (before WholeFlash (λ i a t. whole_with i a 0xFF t) (w, refl)) (leaves_whole, tt)))

  module _ (o : Open f) where
    open_after : (n : ℕ) → n ≤ 3 * k + 6 → Open (nth_flash n f (job_flashes g f))
    open_after n h =
        let m = many in
        rw parts (first_after Open n f before_last (job_leaves g f ∷ []) (omega arith) o (before Open open_with o))

    closed_after : (n : ℕ) → (message_byte c 1 ≡ 0 → ⊥) → Open (nth_flash n f (job_flashes g f))
    closed_after n q =
        rw parts
        (every_after Open n f (before_last ++ (job_leaves g f ∷ [])) o
        (every_join Open before_last _ (before Open open_with o) (λ e. q (sym leaves_byte ∙ e), tt)))

-- THE CUT.
pub job_cuts : JobCuts
job_cuts g f r w o n =
    let is : flash_cut n (job g) fresh_state f ≡ nth_flash n f (job_flashes g f) =
    cut_is n (job g) fresh_state f ∙ ap (λ (x : JobRun). nth_flash n f x.flashes) (job_programs g f r w o) in
    let whole = whole_after g f r w n in
    record {
      holds = is;
      long = ap length is ∙ whole.0;
      information = ap (λ (x : List ℕ). drop 32768 x) is ∙ whole.1;
      off = λ h e. open_after g f r w o n h (sym (ap (λ (x : List ℕ). get_or x 0x7F01 0) is) ∙ e);
      stays_off = λ q e. closed_after g f r w o n q (sym (ap (λ (x : List ℕ). get_or x 0x7F01 0) is) ∙ e);
    }

pub job_after_cut : JobAfterCut
job_after_cut g h f r w o q n l = let k = job_cuts g f r w o n in job_programs h (flash_cut n (job g) fresh_state f) q k.long (k.off l)

-- merging by a mask that names every byte but 2 and 3
all_ours : (n : ℕ) (ds os : List ℕ) → length ds ≡ n → length os ≡ n → merged (replicate n 0xFF) ds os ≡ ds
unfolding merged
all_ours zero [] [] a b = refl
all_ours zero [] (o ∷ os) a b = absurd (let z : suc (length os) ≡ 0 = b in omega arith)
all_ours zero (d ∷ ds) [] a b = absurd (let z : suc (length ds) ≡ 0 = a in omega arith)
all_ours zero (d ∷ ds) (o ∷ os) a b = absurd (let z : suc (length ds) ≡ 0 = a in omega arith)
all_ours (suc n) [] [] a b = absurd (let z : 0 ≡ suc n = a in omega arith)
all_ours (suc n) [] (o ∷ os) a b = absurd (let z : 0 ≡ suc n = a in omega arith)
all_ours (suc n) (d ∷ ds) [] a b = absurd (let z : 0 ≡ suc n = b in omega arith)
all_ours (suc n) (d ∷ ds) (o ∷ os) a b =
    let x : suc (length ds) ≡ suc n = a in
    let y : suc (length os) ≡ suc n = b in
    ap (λ (t : List ℕ). d ∷ t) (all_ours n ds os (omega arith) (omega arith))

first_four : (c : List ℕ) → 4 ≤ length c → c ≡ get_or c 0 0 ∷ get_or c 1 0 ∷ get_or c 2 0 ∷ get_or c 3 0 ∷ drop 4 c
first_four c h =
    drop-cons c 0 0 (omega arith)
    ∙ ap (λ (t : List ℕ). get_or c 0 0 ∷ t) (drop-cons c 1 0 (omega arith))
    ∙ ap (λ (t : List ℕ). get_or c 0 0 ∷ get_or c 1 0 ∷ t) (drop-cons c 2 0 (omega arith))
    ∙ ap (λ (t : List ℕ). get_or c 0 0 ∷ get_or c 1 0 ∷ get_or c 2 0 ∷ t) (drop-cons c 3 0 (omega arith))

full_merged : (c o : List ℕ) → length c ≡ 256 → length o ≡ 256
    → merged full_mask c o ≡ get_or c 0 0 ∷ get_or c 1 0 ∷ get_or o 2 0 ∷ get_or o 3 0 ∷ drop 4 c
unfolding merged
full_merged c o a b =
    let x : length (drop 4 c) ≡ 252 = let d = length-drop 4 c in omega arith in
    let y : length (drop 4 o) ≡ 252 = let d = length-drop 4 o in omega arith in
    ap (λ (t : List ℕ). merged full_mask t o) (first_four c (omega arith))
    ∙ ap (λ (t : List ℕ). merged full_mask (get_or c 0 0 ∷ get_or c 1 0 ∷ get_or c 2 0 ∷ get_or c 3 0 ∷ drop 4 c) t) (first_four o (omega arith))
    ∙ ap (λ (t : List ℕ). get_or c 0 0 ∷ get_or c 1 0 ∷ get_or o 2 0 ∷ get_or o 3 0 ∷ t) (all_ours 252 (drop 4 c) (drop 4 o) x y)

-- what such a job leaves is what the first would have left
again_leaves : (g : JobInput) (f F : List ℕ) → length (configuration_for g f) ≡ 256 → length F ≡ 33024 → drop 32768 F ≡ drop 32768 f
    → job_leaves (job_again g f) F ≡ job_leaves g f
unfolding job_leaves
again_leaves g f F l w e =
    let h : 127 < 129 = omega arith in
    let c = configuration_for g f in
    let z = erased_bytes (32512 - 256 * page_count g.image) in
    ap (λ (d : List ℕ). padded g.image ++ (z ++ ((message_byte d 0 ∷ message_byte d 1 ∷ 0xFF ∷ 0xFF ∷ drop 4 d) ++ drop 32768 F)))
    (full_merged c (flash_page 127 F) l (page_long 127 F w h))
    ∙ ap (λ (t : List ℕ). padded g.image ++ (z ++ ((message_byte c 0 ∷ message_byte c 1 ∷ 0xFF ∷ 0xFF ∷ drop 4 c) ++ t))) e

full_fits : mask_fits full_mask ≡ true
unfolding mask_fits is_mask
full_fits = refl

again_accepted : (g : JobInput) (f : List ℕ) → input_refusal g ≡ 0 → length (configuration_for g f) ≡ 256 → input_refusal (job_again g f) ≡ 0
unfolding input_number
again_accepted g f r l = rw (full_fits, eq-eqb (length (configuration_for g f)) 256 l, (accepted_input g r).fits)

pub job_again_restores : JobAgainRestores
job_again_restores g f r w o n h =
    let k = job_cuts g f r w o n in
    let F = flash_cut n (job g) fresh_state f in
    let l = c_long g f r w in
    job_after_cut g (job_again g f) f r w o (again_accepted g f r l) n h
    ∙ ap (λ (t : List ℕ). record { ending = ends_done; flashes = job_flashes (job_again g f) F; target = fresh_state; flash = t })
    (again_leaves g f F l k.long k.information)

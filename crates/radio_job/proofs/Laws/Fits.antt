-- A state that fits leads to states that fit.
use mathlib.Core.Path.{◌≡◌, refl, sym, ap, subst, ◌∙◌}
use Rattle.std.specs.Prelude.{Option, Some, None, Ok, Err, IfErr, IsOk}
use mathlib.Core.Bool.{true, false}
use mathlib.Core.List.{List, [], ◌∷◌}
use Prim.Native.Nat.{ℕ, suc, ◌+◌, ◌*◌, ◌%◌, ◌≤◌, ◌<◌}
use native.Mathlib.Omega.{arith}
use lib.Dec.{eqb, ltb}
use lib.ListN.{length}
use borrow.Author.Tests.{ltb-true, eqb-true, lt-ltb, eq-eqb}
use Rattle.laws.proofs.Tests.{by_test, both}
use Rattle.radio_command.specs.declared.CommandName.{CommandName}
use Rattle.radio_command.specs.declared.CommandName.TheVariants.{InfOk, InfError}
use Rattle.radio_command.specs.declared.RadioCommand.{RadioCommand}
use Rattle.radio_command.specs.Command.{read_command}
use Rattle.radio_job.specs.declared.JobPoint.{JobPoint}
use Rattle.radio_job.specs.declared.JobPoint.TheVariants.{AsksConfiguration, TakesConfiguration, ErasesArea, FeedsPage}
use Rattle.radio_job.specs.declared.JobPoint.TheVariants.{ErasesConfiguration, SetsConfiguration, SetsByte0, AsksPage, TakesPage}
use Rattle.radio_job.specs.declared.JobPoint.TheVariants.{SetsByte1, Finished}
use Rattle.radio_job.specs.Image.{JobInput, input_refusal, mask_fits, image_fits, pages_for, page_count, image_page}
use Rattle.radio_job.specs.Job.{Standing, ends_bad, ends_done, name_ending, read_ending, answer_ending, same_bytes}
use Rattle.radio_job.specs.Job.{shared}
use Rattle.radio_job.specs.Job.{page_ending}
use Rattle.radio_job.specs.State.{JobState, opened_job, ending_fits, point_fits, state_fits}
use Rattle.radio_job.specs.Advance.{length_ending, last_ending, reply_ending, next_point, page_kept, job_advanced_by, job_advanced}
use Rattle.radio_job.proofs.Laws.Image.{image_page_long, merged_long, mask_long, sized, accepted_input}

pub false_true : false ≡ true → ⊥
false_true p = let z : ◌≡◌ {A = ℕ} 0 1 = cc in omega arith

true_false : true ≡ false → ⊥
true_false p = false_true (sym p)

-- what a state that fits is
pub record Fitting (s : JobState) : Type 0 where
  pub page : length s.page ≡ 256
  pub masked : mask_fits s.mask ≡ true
  pub image : image_fits s.bytes ≡ true
  pub point : point_fits s.bytes s.point ≡ true

pub fitting : (s : JobState) → state_fits s ≡ true → Fitting s
unfolding state_fits
fitting s e =
    let a = both _ _ e in
    let b = both (mask_fits s.mask) _ a.1 in
    let c = both (image_fits s.bytes) _ b.1 in
    record { page = eqb-true (length s.page) 256 a.0; masked = b.0; image = c.0; point = c.1 }

pub fit : (s : JobState) → Fitting s → state_fits s ≡ true
unfolding state_fits
fit s f = rw (eq-eqb (length s.page) 256 f.page, f.masked, f.image, f.point)

-- the ends fit
abbrev pub EndFits : (bytes : ℕ) → Standing → Type 0
EndFits n v = IfErr v (λ e. ending_fits n e ≡ true)

name_fits : (n : ℕ) (x : CommandName) (c : ℕ) → EndFits n (name_ending x c)
unfolding ending_fits
name_fits n InfOk c = tt
name_fits n InfError c = let l : c % 256 < 256 = omega arith in rw (lt-ltb (c % 256) 256 l)
name_fits n _ c = refl

bad_fits : (n : ℕ) → ending_fits n ends_bad ≡ true
unfolding ending_fits
bad_fits n = refl

done_fits : (n : ℕ) → ending_fits n ends_done ≡ true
unfolding ending_fits
done_fits n = refl

read_fits : (n : ℕ) (x : Option RadioCommand) → EndFits n (read_ending x)
read_fits n (Some c) = name_fits n c.name c.p0
read_fits n None = bad_fits n

answer_fits : (n : ℕ) (r : List ℕ) → EndFits n (answer_ending r)
unfolding answer_ending
answer_fits n r = read_fits n (read_command r)

last_fits : (n : ℕ) (v : Standing) → EndFits n v → EndFits n (last_ending v)
last_fits n (Ok _) f = done_fits n
last_fits n (Err e) f = f

length_fits : (n k : ℕ) (r : List ℕ) → EndFits n (length_ending k r)
unfolding length_ending
length_fits n k r = by_test (eqb (length r) k) (λ e. rw e tt) (λ e. rw e (bad_fits n))

-- pages of one length that differ share fewer bytes
pub shares_less : (xs ys : List ℕ) → length xs ≡ length ys → same_bytes xs ys ≡ false → shared xs ys < length ys
unfolding same_bytes shared
shares_less [] [] l e = absurd (true_false e)
shares_less [] (y ∷ ys) l e = absurd (let z : 0 ≡ suc (length ys) = l in omega arith)
shares_less (x ∷ xs) [] l e = absurd (let z : suc (length xs) ≡ 0 = l in omega arith)
shares_less (x ∷ xs) (y ∷ ys) l e =
    let z : suc (length xs) ≡ suc (length ys) = l in
    by_test (eqb x y)
    (λ t. let i = shares_less xs ys (omega arith) (rw t at e) in let j : 1 + shared xs ys < suc (length ys) = omega arith in rw t j)
    (λ t. let j : 0 < suc (length ys) = omega arith in rw t j)

-- pages that are the same share all
pub shares_all : (xs ys : List ℕ) → same_bytes xs ys ≡ true → shared xs ys ≡ length ys
unfolding same_bytes shared
shares_all [] [] e = refl
shares_all [] (y ∷ ys) e = absurd (false_true e)
shares_all (x ∷ xs) [] e = absurd (false_true e)
shares_all (x ∷ xs) (y ∷ ys) e = let b = both (eqb x y) (same_bytes xs ys) e in let i = shares_all xs ys b.1 in let z : 1 + shared xs ys ≡ suc (length ys) = omega arith in rw b.0 z

page_fits : (im : List ℕ) (p : ℕ) (r : List ℕ) → p < page_count im → length r ≡ 256 → EndFits (length im) (page_ending p (image_page im p) r)
unfolding page_ending ending_fits
page_fits im p r h l =
    let q = image_page_long im p h in
    by_test (same_bytes r (image_page im p))
    (λ e. rw e tt)
    (λ e.
    let k = shares_less r (image_page im p) (l ∙ sym q) e in
    let z : 256 * p + shared r (image_page im p) < 256 * page_count im = omega arith in
    rw e (lt-ltb _ _ z))

takes_fits : (im : List ℕ) (p : ℕ) (r : List ℕ) → p < page_count im → EndFits (length im) (reply_ending (TakesPage p) im r)
takes_fits im p r h =
    by_test (eqb (length r) 256) (λ e. rw e (page_fits im p r h (eqb-true (length r) 256 e))) (λ e. rw e (bad_fits (length im)))

feeds_fits : (im : List ℕ) (p : ℕ) (r : List ℕ) → EndFits (length im) (reply_ending (FeedsPage p) im r)
feeds_fits im p r =
    by_test (ltb (p + 1) (page_count im)) (λ e. rw e (length_fits (length im) 0 r)) (λ e. rw e (answer_fits (length im) r))

pub ends_fit : (p : JobPoint) (im r : List ℕ) → point_fits (length im) p ≡ true → EndFits (length im) (reply_ending p im r)
ends_fit AsksConfiguration im r f = answer_fits (length im) r
ends_fit TakesConfiguration im r f = length_fits (length im) 256 r
ends_fit ErasesArea im r f = answer_fits (length im) r
ends_fit (FeedsPage p) im r f = feeds_fits im p r
ends_fit ErasesConfiguration im r f = answer_fits (length im) r
ends_fit SetsConfiguration im r f = answer_fits (length im) r
ends_fit SetsByte0 im r f = answer_fits (length im) r
ends_fit (AsksPage p) im r f = answer_fits (length im) r
ends_fit (TakesPage p) im r f = takes_fits im p r (ltb-true p (page_count im) f)
ends_fit SetsByte1 im r f = last_fits (length im) (answer_ending r) (answer_fits (length im) r)
ends_fit (Finished x) im r f = f

-- the next point fits
pub next_fits : (p : JobPoint) (n : ℕ) → 1 ≤ n → point_fits n p ≡ true → point_fits n (next_point p n) ≡ true
next_fits AsksConfiguration n h f = refl
next_fits TakesConfiguration n h f = refl
next_fits ErasesArea n h f = let z : 0 < pages_for n = omega arith in lt-ltb 0 (pages_for n) z
next_fits (FeedsPage p) n h f = by_test (ltb (p + 1) (pages_for n)) (λ e. rw e e) (λ e. rw e)
next_fits ErasesConfiguration n h f = refl
next_fits SetsConfiguration n h f = refl
next_fits SetsByte0 n h f = let z : 0 < pages_for n = omega arith in lt-ltb 0 (pages_for n) z
next_fits (AsksPage p) n h f = f
next_fits (TakesPage p) n h f = by_test (ltb (p + 1) (pages_for n)) (λ e. rw e e) (λ e. rw e)
next_fits SetsByte1 n h f = done_fits n
next_fits (Finished x) n h f = f

-- the page that is kept has 256 bytes
heard_long : (r : List ℕ) → IsOk (length_ending 256 r) → length r ≡ 256
unfolding length_ending
heard_long r = by_test (eqb (length r) 256) (λ e f. eqb-true (length r) 256 e) (λ e. rw e (λ f. absurd (false_true f)))

next_long : (p : JobPoint) (im m c r : List ℕ) → length m ≡ 256 → length c ≡ 256 → IsOk (reply_ending p im r) → length (page_kept p m c r) ≡ 256
next_long TakesConfiguration im m c r a b e = merged_long 256 m c r a b (heard_long r e)
next_long _ im m c r a b e = b

advanced_fits : (s : JobState) (r : List ℕ) (v : Standing) → Fitting s → 1 ≤ s.bytes
    → (IsOk v → length (page_kept s.point s.mask s.page r) ≡ 256) → EndFits s.bytes v → state_fits (job_advanced_by v s r) ≡ true
advanced_fits s r (Ok _) f h a b = fit _ (record { page = a refl; masked = f.masked; image = f.image; point = next_fits s.point s.bytes h f.point })
advanced_fits s r (Err e) f h a b = fit _ (record { page = f.page; masked = f.masked; image = f.image; point = b })

pub stays_fit : (im : List ℕ) (s : JobState) (r : List ℕ) → state_fits s ≡ true → length im ≡ s.bytes → state_fits (job_advanced im s r) ≡ true
unfolding job_advanced
stays_fit im s r e l =
    let f = fitting s e in
    let z = sized s.bytes f.image in
    let v = reply_ending s.point im r in
    let at : point_fits (length im) s.point ≡ true = ap (λ (n : ℕ). point_fits n s.point) l ∙ f.point in
    let w : EndFits s.bytes v = subst (λ (n : ℕ). EndFits n v) l (ends_fit s.point im r at) in
    advanced_fits s r v f z.some (next_long s.point im s.mask s.page r (mask_long s.mask f.masked) f.page) w

-- only page and point change
pub keeps_mask : (v : Standing) (s : JobState) (r : List ℕ) → (job_advanced_by v s r).mask ≡ s.mask
keeps_mask (Ok _) s r = refl
keeps_mask (Err e) s r = refl

keeps_long : (v : Standing) (s : JobState) (r : List ℕ) → (job_advanced_by v s r).bytes ≡ s.bytes
keeps_long (Ok _) s r = refl
keeps_long (Err e) s r = refl

pub stays_long : (im : List ℕ) (s : JobState) (r : List ℕ) → (job_advanced im s r).bytes ≡ s.bytes
unfolding job_advanced
stays_long im s r = keeps_long (reply_ending s.point im r) s r

-- the state of an accepted opening fits
pub opened_fits : (g : JobInput) → input_refusal g ≡ 0 → state_fits (opened_job g) ≡ true
opened_fits g e =
    let a = accepted_input g e in
    fit (opened_job g) (record { page = a.ours; masked = a.masked; image = a.fits; point = refl })

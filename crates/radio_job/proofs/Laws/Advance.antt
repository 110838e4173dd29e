-- The state after a reply leaves to say what the reply leaves of the exchange.
use mathlib.Core.Path.{◌≡◌, refl, sym, ap, ◌∙◌}
use mathlib.Core.Bool.{true, false, cond}
use mathlib.Core.List.{List, [], ◌∷◌}
use Prim.Native.Nat.{ℕ, suc, ◌+◌, ◌≤◌, ◌<◌}
use native.Mathlib.Numerals.{add-one}
use native.Mathlib.Omega.{arith}
use lib.Dec.{eqb, ltb}
use Rattle.std.specs.Prelude.{Ok, Err}
use lib.ListN.{length, drop}
use borrow.Author.Tests.{ltb-true, ltb-false}
use Rattle.laws.proofs.Tests.{by_test}
use Rattle.exchange.specs.Exchange.{ended, after}
use Rattle.radio_command.specs.Command.{read_command}
use Rattle.radio_job.specs.declared.Ending.{Ending}
use Rattle.radio_job.specs.declared.JobPoint.{JobPoint}
use Rattle.radio_job.specs.declared.JobPoint.TheVariants.{AsksConfiguration, TakesConfiguration, ErasesArea, FeedsPage}
use Rattle.radio_job.specs.declared.JobPoint.TheVariants.{ErasesConfiguration, SetsConfiguration, SetsByte0, AsksPage, TakesPage}
use Rattle.radio_job.specs.declared.JobPoint.TheVariants.{SetsByte1, Finished}
use Rattle.radio_job.specs.Image.{page_count, image_pages, image_page}
use Rattle.radio_job.specs.Job.{JobExchange, Standing, unless, take_reply, say, answer_ending, confirmed, fetched, fed_pages, page_ending}
use Rattle.radio_job.specs.Job.{pages_compared, protects, sets_byte_0, restores, ends_bad, ends_done}
use Rattle.radio_job.specs.State.{JobState, point_leaves, job_left, point_fits}
use Rattle.radio_job.specs.Advance.{length_ending, last_ending, reply_ending, next_point, page_kept, job_advanced_by}
use Rattle.radio_job.specs.Advance.{job_advanced}
use Rattle.radio_job.proofs.Laws.Image.{image_next, image_last}

abbrev then_after : JobExchange → List ℕ → JobExchange
then_after e r = after take_reply e r

-- a message that expects so many bytes, and one that must be confirmed
say_after : (m : List ℕ) (n : ℕ) (k : List ℕ → JobExchange) (r : List ℕ)
    → then_after (say m n k) r ≡ cond (eqb (length r) n) (k r) (ended ends_bad)
unfolding after
say_after m n k r = by_test (eqb (length r) n) (λ e. rw e) (λ e. rw e)

no_answer : (r : List ℕ) → eqb (length r) 8 ≡ false → answer_ending r ≡ Err ends_bad
unfolding answer_ending read_command
no_answer r e = rw e

confirmed_after : (m : List ℕ) (rest : JobExchange) (r : List ℕ) → then_after (confirmed m rest) r ≡ unless (answer_ending r) rest
unfolding confirmed
confirmed_after m rest r =
    say_after m 8 (λ q. unless (answer_ending q) rest) r
    ∙ by_test (eqb (length r) 8) (λ e. rw e) (λ e. rw (e, no_answer r e))

said_after : (m : List ℕ) (n : ℕ) (k : List ℕ → JobExchange) (r : List ℕ) → then_after (say m n k) r ≡ unless (length_ending n r) (k r)
unfolding length_ending
said_after m n k r = say_after m n k r ∙ by_test (eqb (length r) n) (λ e. rw e) (λ e. rw e)

-- pages that are fed
fed_on : (q : List ℕ) (ps : List (List ℕ)) (rest : JobExchange) (r : List ℕ) → 1 ≤ length ps
    → then_after (fed_pages (q ∷ ps) rest) r ≡ unless (length_ending 0 r) (fed_pages ps rest)
unfolding fed_pages
fed_on q [] rest r h = absurd (let z : 1 ≤ 0 = h in omega arith)
fed_on q (p ∷ ps) rest r h = said_after q 0 (λ _. fed_pages (p ∷ ps) rest) r

fed_last : (q : List ℕ) (rest : JobExchange) (r : List ℕ) → then_after (fed_pages (q ∷ []) rest) r ≡ unless (answer_ending r) rest
unfolding fed_pages
fed_last q rest r = confirmed_after q rest r

fetched_after : (p : ℕ) (k : List ℕ → JobExchange) (r : List ℕ) → then_after (fetched p k) r ≡ unless (answer_ending r) (say [] 256 k)
unfolding fetched
fetched_after p k r = confirmed_after _ (say [] 256 k) r

-- what a state leaves after a reply: the next point's, unless the reply ends the job
left_unless : (im : List ℕ) (v : Standing) (s : JobState) (r : List ℕ)
    → job_left im (job_advanced_by v s r) ≡ unless v (point_leaves (next_point s.point s.bytes) im s.mask (page_kept s.point s.mask s.page r))
unfolding job_left
left_unless im (Ok _) s r = refl
left_unless im (Err e) s r = refl

-- one fact for each way that a page may be followed
module _ (im m c r : List ℕ) (p : ℕ) (h : p < page_count im) where
  abbrev ps : List (List ℕ)
  ps = image_pages im

  feeds : unless (reply_ending (FeedsPage p) im r) (point_leaves (next_point (FeedsPage p) (length im)) im m c)
      ≡ then_after (fed_pages (drop p ps) (restores ps c)) r
  feeds =
      let rest = restores ps c in
      let o = add-one p in
      by_test (ltb (p + 1) (page_count im))
      (λ e.
      let l = ltb-true (p + 1) (page_count im) e in
      let z : suc p < page_count im = omega arith in
      let some : 1 ≤ length (drop (suc p) ps) = ap_length (image_next im (suc p) z) in
      rw (e, o) (sym (ap (λ (t : List (List ℕ)). then_after (fed_pages t rest) r) (image_next im p h) ∙ fed_on (image_page im p) (drop (suc p) ps) rest r some)))
      (λ e.
      let l = ltb-false (p + 1) (page_count im) e in
      let z : page_count im ≤ suc p = omega arith in
      rw e (sym (ap (λ (t : List (List ℕ)). then_after (fed_pages t rest) r) (image_next im p h ∙ ap (λ (t : List (List ℕ)). image_page im p ∷ t) (image_last im (suc p) z)) ∙ fed_last (image_page im p) rest r)))
    where
      ap_length : {q : List ℕ} {xs ys : List (List ℕ)} → xs ≡ q ∷ ys → 1 ≤ length xs
      ap_length {q} {xs} {ys} e = let z : length xs ≡ suc (length ys) = ap length e in omega arith

  asks : unless (answer_ending r) (point_leaves (TakesPage p) im m c) ≡ then_after (pages_compared p (drop p ps) (protects c)) r
  unfolding pages_compared
  asks =
      sym (ap (λ (t : List (List ℕ)). then_after (pages_compared p t (protects c)) r) (image_next im p h)
      ∙ fetched_after p (λ q. unless (page_ending p (image_page im p) q) (pages_compared (suc p) (drop (suc p) ps) (protects c))) r)

  -- what follows a page that was compared
  follows : point_leaves (next_point (TakesPage p) (length im)) im m c ≡ pages_compared (suc p) (drop (suc p) ps) (protects c)
  unfolding pages_compared
  follows =
      let o = add-one p in
      by_test (ltb (p + 1) (page_count im))
      (λ e. rw (e, o))
      (λ e.
      let l = ltb-false (p + 1) (page_count im) e in
      let z : page_count im ≤ suc p = omega arith in
      rw e (sym (ap (λ (t : List (List ℕ)). pages_compared (suc p) t (protects c)) (image_last im (suc p) z))))

  takes : unless (reply_ending (TakesPage p) im r) (point_leaves (next_point (TakesPage p) (length im)) im m c)
      ≡ then_after (point_leaves (TakesPage p) im m c) r
  takes =
      ap (λ (t : JobExchange). unless (reply_ending (TakesPage p) im r) t) follows
      ∙ by_test (eqb (length r) 256) (λ e. rw e) (λ e. rw e)
      ∙ sym (say_after [] 256 (λ q. unless (page_ending p (image_page im p) q) (pages_compared (suc p) (drop (suc p) ps) (protects c))) r)

restores_after : (ps : List (List ℕ)) (c r : List ℕ) → then_after (restores ps c) r ≡ unless (answer_ending r) (confirmed c (sets_byte_0 ps c))
unfolding restores
restores_after ps c r = confirmed_after _ _ r

-- the last message: the job is done, unless its reply ends it otherwise
protects_moves : (c r : List ℕ) → unless (last_ending (answer_ending r)) (ended ends_done) ≡ then_after (protects c) r
unfolding protects
protects_moves c r = last_or_ended (answer_ending r) ∙ sym (confirmed_after _ (ended ends_done) r)
  where
    last_or_ended : (v : Standing) → unless (last_ending v) (ended ends_done) ≡ unless v (ended ends_done)
    last_or_ended (Ok _) = refl
    last_or_ended (Err e) = refl

-- an ended job stays ended
finished_stays : (e : Ending) (r : List ℕ) → ended e ≡ then_after (ended e) r
unfolding after
finished_stays e r = refl

-- The law, point by point.
pub point_moves : (p : JobPoint) (im m c r : List ℕ) → point_fits (length im) p ≡ true
    → unless (reply_ending p im r) (point_leaves (next_point p (length im)) im m (page_kept p m c r)) ≡ then_after (point_leaves p im m c) r
point_moves AsksConfiguration im m c r f = sym (fetched_after 127 _ r)
point_moves TakesConfiguration im m c r f = sym (said_after [] 256 _ r)
point_moves ErasesArea im m c r f = sym (confirmed_after _ _ r)
point_moves (FeedsPage p) im m c r f = feeds im m c r p (ltb-true p (page_count im) f)
point_moves ErasesConfiguration im m c r f = sym (restores_after (image_pages im) c r)
point_moves SetsConfiguration im m c r f = sym (confirmed_after c _ r)
point_moves SetsByte0 im m c r f = sym (confirmed_after _ _ r)
point_moves (AsksPage p) im m c r f = asks im m c r p (ltb-true p (page_count im) f)
point_moves (TakesPage p) im m c r f = takes im m c r p (ltb-true p (page_count im) f)
point_moves SetsByte1 im m c r f = protects_moves c r
point_moves (Finished e) im m c r f = finished_stays e r

pub advances : (im : List ℕ) (s : JobState) (r : List ℕ) → point_fits s.bytes s.point ≡ true → length im ≡ s.bytes
    → job_left im (job_advanced im s r) ≡ then_after (job_left im s) r
unfolding job_left job_advanced
advances im s r f l =
    left_unless im (reply_ending s.point im r) s r
    ∙ ap (λ (n : ℕ). unless (reply_ending s.point im r) (point_leaves (next_point s.point n) im s.mask (page_kept s.point s.mask s.page r))) (sym l)
    ∙ point_moves s.point im s.mask s.page r (ap (λ (n : ℕ). point_fits n s.point) l ∙ f)

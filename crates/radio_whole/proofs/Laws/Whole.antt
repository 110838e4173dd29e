-- The claims of specs/Whole, from those of the job, its record, its calls and its run.
use mathlib.Core.Path.{◌≡◌, refl, sym, ap, ◌∙◌}
use mathlib.Core.Bool.{true, false, cond}
use mathlib.Core.List.{List, [], ◌∷◌, ◌++◌}
use mathlib.Core.Option.{Option}
use Prim.Native.Nat.{ℕ, suc, ◌+◌, ◌*◌}
use lib.Dec.{eqb}
use lib.ListN.{length, replicate}
use borrow.Author.Tests.{eqb-true, eq-eqb, ne_eqb}
use Rattle.laws.proofs.Tests.{by_test}
use Rattle.exchange.specs.Exchange.{said, ended, ask, after, fed}
use Rattle.exchange.specs.Machine.{after_replies}
use Rattle.exchange.specs.Calls.{call_done, call_heard, told, in_a_row, MayFollow}
use Rattle.exchange.proofs.Laws.Exchange.{fed_append, fed_ended}
use Rattle.radio_command.specs.Command.{built}
use Rattle.radio_target.specs.declared.RadioTarget.{RadioTarget}
use Rattle.radio_target.specs.State.{fresh_state, radio_stepped}
use Rattle.radio_job.specs.declared.Ending.{Ending}
use Rattle.radio_job.specs.Image.{JobInput, input_refusal, page_count}
use Rattle.radio_job.specs.Job.{Message, JobExchange, take_reply, confirmed, fetched, job, ends_done, ends_error, ends_bad}
use Rattle.radio_job.specs.State.{JobState, opened_job, job_left}
use Rattle.radio_job.specs.Advance.{job_advanced, reply_ending}
use Rattle.radio_job.proofs.Laws.Ends.{job_ends, ends_fed}
use Rattle.radio_job.proofs.Laws.Fits.{keeps_mask, opened_fits}
use Rattle.radio_record.specs.Record.{packed_job, unpacked_job}
use Rattle.radio_calls.specs.Calls.{RadioCall, job_opens, job_takes, later_number, first_number, job_refusal, job_does, message_put}
use Rattle.radio_calls.specs.Calls.{job_untouched}
use Rattle.radio_calls.specs.Family.{Radio, RadioTold, job_hears, job_replies, job_machine, job_state_after, ending_of, by_job}
use Rattle.radio_calls.proofs.Laws.Family.{goes_on, job_follows, same_fed, opened_leaves, job_lists}
use Rattle.radio_play.specs.Run.{JobRun, run_job}
use Rattle.radio_play.proofs.Laws.Steps.{job_protected}
use Rattle.radio_play.proofs.Laws.Claims.{job_programs, job_messages}
use Rattle.radio_play.proofs.Laws.Cut.{job_cuts, job_again_restores}
use Rattle.radio_whole.specs.Whole.{KeepsAll, opens_job, own_answers, RadioAgainst, RadioWhole, RadioCallsProgram}
use Rattle.radio_whole.specs.Whole.{RadioCallsAlike, RadioCallsExist}

-- a reply of the length expected, and one of another
takes_right : (a : Message) (k : List ℕ → JobExchange) (r : List ℕ) → eqb (length r) a.expect ≡ true → after take_reply (ask a k) r ≡ k r
unfolding after
takes_right a k r q = rw q

takes_wrong : (a : Message) (k : List ℕ → JobExchange) (r : List ℕ) → eqb (length r) a.expect ≡ false → after take_reply (ask a k) r ≡ ended ends_bad
unfolding after
takes_wrong a k r q = rw q

-- the module's own replies bring a job where its run ends, one for each message
own_end : (e : JobExchange) (t : RadioTarget) (f : List ℕ) → fed take_reply e (own_answers e t f) ≡ ended (run_job e t f).ending
unfolding fed own_answers run_job
own_end (ended x) t f = refl
own_end (ask a k) t f =
    let s = radio_stepped t f a.bytes 256 in
    by_test (eqb (length s.reply) a.expect)
    (λ q. ap (λ (x : JobExchange). fed take_reply x (cond (eqb (length s.reply) a.expect) (own_answers (k s.reply) s.target s.flash) [])) (takes_right a k s.reply q) ∙ rw q (own_end (k s.reply) s.target s.flash))
    (λ q. ap (λ (x : JobExchange). fed take_reply x (cond (eqb (length s.reply) a.expect) (own_answers (k s.reply) s.target s.flash) [])) (takes_wrong a k s.reply q) ∙ rw q)

own_many : (e : JobExchange) (t : RadioTarget) (f : List ℕ) → length (own_answers e t f) ≡ length (run_job e t f).flashes
unfolding own_answers run_job
own_many (ended x) t f = refl
own_many (ask a k) t f =
    let s = radio_stepped t f a.bytes 256 in
    by_test (eqb (length s.reply) a.expect) (λ q. rw q (ap suc (own_many (k s.reply) s.target s.flash))) (λ q. rw q)

own_more : (e : JobExchange) (t : RadioTarget) (f : List ℕ) (more : List (List ℕ)) → fed take_reply e (own_answers e t f ++ more) ≡ ended (run_job e t f).ending
own_more e t f more =
    fed_append take_reply e (own_answers e t f) more ∙ ap (λ (x : JobExchange). fed take_reply x more) (own_end e t f)
    ∙ fed_ended take_reply (run_job e t f).ending more

-- what is told of an exchange that has ended
told_ending : (g : JobInput) (rs : List (List ℕ)) (o : Ending) → fed take_reply (job g) rs ≡ ended o → (by_job g rs).ending ≡ o
unfolding by_job said
told_ending g rs o e = ap (λ (x : JobExchange). ending_of (said x)) e

-- a refused call changes nothing, whatever its kind
keeps_all : (c : RadioCall) → (job_refusal c ≡ 0 → ⊥) → KeepsAll c (job_refusal c) (call_done Radio c)
unfolding call_done job_untouched
keeps_all (job_opens r im m d out) h = rw (ne_eqb (job_refusal (job_opens r im m d out)) 0 h) (refl, refl, refl)
keeps_all (job_takes r im q out) h = rw (ne_eqb (job_refusal (job_takes r im q out)) 0 h) (refl, refl, refl)

-- a job keeps the mask of its opening
mask_kept : (im : List ℕ) (s : JobState) (r : List ℕ) → (job_advanced im s r).mask ≡ s.mask
unfolding job_advanced
mask_kept im s r = keeps_mask (reply_ending s.point im r) s r

mask_after : (im : List ℕ) (s : JobState) (rs : List (List ℕ)) → (after_replies job_machine im s rs).mask ≡ s.mask
unfolding after_replies
mask_after im s [] = refl
mask_after im s (r ∷ rs) = mask_after im (job_advanced im s r) rs ∙ mask_kept im s r

mask_stays : (g : JobInput) (rs : List (List ℕ)) → (job_state_after g rs).mask ≡ g.mask
mask_stays g rs = mask_after g.image (opened_job g) rs

-- an accepted opening was given what the rules ask
first_passes : (n h k : ℕ) → first_number n h k ≡ 0 → n ≡ 0
first_passes n h k e = by_test (eqb n 0) (λ t. eqb-true n 0 t) (λ t. rw t at e)

module _ (g : JobInput) (held out : List ℕ) (before : RadioTold) (ok : job_refusal (opens_job held out g) ≡ 0) where
  accepted : input_refusal g ≡ 0
  unfolding job_refusal
  accepted = first_passes (input_refusal g) (length held) (length out) ok

  -- what an accepted opening tells
  opening_told : call_heard Radio before (opens_job held out g) ≡ by_job g []
  unfolding call_heard call_done job_does job_hears by_job message_put after_replies fed said job fetched confirmed built
  opening_told = rw (eq-eqb (job_refusal (opens_job held out g)) 0 ok)

  module _ (calls : List RadioCall) (may : MayFollow Radio g.image (call_heard Radio before (opens_job held out g)) calls) where
    abbrev rs : List (List ℕ)
    rs = in_a_row Radio calls

    abbrev x : RadioTold
    x = told Radio before (opens_job held out g ∷ calls)

    told_all : x ≡ by_job g rs
    unfolding told
    told_all = ap (λ (y : RadioTold). told Radio y calls) opening_told ∙ job_lists g accepted calls (rw opening_told at may)

    against : (f : List ℕ) → length f ≡ 33024 → RadioAgainst g f x rs
    against f w =
        let ends : (more : List (List ℕ)) (o : Ending) → rs ≡ own_answers (job g) fresh_state f ++ more → (run_job (job g) fresh_state f).ending ≡ o → x.ending ≡ o =
        λ more o q z. ap (λ (y : RadioTold). y.ending) told_all ∙ told_ending g rs o (ap (λ (s : List (List ℕ)). fed take_reply (job g) s) q ∙ own_more (job g) fresh_state f more ∙ ap ended z) in
        record {
          many = λ o. own_many (job g) fresh_state f ∙ ap (λ (r : JobRun). length r.flashes) (job_programs g f accepted w o) ∙ job_messages g f;
          done = λ o more q. ends more ends_done q (ap (λ (r : JobRun). r.ending) (job_programs g f accepted w o));
          holds = λ o. ap (λ (r : JobRun). r.flash) (job_programs g f accepted w o);
          waits = λ o. ap (λ (r : JobRun). r.target) (job_programs g f accepted w o);
          cut = λ o n. job_cuts g f accepted w o n;
          again = λ o n h. ap (λ (r : JobRun). r.flash) (job_again_restores g f accepted w o n h);
          third = λ p. own_many (job g) fresh_state f ∙ ap (λ (r : JobRun). length r.flashes) (job_protected g f w p);
          refused = λ p more q. ends more (ends_error 1) q (ap (λ (r : JobRun). r.ending) (job_protected g f w p));
          same = λ p. ap (λ (r : JobRun). r.flash) (job_protected g f w p);
        }

    whole : RadioWhole g x calls
    unfolding by_job
    whole =
        let f = job_follows g.image (opened_job g) rs (opened_fits g accepted, refl) in
        let held_is : x.held ≡ packed_job (job_state_after g rs) = ap (λ (y : RadioTold). y.held) told_all in
        record {
          refused = keeps_all;
          told_is = told_all;
          held = held_is;
          kept = ap unpacked_job held_is ∙ f.held;
          long = sym f.fine.1;
          mask = mask_stays g rs;
          fits = f.fine.0;
          leaves = f.leaves ∙ same_fed (job_left g.image (opened_job g)) rs ∙ ap (λ (e : JobExchange). fed take_reply e rs) (opened_leaves g);
          ends = λ h z. let e = ends_fed (3 * page_count g.image + 7) (job g) rs (job_ends g) h in e.number (sym (ap (λ (y : Ending). y.number) (ap (λ (y : RadioTold). y.ending) told_all ∙ told_ending g rs e.ending e.is)) ∙ z);
          against = against;
        }

pub radio_calls_program : RadioCallsProgram
radio_calls_program g held out before calls ok may = whole g held out before ok calls may

pub radio_calls_alike : RadioCallsAlike
radio_calls_alike g held out before calls others ok a b e =
    told_all g held out before ok calls a ∙ ap (by_job g) e ∙ sym (told_all g held out before ok others b)

-- Calls that take these replies one by one, from where replies before have led.
calls_for : JobInput → (before replies : List (List ℕ)) → List RadioCall
calls_for g qs [] = []
calls_for g qs (r ∷ rs) = job_takes (by_job g qs).held g.image r (replicate 256 0) ∷ calls_for g (qs ++ r ∷ []) rs

module _ (g : JobInput) (ok : input_refusal g ≡ 0) where
  -- each is accepted
  taken : (qs : List (List ℕ)) (r : List ℕ) → job_refusal (job_takes (by_job g qs).held g.image r (replicate 256 0)) ≡ 0
  unfolding job_refusal by_job
  taken qs r =
      let f = job_follows g.image (opened_job g) qs (opened_fits g ok, refl) in
      ap (λ (u : Option JobState). later_number u (length g.image) 256) f.held ∙ rw (eq-eqb (length g.image) (job_state_after g qs).bytes f.fine.1)

  one_heard : (qs : List (List ℕ)) (r : List ℕ)
      → call_heard Radio (by_job g qs) (job_takes (by_job g qs).held g.image r (replicate 256 0)) ≡ by_job g (qs ++ r ∷ [])
  unfolding call_heard call_done job_replies
  one_heard qs r =
      let c = job_takes (by_job g qs).held g.image r (replicate 256 0) in
      rw (eq-eqb (job_refusal c) 0 (taken qs r)) (goes_on g ok qs c (taken qs r) (refl, refl))

  may_all : (qs rs : List (List ℕ)) → MayFollow Radio g.image (by_job g qs) (calls_for g qs rs)
  unfolding calls_for
  may_all qs [] = tt
  may_all qs (r ∷ rs) = (λ _. (refl, refl), rw (one_heard qs r) (may_all (qs ++ r ∷ []) rs))

  row_all : (qs rs : List (List ℕ)) → in_a_row Radio (calls_for g qs rs) ≡ rs
  unfolding in_a_row job_replies calls_for
  row_all qs [] = refl
  row_all qs (r ∷ rs) =
      rw (eq-eqb (job_refusal (job_takes (by_job g qs).held g.image r (replicate 256 0))) 0 (taken qs r))
      (ap (λ (t : List (List ℕ)). r ∷ t) (row_all (qs ++ r ∷ []) rs))

pub radio_calls_exist : RadioCallsExist
radio_calls_exist g held out before f ok =
    let a = accepted g held out before ok in
    let rs = own_answers (job g) fresh_state f in
    record {
      calls = calls_for g [] rs;
      follow = rw (opening_told g held out before ok) (may_all g a [] rs);
      own = row_all g a [] rs;
    }

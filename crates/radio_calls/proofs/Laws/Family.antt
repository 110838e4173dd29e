-- A job's calls go on by their replies, so their lists are the replies in a row.
use mathlib.Core.Path.{◌≡◌, refl, sym, ap, ◌∙◌}
use mathlib.Core.List.{List, [], ◌∷◌, ◌++◌}
use mathlib.Core.Option.{Option, some}
use Prim.Native.Nat.{ℕ}
use lib.ListN.{length, drop}
use lib.Seq.{take-append_seam}
use Rattle.exchange.specs.Exchange.{Said, asks, ends, said, after, fed}
use Rattle.exchange.specs.Machine.{Machine, Sound, after_replies, RepliesFollow}
use Rattle.exchange.specs.Machine as Machines
use Rattle.exchange.specs.Calls.{GoesOn, ListsAreReplies, ListsAlike}
use Rattle.exchange.proofs.Laws.Exchange.{fed_append}
use Rattle.exchange.proofs.Laws.Machine.{replies_follow, parts_join}
use Rattle.exchange.proofs.Laws.Calls.{lists_are_replies, lists_alike}
use Rattle.radio_job.specs.declared.Ending.{Ending}
use Rattle.radio_job.specs.Image.{JobInput, input_refusal}
use Rattle.radio_job.specs.Job.{Message, JobExchange, take_reply, still_runs, job}
use Rattle.radio_job.specs.State.{JobState, opened_job, job_left}
use Rattle.radio_job.specs.Advance.{job_advanced}
use Rattle.radio_job.proofs.Laws.Advance.{advances}
use Rattle.radio_job.proofs.Laws.Fits.{fitting, stays_fit, stays_long, opened_fits}
use Rattle.radio_record.specs.Record.{packed_job, unpacked_job}
use Rattle.radio_record.proofs.Laws.Claims.{packed_back}
use Rattle.radio_calls.specs.Calls.{job_opens, job_takes}
use Rattle.radio_calls.specs.Calls.{job_does, takes_reply, takes_answer, message_of, message_put}
use Rattle.radio_calls.specs.Family.{Radio, RadioTold, job_hears, job_replies, job_machine, job_state_after, ending_of}
use Rattle.radio_calls.specs.Family.{expect_of, by_job}

pub job_sound : Sound job_machine
job_sound =
    record {
      stays = λ im s r f. (stays_fit im s r f.0 f.1, f.1 ∙ sym (stays_long im s r));
      back = λ im s f. packed_back s f.0;
      moves = λ im s r f. advances im s r (fitting s f.0).point f.1;
    }

pub job_follows : RepliesFollow job_machine
job_follows = replies_follow job_machine job_sound

-- the machine's own feeding is the exchange's
pub same_fed : (e : JobExchange) (rs : List (List ℕ)) → Machines.fed job_machine e rs ≡ fed take_reply e rs
unfolding Machines.fed fed
same_fed e [] = refl
same_fed e (r ∷ rs) = same_fed (after take_reply e r) rs

fed_one : (e : JobExchange) (r : List ℕ) → fed take_reply e (r ∷ []) ≡ after take_reply e r
unfolding fed
fed_one e r = refl

-- what the opening leaves is the job
pub opened_leaves : (g : JobInput) → job_left g.image (opened_job g) ≡ job g
unfolding job_left job
opened_leaves g = refl

-- what a call tells of what is said
said_told : (held : List ℕ) (x : Said Message Ending) (before : RadioTold) (r im q out : List ℕ)
    → job_hears before (job_takes r im q out) (record { answer = takes_answer x; held = held; out = message_put x out })
    ≡ record { held = held; ending = ending_of x; message = message_of x; expect = expect_of x }
unfolding job_hears message_put
said_told held (asks a) before r im q out =
    ap (λ (m : List ℕ). record { held = held; ending = still_runs; message = m; expect = a.expect }) (take-append_seam a.bytes (drop (length a.bytes) out))
said_told held (ends e) before r im q out = refl

after_one : (g : JobInput) (qs : List (List ℕ)) (q : List ℕ) → job_advanced g.image (job_state_after g qs) q ≡ job_state_after g (qs ++ q ∷ [])
unfolding after_replies
after_one g qs q = parts_join job_machine g.image (opened_job g) qs (q ∷ [])

-- what is told of a state and of what it leaves to say
abbrev told_at : JobState → JobExchange → RadioTold
told_at s e = let x = said e in record { held = packed_job s; ending = ending_of x; message = message_of x; expect = expect_of x }

module _ (g : JobInput) (ok : input_refusal g ≡ 0) where
  pub goes_on : GoesOn Radio g.image (by_job g)
  unfolding job_does job_replies by_job
  goes_on qs (job_opens r im m d out) e h = absurd h
  goes_on qs (job_takes r im q out) e h =
      let f = job_follows g.image (opened_job g) qs (opened_fits g ok, refl) in
      let s = job_state_after g qs in
      let u : unpacked_job r ≡ some s = ap unpacked_job h.0 ∙ f.held in
      let left : job_left g.image s ≡ fed take_reply (job g) qs =
      f.leaves ∙ same_fed (job_left g.image (opened_job g)) qs ∙ ap (λ (x : JobExchange). fed take_reply x qs) (opened_leaves g) in
      let more : after take_reply (job_left g.image s) q ≡ fed take_reply (job g) (qs ++ q ∷ []) =
      ap (λ (x : JobExchange). after take_reply x q) left ∙ sym (fed_one (fed take_reply (job g) qs) q) ∙ sym (fed_append take_reply (job g) qs (q ∷ [])) in
      let next : job_advanced g.image s q ≡ job_state_after g (qs ++ q ∷ []) = after_one g qs q in
      ap (λ (x : Option JobState). job_hears (by_job g qs) (job_takes r im q out) (takes_reply x r im q out)) u
      ∙ ap (λ (i : List ℕ). job_hears (by_job g qs) (job_takes r im q out) (takes_reply (some s) r i q out)) h.1
      ∙ said_told (packed_job (job_advanced g.image s q)) (said (after take_reply (job_left g.image s) q)) (by_job g qs) r im q out
      ∙ (λ i. told_at (next i) (more i))

  pub job_lists : ListsAreReplies Radio g.image (by_job g)
  job_lists = lists_are_replies Radio g.image (by_job g) goes_on

  pub job_lists_alike : ListsAlike Radio g.image (by_job g)
  job_lists_alike = lists_alike Radio g.image (by_job g) goes_on

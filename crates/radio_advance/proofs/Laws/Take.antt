-- A call that takes a reply, by the laws of its parts.
use mathlib.Core.Path.{◌≡◌, refl, sym, ap, subst, ◌∙◌}
use mathlib.Core.Bool.{Bool, true, false, cond, ◌&&◌}
use mathlib.Core.List.{List, ◌++◌, append_assoc}
use mathlib.Core.Option.{Option, some, none}
use Rattle.std.specs.Prelude.{Option as OptionOf, Some, None, Ok, Err, is_ok}
use Prim.Native.Nat.{ℕ, ◌≤◌, ◌<◌}
use native.Mathlib.Omega.{arith}
use lib.Dec.{eqb}
use lib.ListN.{length, take, drop, length-append, length-take, length-drop}
use lib.Seq.{take_at, drop_at, take-add, take-take, take-append-le, length-take-le}
use borrow.Author.Tests.{eq-eqb, ne_eqb, lt-ltb, le-ltb, le-leb, eqb-true}
use Rattle.laws.proofs.Tests.{by_test}
use Rattle.exchange.specs.Exchange.{Said, said, after}
use Rattle.exchange.specs.Calls.{call_done}
use Rattle.radio_job.specs.declared.Ending.{Ending}
use Rattle.radio_job.specs.declared.JobPoint.{JobPoint}
use Rattle.radio_job.specs.declared.JobPoint.TheVariants.{AsksConfiguration, TakesConfiguration, ErasesArea, FeedsPage}
use Rattle.radio_job.specs.declared.JobPoint.TheVariants.{ErasesConfiguration, SetsConfiguration, SetsByte0, AsksPage}
use Rattle.radio_job.specs.declared.JobPoint.TheVariants.{TakesPage, SetsByte1, Finished}
use Rattle.radio_job.specs.Image.{merged, image_fits}
use Rattle.radio_job.specs.Job.{Message, JobExchange, Standing, take_reply, confirmed, fetched}
use Rattle.radio_job.specs.State.{JobState, point_leaves, job_left, point_fits}
use Rattle.radio_job.specs.Advance.{length_ending, reply_ending, next_point, page_kept, job_advanced_by, job_advanced}
use Rattle.radio_job.proofs.Laws.Image.{merged_long, sized}
use Rattle.radio_job.proofs.Laws.Fits.{fitting, EndFits, next_fits, ends_fit}
use Rattle.radio_job.proofs.Laws.Advance.{advances}
use Rattle.radio_record.specs.declared.JobKept.{JobKept}
use Rattle.radio_record.specs.Record.{mask_of, point_bytes, packed_job, job_kept, kept_state, unpacked_job}
use Rattle.radio_record.proofs.Laws.Record.{point_bytes_long, not_520_bytes}
use Rattle.radio_record.proofs.Laws.Claims.{packed_long, kept_record}
use Rattle.radio_calls.specs.declared.RadioAdvanced.{RadioAdvanced}
use Rattle.radio_calls.specs.Calls.{RadioCall, job_takes, room_number, later_number, job_refusal, job_untouched, takes_number}
use Rattle.radio_calls.specs.Calls.{takes_answer, message_put, takes_reply, job_does}
use Rattle.radio_calls.specs.Family.{Radio}
use Rattle.radio_point.specs.Code.After.{point_by, job_point_after}
use Rattle.radio_say.specs.Code.Say.{point_says, may_say, say_answer, say_out}
use Rattle.radio_advance.specs.Code.Kept.{takes_old, merged_held, held_after, held_at, held_next, says_next}

-- The point after a reply is one of the job's.
module _ (p : JobPoint) (im r : List ℕ) (i : image_fits (length im) ≡ true) (f : point_fits (length im) p ≡ true) where
  pub after_is : job_point_after p im r ≡ point_by (reply_ending p im r) p (length im)
  unfolding job_point_after
  after_is = rw (i, f)

  pub after_fits : point_fits (length im) (job_point_after p im r) ≡ true
  after_fits =
      let z = sized (length im) i in
      ap (point_fits (length im)) after_is
      ∙ by_fits (reply_ending p im r) (next_fits p (length im) z.some f) (ends_fit p im r f)
    where
      by_fits : (v : Standing) → point_fits (length im) (next_point p (length im)) ≡ true → EndFits (length im) v
          → point_fits (length im) (point_by v p (length im)) ≡ true
      by_fits (Ok _) a b = a
      by_fits (Err e) a b = b

-- Lengths stay.
module _ (h : List ℕ) (l : length h ≡ 520) where
  old_page : length (take 256 h) ≡ 256
  old_page = length-take-le 256 h (omega arith)

  old_mask : length (mask_of h) ≡ 256
  old_mask = let a = length-take 256 (drop 256 h) in let b = length-drop 256 h in omega arith

  merged_part : (r : List ℕ) → length r ≡ 256 → length (merged (mask_of h) (take 256 h) r) ≡ 256
  merged_part r e = merged_long 256 (mask_of h) (take 256 h) r old_mask old_page e

  pub after_long : (t : Bool) (r : List ℕ) → length (held_after t h r) ≡ 520
  unfolding held_after merged_held
  after_long t r =
      by_test (t && eqb (length r) 256)
      (λ q. rw q (
      let m = merged_part r (eqb-true (length r) 256 (second t _ q)) in
      let a = length-append (merged (mask_of h) (take 256 h) r) (drop 256 h) in
      let d = length-drop 256 h in
      omega arith))
      (λ q. rw q l)
    where
      second : (a b : Bool) → a && b ≡ true → b ≡ true
      second true b e = e
      second false b e = absurd (let z : ◌≡◌ {A = ℕ} 0 1 = cc in omega arith)

  pub at_long : (n : ℕ) (p : JobPoint) → length (held_at n p h) ≡ 520
  unfolding held_at
  at_long n p =
      let a = length-append (take 512 h) (point_bytes n p) in
      let b = point_bytes_long n p in
      let c = length-take 512 h in
      omega arith

  -- the page of a record with other numbers at its end
  pub at_page : (n : ℕ) (p : JobPoint) → take 256 (held_at n p h) ≡ take 256 h
  unfolding held_at
  at_page n p =
      let c = length-take 512 h in
      let a : 256 ≤ length (take 512 h) = omega arith in
      let b : 256 ≤ 512 = omega arith in
      take-append-le 256 (take 512 h) (point_bytes n p) a ∙ take-take 256 512 h b

  -- behind the page a record stays
  pub after_behind : (t : Bool) (r : List ℕ) → drop 256 (held_after t h r) ≡ drop 256 h
  unfolding held_after merged_held
  after_behind t r =
      by_test (t && eqb (length r) 256)
      (λ q. rw q (drop_at (merged (mask_of h) (take 256 h) r) (drop 256 h) 256 (merged_part r (eqb-true (length r) 256 (second t _ q)))))
      (λ q. rw q)
    where
      second : (a b : Bool) → a && b ≡ true → b ≡ true
      second true b e = e
      second false b e = absurd (let z : ◌≡◌ {A = ℕ} 0 1 = cc in omega arith)

  -- the page after a reply, as the job has it
  abbrev state : (n : ℕ) → JobPoint → JobState
  state n p = record { page = take 256 h; mask = mask_of h; bytes = n; point = p }

  same_page : (p : JobPoint) (r im : List ℕ) → page_kept p (mask_of h) (take 256 h) r ≡ take 256 h → takes_old p ≡ false
      → cond (is_ok (reply_ending p im r)) (page_kept p (mask_of h) (take 256 h) r) (take 256 h) ≡ take 256 (held_after (takes_old p) h r)
  unfolding held_after
  same_page p r im e f = rw f (by_test (is_ok (reply_ending p im r)) (λ t. rw t e) (λ t. rw t))

  page_taken : (r : List ℕ) → cond (is_ok (length_ending 256 r)) (merged (mask_of h) (take 256 h) r) (take 256 h) ≡ take 256 (held_after true h r)
  unfolding held_after merged_held length_ending
  page_taken r =
      by_test (eqb (length r) 256)
      (λ t. rw t (sym (take_at (merged (mask_of h) (take 256 h) r) (drop 256 h) 256 (merged_part r (eqb-true (length r) 256 t)))))
      (λ t. rw t)

  page_cond : (p : JobPoint) (im r : List ℕ)
      → cond (is_ok (reply_ending p im r)) (page_kept p (mask_of h) (take 256 h) r) (take 256 h) ≡ take 256 (held_after (takes_old p) h r)
  page_cond AsksConfiguration im r = same_page AsksConfiguration r im refl refl
  page_cond TakesConfiguration im r = page_taken r
  page_cond ErasesArea im r = same_page ErasesArea r im refl refl
  page_cond (FeedsPage i) im r = same_page (FeedsPage i) r im refl refl
  page_cond ErasesConfiguration im r = same_page ErasesConfiguration r im refl refl
  page_cond SetsConfiguration im r = same_page SetsConfiguration r im refl refl
  page_cond SetsByte0 im r = same_page SetsByte0 r im refl refl
  page_cond (AsksPage i) im r = same_page (AsksPage i) r im refl refl
  page_cond (TakesPage i) im r = same_page (TakesPage i) r im refl refl
  page_cond SetsByte1 im r = same_page SetsByte1 r im refl refl
  page_cond (Finished e) im r = same_page (Finished e) r im refl refl

  -- the state after a reply, by its parts
  pub state_is : (n : ℕ) (p : JobPoint) (im r : List ℕ) → length im ≡ n → image_fits (length im) ≡ true → point_fits (length im) p ≡ true
      → job_advanced im (state n p) r
      ≡ record { page = take 256 (held_after (takes_old p) h r); mask = mask_of h; bytes = n; point = job_point_after p im r }
  unfolding job_advanced
  state_is n p im r e i f =
      parts (reply_ending p im r)
      ∙ ap (λ (c : List ℕ). record { page = c; mask = mask_of h; bytes = n; point = point_by (reply_ending p im r) p n }) (page_cond p im r)
      ∙ ap (λ (k : ℕ). record { page = take 256 (held_after (takes_old p) h r); mask = mask_of h; bytes = n; point = point_by (reply_ending p im r) p k }) (sym e)
      ∙ ap (λ (q : JobPoint). record { page = take 256 (held_after (takes_old p) h r); mask = mask_of h; bytes = n; point = q }) (sym (after_is p im r i f))
    where
      parts : (v : Standing) → job_advanced_by v (state n p) r
          ≡ record {
            page = cond (is_ok v) (page_kept p (mask_of h) (take 256 h) r) (take 256 h);
            mask = mask_of h;
            bytes = n;
            point = point_by v p n;
          }
      parts (Ok _) = refl
      parts (Err e) = refl

  -- and its record
  pub record_is : (n : ℕ) (p q : JobPoint) (r : List ℕ)
      → packed_job (record { page = take 256 (held_after (takes_old p) h r); mask = mask_of h; bytes = n; point = q }) ≡ held_at n q (held_after (takes_old p) h r)
  unfolding packed_job held_at
  record_is n p q r =
      let a = held_after (takes_old p) h r in
      sym (append_assoc (take 256 a) (mask_of h) (point_bytes n q))
      ∙ ap (λ (x : List ℕ). (take 256 a ++ take 256 x) ++ point_bytes n q) (sym (after_behind (takes_old p) r))
      ∙ ap (λ (x : List ℕ). x ++ point_bytes n q) (sym (take-add 256 256 a))

-- What a job says does not go by the mask.
pub says_left : (p : JobPoint) (im m c : List ℕ) → said (point_leaves p im m c) ≡ point_says p im c
unfolding point_says said fetched confirmed
says_left AsksConfiguration im m c = refl
says_left TakesConfiguration im m c = refl
says_left ErasesArea im m c = refl
says_left (FeedsPage i) im m c = refl
says_left ErasesConfiguration im m c = refl
says_left SetsConfiguration im m c = refl
says_left SetsByte0 im m c = refl
says_left (AsksPage i) im m c = refl
says_left (TakesPage i) im m c = refl
says_left SetsByte1 im m c = refl
says_left (Finished e) im m c = refl

-- A reply taken on by page, point and message, in this order.
module _ (p next : JobPoint) (h h₁ h₂ im q : List ℕ) (l : length h ≡ 520) (i : image_fits (length im) ≡ true)
    (f : point_fits (length im) p ≡ true) (n : next ≡ job_point_after p im q) (e₁ : h₁ ≡ held_after (takes_old p) h q)
    (e₂ : h₂ ≡ held_at (length im) next h₁) where
  abbrev merges : List ℕ
  merges = held_after (takes_old p) h q

  second : h₂ ≡ held_next p h im q
  unfolding held_next
  second = e₂ ∙ ap (λ (x : List ℕ). held_at (length im) next x) e₁ ∙ ap (λ (x : JobPoint). held_at (length im) x merges) n

  second_long : length h₂ ≡ 520
  unfolding held_next
  second_long = ap length second ∙ at_long merges (after_long h l (takes_old p) q) (length im) (job_point_after p im q)

  says : point_says next im (take 256 h₂) ≡ says_next p h im q
  unfolding says_next held_next
  says =
      ap (λ (x : JobPoint). point_says x im (take 256 h₂)) n
      ∙ ap (λ (x : List ℕ). point_says (job_point_after p im q) im x)
      (ap (λ (x : List ℕ). take 256 x) second ∙ at_page merges (after_long h l (takes_old p) q) (length im) (job_point_after p im q))

  module _ (out : List ℕ) (w : 256 ≤ length out) where
    may : may_say next im h₂ out ≡ true
    unfolding may_say
    may = rw (le-leb 256 (length out) w, eq-eqb (length h₂) 520 second_long, i) (ap (point_fits (length im)) n ∙ after_fits p im q i f)

    said_answer : say_answer next im h₂ out ≡ takes_answer (says_next p h im q)
    unfolding say_answer
    said_answer = rw may (ap takes_answer says)

    said_out : say_out next im h₂ out ≡ message_put (says_next p h im q) out
    unfolding say_out
    said_out = rw may (ap (λ (x : Said Message Ending). message_put x out) says)

    pub taken_on : (r : RadioAdvanced) (now : List ℕ) → r ≡ say_answer next im h₂ out → now ≡ say_out next im h₂ out
        → (r ≡ takes_answer (says_next p h im q)) × ((h₂ ≡ held_next p h im q) × (now ≡ message_put (says_next p h im q) out))
    taken_on r now a b = (a ∙ said_answer, (second, b ∙ said_out))

-- What a record keeps, as the calls read it.
kept_none : (h : List ℕ) → job_kept h ≡ None → unpacked_job h ≡ none
unfolding unpacked_job
kept_none h e = ap (λ (k : OptionOf JobKept). kept_state k h) e

kept_some : (h : List ℕ) (n : ℕ) (p : JobPoint) → job_kept h ≡ Some (record { bytes = n; point = p })
    → unpacked_job h ≡ some (record { page = take 256 h; mask = mask_of h; bytes = n; point = p })
unfolding unpacked_job
kept_some h n p e = ap (λ (k : OptionOf JobKept). kept_state k h) e

-- what is known of a record that keeps a job
pub record Kept (h : List ℕ) (n : ℕ) (p : JobPoint) : Type 0 where
  pub long : length h ≡ 520
  pub image : image_fits n ≡ true
  pub point : point_fits n p ≡ true

pub kept : (h : List ℕ) (n : ℕ) (p : JobPoint) → job_kept h ≡ Some (record { bytes = n; point = p }) → Kept h n p
kept h n p e =
    let j = kept_record h n p e in
    let s : JobState = record { page = take 256 h; mask = mask_of h; bytes = n; point = p } in
    let f = fitting s j.fits in
    record { long = sym (ap length j.bytes) ∙ packed_long s j.fits; image = f.image; point = f.point }

-- and of the image that it is lent with
pub record KeptWith (h im : List ℕ) (p : JobPoint) : Type 0 where
  pub long : length h ≡ 520
  pub image : image_fits (length im) ≡ true
  pub point : point_fits (length im) p ≡ true

pub kept_with : (h im : List ℕ) (n : ℕ) (p : JobPoint) → job_kept h ≡ Some (record { bytes = n; point = p }) → length im ≡ n → KeptWith h im p
kept_with h im n p k e =
    let f = kept h n p k in
    record { long = f.long; image = ap image_fits e ∙ f.image; point = ap (λ (i : ℕ). point_fits i p) e ∙ f.point }

-- THE CALL.
module _ (h im q out : List ℕ) where
  abbrev call : RadioCall
  call = job_takes h im q out

  abbrev Answers : RadioAdvanced → (held now : List ℕ) → Type 0
  Answers r held now = (r ≡ (call_done Radio call).answer) × ((held ≡ (call_done Radio call).held) × (now ≡ (call_done Radio call).out))

  refuses : (n : ℕ) (r : RadioAdvanced) → job_refusal call ≡ n → (n ≡ 0 → ⊥) → r ≡ takes_number n → Answers r h out
  unfolding call_done job_untouched
  refuses n r e z a = rw (e, ne_eqb n 0 z) (a, (refl, refl))

  -- a record that keeps no job
  record_number : job_kept h ≡ None → job_refusal call ≡ 6
  unfolding job_refusal
  record_number k = ap (λ (u : Option JobState). later_number u (length im) (length out)) (kept_none h k)

  -- or that has another length
  pub refuses_other : (length h ≡ 520 → ⊥) → (r : RadioAdvanced) → r ≡ takes_number 6 → Answers r h out
  refuses_other l r a = refuses 6 r (record_number (sym (not_520_bytes h l))) (λ z. omega arith) a

  pub refuses_record : job_kept h ≡ None → (r : RadioAdvanced) → r ≡ takes_number 6 → Answers r h out
  refuses_record k r a = refuses 6 r (record_number k) (λ z. omega arith) a

  module _ (n : ℕ) (p : JobPoint) (k : job_kept h ≡ Some (record { bytes = n; point = p })) where
    later : job_refusal call ≡ cond (eqb (length im) n) (room_number (length out)) 7
    unfolding job_refusal
    later = ap (λ (u : Option JobState). later_number u (length im) (length out)) (kept_some h n p k)

    -- another image; no room
    pub refuses_image : (length im ≡ n → ⊥) → (r : RadioAdvanced) → r ≡ takes_number 7 → Answers r h out
    refuses_image d r a = refuses 7 r (later ∙ rw (ne_eqb (length im) n d)) (λ z. omega arith) a

    pub refuses_room : length im ≡ n → length out < 256 → (r : RadioAdvanced) → r ≡ takes_number 26 → Answers r h out
    refuses_room d l r a = refuses 26 r (later ∙ rw (eq-eqb (length im) n d, lt-ltb (length out) 256 l)) (λ z. omega arith) a

    -- accepted: by the exchange
    module _ (d : length im ≡ n) (l : 256 ≤ length out) where
      accepted : job_refusal call ≡ 0
      accepted = later ∙ rw (eq-eqb (length im) n d, le-ltb (length out) 256 l)

      abbrev kept_at : JobState
      kept_at = record { page = take 256 h; mask = mask_of h; bytes = n; point = p }

      -- what is said next is what the next point says
      says_next_is : said (after take_reply (job_left im kept_at) q) ≡ says_next p h im q
      unfolding job_left says_next
      says_next_is =
          let f = kept_with h im n p k d in
          ap (λ (e : JobExchange). said e) (sym (advances im kept_at q (kept h n p k).point d))
          ∙ ap (λ (s : JobState). said (job_left im s)) (state_is h f.long n p im q d f.image f.point)
          ∙ says_left (job_point_after p im q) im (mask_of h) (take 256 (held_after (takes_old p) h q))

      held_next_is : packed_job (job_advanced im kept_at q) ≡ held_next p h im q
      unfolding held_next
      held_next_is =
          let f = kept_with h im n p k d in
          ap packed_job (state_is h f.long n p im q d f.image f.point) ∙ record_is h f.long n p (job_point_after p im q) q
          ∙ ap (λ (i : ℕ). held_at i (job_point_after p im q) (held_after (takes_old p) h q)) (sym d)

      does_is : job_does call ≡ takes_reply (some kept_at) h im q out
      unfolding job_does
      does_is = ap (λ (u : Option JobState). takes_reply u h im q out) (kept_some h n p k)

      done_is : call_done Radio call ≡ record { answer = takes_answer (says_next p h im q); held = held_next p h im q; out = message_put (says_next p h im q) out }
      unfolding call_done
      done_is =
          rw accepted
          (does_is
          ∙ ap (λ (x : Said Message Ending). record { answer = takes_answer x; held = packed_job (job_advanced im kept_at q); out = message_put x out }) says_next_is
          ∙ ap (λ (t : List ℕ). record { answer = takes_answer (says_next p h im q); held = t; out = message_put (says_next p h im q) out }) held_next_is)

      pub accepts : (r : RadioAdvanced) (held now : List ℕ) → r ≡ takes_answer (says_next p h im q)
          → held ≡ held_next p h im q → now ≡ message_put (says_next p h im q) out → Answers r held now
      accepts r held now a b c =
          (a ∙ sym (ap (λ x. x.answer) done_is), (b ∙ sym (ap (λ x. x.held) done_is), c ∙ sym (ap (λ x. x.out) done_is)))

-- a record lent on as an array is the same
pub lent_on : (h held im q out : List ℕ) (r : RadioAdvanced) (then now : List ℕ) → h ≡ held → Answers h im q out r then now → Answers held im q out r then now
lent_on h held im q out r then now e a = subst (λ (x : List ℕ). Answers x im q out r then now) e a

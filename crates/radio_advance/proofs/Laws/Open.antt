-- An opening, by what it writes.
use mathlib.Core.Path.{◌≡◌, refl, sym, ap, subst, ◌∙◌}
use mathlib.Core.Bool.{true}
use mathlib.Core.List.{List, ◌++◌, append_assoc}
use Prim.Native.Nat.{ℕ, ◌≤◌, ◌<◌}
use native.Mathlib.Omega.{arith}
use lib.ListN.{length, take, drop, length-append, length-take, length-drop}
use lib.Seq.{take_at}
use borrow.Author.Tests.{eq-eqb, ne_eqb, lt-ltb, le-ltb, le-leb}
use borrow.Rule.Slice.PartMut.{mid_of, put_mid}
use Rattle.exchange.specs.Exchange.{said}
use Rattle.exchange.specs.Calls.{call_done}
use Rattle.radio_job.specs.declared.JobPoint.TheVariants.{AsksConfiguration}
use Rattle.radio_job.specs.Image.{input_number}
use Rattle.radio_job.specs.Job.{confirmed, fetched, job}
use Rattle.radio_job.specs.State.{opened_job}
use Rattle.radio_job.proofs.Laws.Image.{AcceptedInput, accepted_input, mask_long}
use Rattle.radio_job.proofs.Laws.Fits.{opened_fits}
use Rattle.radio_record.specs.Record.{point_bytes, packed_job}
use Rattle.radio_record.proofs.Laws.Claims.{packed_long}
use Rattle.radio_calls.specs.declared.RadioOpened.{RadioOpened}
use Rattle.radio_calls.specs.declared.RadioAdvanced.{RadioAdvanced}
use Rattle.radio_calls.specs.Calls.{RadioCall, job_opens, input_of, first_number, job_refusal, job_untouched, opens_number}
use Rattle.radio_calls.specs.Calls.{opens_answer, takes_answer, message_put, job_does}
use Rattle.radio_calls.specs.Family.{Radio}
use Rattle.radio_say.specs.Code.Say.{point_says, may_say, say_answer, say_out}
use Rattle.radio_advance.specs.Code.Kept.{held_at}

module _ (h im m d out : List ℕ) where
  abbrev call : RadioCall
  call = job_opens h im m d out

  abbrev Answers : RadioOpened → (held now : List ℕ) → Type 0
  Answers r held now = (r ≡ (call_done Radio call).answer) × ((held ≡ (call_done Radio call).held) × (now ≡ (call_done Radio call).out))

  refuses : (n : ℕ) (r : RadioOpened) → job_refusal call ≡ n → (n ≡ 0 → ⊥) → r ≡ opens_number n → Answers r h out
  unfolding call_done job_untouched
  refuses n r e z a = rw (e, ne_eqb n 0 z) (a, (refl, refl))

  module _ (number : ℕ) (i : number ≡ input_number m (length d) (length im)) where
    first : job_refusal call ≡ first_number number (length h) (length out)
    unfolding job_refusal
    first = ap (λ (n : ℕ). first_number n (length h) (length out)) (sym i)

    pub refuses_input : (number ≡ 0 → ⊥) → (r : RadioOpened) → r ≡ opens_number number → Answers r h out
    refuses_input z r a = refuses number r (first ∙ rw (ne_eqb number 0 z)) z a

    module _ (z : number ≡ 0) where
      pub refuses_length : (length h ≡ 520 → ⊥) → (r : RadioOpened) → r ≡ opens_number 6 → Answers r h out
      refuses_length l r a = refuses 6 r (first ∙ rw (eq-eqb number 0 z, ne_eqb (length h) 520 l)) (λ q. omega arith) a

      pub refuses_out : length h ≡ 520 → length out < 256 → (r : RadioOpened) → r ≡ opens_number 26 → Answers r h out
      refuses_out l o r a = refuses 26 r (first ∙ rw (eq-eqb number 0 z, eq-eqb (length h) 520 l, lt-ltb (length out) 256 o)) (λ q. omega arith) a

      -- mask and data are 256 bytes
      given : AcceptedInput (input_of im m d)
      given = accepted_input (input_of im m d) (sym i ∙ z)

      pub ours_long : length d ≡ 256
      ours_long = given.ours

      pub masks_long : length m ≡ 256
      masks_long = mask_long m given.masked

      module _ (l : length h ≡ 520) (o : 256 ≤ length out) where
        accepted : job_refusal call ≡ 0
        accepted = first ∙ rw (eq-eqb number 0 z, eq-eqb (length h) 520 l, le-ltb (length out) 256 o)

        -- there is room for the data
        pub ours_room : length (take 256 h) ≡ length d
        ours_room =
            let a = length-take 256 h in
            let w = ours_long in
            omega arith

        long_with_data : (now : List ℕ) → now ≡ d ++ drop 256 h → length now ≡ 520
        long_with_data now e =
            let a : length now ≡ length (d ++ drop 256 h) = ap length e in
            let b = length-append d (drop 256 h) in
            let c = length-drop 256 h in
            let w = ours_long in
            omega arith

        module _ (first_part : List ℕ) (e₀ : first_part ≡ d) where
          abbrev h₁ : List ℕ
          h₁ = first_part ++ drop 256 h

          -- the data stand first
          one : h₁ ≡ d ++ drop 256 h
          one = ap (λ (x : List ℕ). x ++ drop 256 h) e₀

          one_long : length h₁ ≡ 520
          one_long = long_with_data h₁ one

          -- there is room for the mask
          pub mask_room : length (mid_of 256 256 h₁) ≡ length m
          mask_room =
              let a = length-take 256 (drop 256 h₁) in
              let b = length-drop 256 h₁ in
              let w = masks_long in
              let u = one_long in
              omega arith

        -- the record: data, mask, then the numbers
        module _ (h₁ part h₂ h₃ : List ℕ) (e₁ : h₁ ≡ d ++ drop 256 h) (e : part ≡ m) (e₂ : h₂ ≡ put_mid 256 256 h₁ part)
            (e₃ : h₃ ≡ held_at (length im) AsksConfiguration h₂) where
          two : h₂ ≡ d ++ (m ++ drop 256 (drop 256 h₁))
          two =
              e₂ ∙ ap (λ (x : List ℕ). take 256 h₁ ++ (x ++ drop 256 (drop 256 h₁))) e
              ∙ ap (λ (x : List ℕ). x ++ (m ++ drop 256 (drop 256 h₁))) (ap (λ (x : List ℕ). take 256 x) e₁ ∙ take_at d (drop 256 h) 256 ours_long)

          pub two_long : length h₂ ≡ 520
          two_long =
              let a = ap length two in
              let b = length-append d (m ++ drop 256 (drop 256 h₁)) in
              let c = length-append m (drop 256 (drop 256 h₁)) in
              let f = length-drop 256 (drop 256 h₁) in
              let g = length-drop 256 h₁ in
              let w = ours_long in
              let v = masks_long in
              let u = long_with_data h₁ e₁ in
              omega arith

          three : h₃ ≡ packed_job (opened_job (input_of im m d))
          unfolding packed_job held_at
          three =
              let t = drop 256 (drop 256 h₁) in
              let a : length (d ++ m) ≡ 512 = let x = length-append d m in let w = ours_long in let v = masks_long in omega arith in
              let f : take 512 h₂ ≡ d ++ m = ap (λ (x : List ℕ). take 512 x) (two ∙ sym (append_assoc d m t)) ∙ take_at (d ++ m) t 512 a in
              e₃ ∙ ap (λ (x : List ℕ). x ++ point_bytes (length im) AsksConfiguration) f ∙ append_assoc d m (point_bytes (length im) AsksConfiguration)

          three_long : length h₃ ≡ 520
          three_long = ap length three ∙ packed_long (opened_job (input_of im m d)) (opened_fits (input_of im m d) (sym i ∙ z))

          may : may_say AsksConfiguration im h₃ out ≡ true
          unfolding may_say
          may = rw (le-leb 256 (length out) o, eq-eqb (length h₃) 520 three_long, given.fits)

          -- the first message is that of the job
          says_first : point_says AsksConfiguration im (take 256 h₃) ≡ said (job (input_of im m d))
          unfolding point_says said job fetched confirmed
          says_first = refl

          said_answer : say_answer AsksConfiguration im h₃ out ≡ takes_answer (said (job (input_of im m d)))
          unfolding say_answer
          said_answer = rw may (ap takes_answer says_first)

          said_out : say_out AsksConfiguration im h₃ out ≡ message_put (said (job (input_of im m d))) out
          unfolding say_out
          said_out = rw may (ap (λ x. message_put x out) says_first)

          as_opened : record {
            number = 0;
            send = (takes_answer (said (job (input_of im m d)))).send;
            expect = (takes_answer (said (job (input_of im m d)))).expect;
          } ≡ opens_answer (said (job (input_of im m d)))
          unfolding said job fetched confirmed
          as_opened = refl

          pub opens : (r : RadioAdvanced) (now : List ℕ) → r ≡ say_answer AsksConfiguration im h₃ out → now ≡ say_out AsksConfiguration im h₃ out
              → Answers (record { number = 0; send = r.send; expect = r.expect }) h₃ now
          unfolding call_done job_does
          opens r now a q =
              rw accepted
              (ap (λ (x : RadioAdvanced). record { number = 0; send = x.send; expect = x.expect }) (a ∙ said_answer) ∙ as_opened, (three, q ∙ said_out))

-- a record lent on as an array is the same
pub lent_on : (h held im m d out : List ℕ) (r : RadioOpened) (then now : List ℕ) → h ≡ held → Answers h im m d out r then now → Answers held im m d out r then now
lent_on h held im m d out r then now e a = subst (λ (x : List ℕ). Answers x im m d out r then now) e a

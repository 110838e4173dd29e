-- The session and the target, step by step (specs/Code/Closed.antt of c2_target_step), are the exchange played
-- against the target; and what `c2_program` answers by them.
use mathlib.Core.Path.{◌≡◌, refl, sym, ap, ◌∙◌}
use mathlib.Core.Bool.{Bool, true, false, cond}
use mathlib.Core.List.{List}
use Prim.Native.Nat.{ℕ, zero, suc, ◌+◌, ◌*◌, ◌%◌, ◌<◌}
use native.Mathlib.Nat.{mod-eq_of_lt}
use native.Mathlib.Omega.{arith}
use borrow.Author.Tests.{ne_eqb}
use lib.Dec.{eqb}
use lib.ListN.{length}
use Rattle.laws.proofs.Tests.{by_test}
use Rattle.std.proofs.Common.{Result, Ok, Err, IfOk}
use Rattle.numbers.specs.declared.Refusal.{Refusal}
use Rattle.numbers.specs.Numbers.{no_point, refusal_number}
use Rattle.numbers.specs.Numbers
use Rattle.numbers.proofs.Refused.{refused}
use Rattle.laws.specs.Bytes.{Bytes}
use Rattle.c2_wire.specs.Step.{Step}
use Rattle.c2_wire.specs.Field.{Field}
use Rattle.c2_wire.specs.Exchange.{Exchange, Outcome, strobe, after, asks, outcome_of}
use Rattle.settings.specs.declared.Settings.{Settings}
use Rattle.settings.specs.Accepted.{settings_refusal}
use Rattle.settings.specs.Registers.{pairs_from, no_pairs, are_registers, are_pairs}
use Rattle.settings.specs.Opening.{opening_refusal}
use Rattle.settings.proofs.Laws.Opening.{settings_pass}
use Rattle.c2_session.specs.declared.Point.{Point}
use Rattle.c2_session.specs.declared.Session.{Session}
use Rattle.c2_session.specs.Code.Step.{session_step}
use Rattle.c2_session.specs.Code.Advance.{advanced}
use Rattle.c2_outcome.specs.Outcome.{is_running, number_of, offset_of}
use Rattle.c2_position.proofs.Laws.Step.{asks_step}
use Rattle.c2_position.proofs.Laws.Exchange.{exchange_advances}
use Rattle.c2_target.specs.declared.Target.{Target}
use Rattle.c2_target.specs.Delays.{Setup, setup}
use Rattle.c2_target.specs.Known.{is_byte, known_point, most_keys, known_command, known_output, known_link, known}
use Rattle.c2_target.specs.Target.{cleared, fresh, is_step, setup_refusal, step_refusal, answer, flash_after}
use Rattle.c2_play.specs.Playing.{Played, then_played, played, play}
use Rattle.c2_play.proofs.Laws.OwnReplies.{reply_small, play_on}
use Rattle.c2_opening.specs.Opened.{opened_session, exchange_at}
use Rattle.c2_opening.specs.Code.Started.{started}
use Rattle.c2_opening.proofs.Laws.Opened.{started_is, begins_lent, begins_so}
use Rattle.c2_opening.proofs.Laws.Follows.{Lent, lent_advances, still_asks, ended_over, outcome_now}
use Rattle.c2_target_step.specs.Code.Closed.{Closed, closed, from_start, first_refusal, closed_run}
use Rattle.c2_run.specs.Run.{run_refusal, run, run_answer, run_flash}
use Rattle.c2_target_step.specs.declared.Ran.{Ran}
use Rattle.c2_run.specs.declared.Run.{Run}
use Rattle.c2_run.specs.Code.{answered}

-- the exchange played and the session and target step by step stand at the same
pub record Same (image : List ℕ) (i : ℕ) (p : Played) (c : Closed) : Type 0 where
  pub exchange : p.left ≡ exchange_at c.session image
  pub target : p.target ≡ c.target
  pub flash : p.flash ≡ c.flash
  pub replies : i + length p.replies ≡ c.replies

-- an exchange that has not ended is played on by one reply more
played_on : (n : ℕ) (u : Setup) (e : Exchange) (y : Target) (f : List ℕ) {g : Field} {x : Step} {k : Bool → Exchange} → e ≡ strobe g x k
    → play u (suc n) e y f
    ≡ then_played (answer u y f (asks e)).reply (play u n (after e (answer u y f (asks e)).reply) (answer u y f (asks e)).target (flash_after u y f (asks e)))
unfolding asks
played_on n u e y f {g} {x} {k} p = rw p (play_on u n g x k y f)

turn : (n : ℕ) (t : Settings) (ds image : List ℕ) (s : Session) (y : Target) (f : List ℕ) → Lent s image → is_running s.point ≡ true
    → play (setup t no_pairs ds) (suc n) (exchange_at s image) y f
    ≡ then_played (answer (setup t no_pairs ds) y f (session_step s image)).reply (play (setup t no_pairs ds) n (exchange_at (advanced s ((answer (setup t no_pairs ds) y f (session_step s image)).reply % 256) image) image) (answer (setup t no_pairs ds) y f (session_step s image)).target (flash_after (setup t no_pairs ds) y f (session_step s image)))
unfolding advanced
turn n t ds image s y f h p =
    let u = setup t no_pairs ds in
    let r = (answer u y f (session_step s image)).reply in
    let small : r % 256 ≡ r = mod-eq_of_lt (omega (arith, reply_small u y f (session_step s image))) in
    let moves = exchange_advances s image h.id h.bytes h.range h.whole r in
    played_on n u (exchange_at s image) y f (still_asks s image h p).3
    ∙ rw (sym (asks_step s image h.range h.whole), small, moves)

pub same : (n i : ℕ) (t : Settings) (ds image : List ℕ) (s : Session) (y : Target) (f : List ℕ) → Lent s image
    → Same image i (play (setup t no_pairs ds) n (exchange_at s image) y f) (closed n i t ds image s y f)
unfolding played closed
same zero i t ds image s y f h = record { exchange = refl; target = refl; flash = refl; replies = omega arith }
same (suc n) i t ds image s y f h =
    let a = answer (setup t no_pairs ds) y f (session_step s image) in
    go (is_running s.point) refl
    (same n (i + 1) t ds image (advanced s (a.reply % 256) image) a.target (flash_after (setup t no_pairs ds) y f (session_step s image)) (lent_advances s image (a.reply % 256) h))
  where
    go : (b : Bool) → is_running s.point ≡ b
        → Same image (i + 1)
        (play (setup t no_pairs ds) n (exchange_at (advanced s ((answer (setup t no_pairs ds) y f (session_step s image)).reply % 256) image) image) (answer (setup t no_pairs ds) y f (session_step s image)).target (flash_after (setup t no_pairs ds) y f (session_step s image)))
        (closed n (i + 1) t ds image (advanced s ((answer (setup t no_pairs ds) y f (session_step s image)).reply % 256) image) (answer (setup t no_pairs ds) y f (session_step s image)).target (flash_after (setup t no_pairs ds) y f (session_step s image)))
        → Same image i (play (setup t no_pairs ds) (suc n) (exchange_at s image) y f) (closed (suc n) i t ds image s y f)
    go true p k =
        rw (turn n t ds image s y f h p, p)
        (record { exchange = k.exchange; target = k.target; flash = k.flash; replies = omega (arith, k.replies) })
    go false p k = rw (ended_over s image p, p) (record { exchange = sym (ended_over s image p); target = refl; flash = refl; replies = omega arith })

closed_lent : (n i : ℕ) (t : Settings) (ds image : List ℕ) (s : Session) (y : Target) (f : List ℕ) → Lent s image → Lent (closed n i t ds image s y f).session image
unfolding closed
closed_lent zero i t ds image s y f h = h
closed_lent (suc n) i t ds image s y f h =
    let a = answer (setup t no_pairs ds) y f (session_step s image) in
    let k = closed_lent n (i + 1) t ds image (advanced s (a.reply % 256) image) a.target (flash_after (setup t no_pairs ds) y f (session_step s image)) (lent_advances s image (a.reply % 256) h) in
    by_test (is_running s.point) (λ p. rw p k) (λ p. rw p h)

-- with settings that pass, a fresh target refuses a step by 17 alone, for the length of its flash
fresh_asks : (t : Settings) (f : List ℕ) → settings_refusal t ≡ 0 → first_refusal t f ≡ cond (eqb (length f) (t.size * t.count)) 0 no_point
unfolding setup_refusal pairs_from are_registers are_pairs step_refusal known known_point most_keys is_byte known_link known_command known_output fresh cleared is_step
fresh_asks t f s = rw s (by_test (eqb (length f) (t.size * t.count)) (λ e. rw e) (λ e. rw e))

-- what `c2_program` answers and leaves, at each of its returns
abbrev pub Leaves : Settings → (first : ℕ) → (image flash delays : List ℕ) → (budget : ℕ) → Run → (flash₁ : List ℕ) → Type 0
Leaves t first image f ds n a f₁ = (a ≡ run_answer t first image f ds n) × (f₁ ≡ run_flash t first image f ds n)

module _ (t : Settings) (first : ℕ) (image f ds : List ℕ) (n k : ℕ) (tested : k ≡ opening_refusal t first (length image)) where
  refuses_opening : (k ≡ 0 → ⊥) → (a : Run) → a ≡ record { number = k; offset = 0; replies = 0; collision = false } → Leaves t first image f ds n a f
  unfolding run_answer run_flash run_refusal
  refuses_opening differs a d = rw (sym tested, ne_eqb k 0 differs, ne_eqb k 0 differs) (d, refl)

  module _ (passed : k ≡ 0) (s : Session) (begun : s ≡ started t first (length image)) (m : ℕ) (asked : m ≡ first_refusal t f) where
    accepted : opening_refusal t first (length image) ≡ 0
    accepted = sym tested ∙ passed

    abbrev os : Session
    os = opened_session t first (length image)

    so : s ≡ os
    so = begun ∙ started_is t first (length image) accepted

    by_length : m ≡ cond (eqb (length f) (t.size * t.count)) 0 no_point
    by_length = asked ∙ fresh_asks t f (settings_pass t first (length image) accepted)

    -- what `play` leaves of the flash
    abbrev left : List ℕ
    left = (closed_run n t s ds image f).flash

    nothing_left : (m ≡ 0 → ⊥) → left ≡ f
    unfolding closed_run closed
    nothing_left differs =
        let z : cond (eqb (first_refusal t f) 0) n 0 ≡ 0 = rw (sym asked, ne_eqb m 0 differs) in
        ap (λ (b : ℕ). (closed b 0 t ds image (from_start s) fresh f).flash) z

    refuses_flash : (m ≡ 0 → ⊥) → (f₁ : List ℕ) → f₁ ≡ left → (a : Run) → a ≡ record { number = m; offset = 0; replies = 0; collision = false }
        → Leaves t first image f ds n a f₁
    unfolding run_answer run_flash run_refusal
    refuses_flash differs f₁ ef a d =
        by_test (eqb (length f) (t.size * t.count)) (λ e. absurd (differs (rw e at by_length)))
        (λ e. rw (accepted, e) (rw (rw e at by_length) at d, ef ∙ nothing_left differs))

    module _ (i : t.id < 256) (b : Bytes image) where
      lent : Lent os image
      lent = begins_lent t first image accepted i b

      abbrev end : Closed
      end = closed n 0 t ds image os fresh f

      abbrev ran : Played
      ran = run t first image f ds n

      -- the run is the session and the target, step by step
      run_is : Same image 0 ran end
      unfolding run
      run_is = rw (sym (begins_so t first image accepted)) (same n 0 t ds image os fresh f lent)

      outcome_is : outcome_of ran.left ≡ record { number = number_of end.session.point; offset = offset_of end.session.point }
      outcome_is =
          ap outcome_of run_is.exchange ∙ outcome_now end.session image (closed_lent n 0 t ds image os fresh f lent)

      ends_so : m ≡ 0 → closed_run n t s ds image f ≡ end
      unfolding closed_run opened_session
      ends_so z =
          let all : cond (eqb (first_refusal t f) 0) n 0 ≡ n = rw (sym asked ∙ z) in
          ap (λ (b : ℕ). closed b 0 t ds image (from_start s) fresh f) all
          ∙ ap (λ (x : Session). closed n 0 t ds image (from_start x) fresh f) so

      accepts : m ≡ 0 → (p : Point) (y : ℕ) (c : Bool) (f₁ : List ℕ)
          → p ≡ (closed_run n t s ds image f).session.point → y ≡ (closed_run n t s ds image f).replies → c ≡ (closed_run n t s ds image f).target.collision → f₁ ≡ left
          → (a : Run) → a ≡ record { number = number_of p; offset = offset_of p; replies = y; collision = c }
          → Leaves t first image f ds n a f₁
      unfolding run_answer run_flash run_refusal
      accepts z p y c f₁ ep ey ec ef a ea =
          let is = ends_so z in
          let point = rw is at ep in
          let number = ap number_of point ∙ sym (ap (λ (z : Outcome). z.number) outcome_is) in
          let offset = ap offset_of point ∙ sym (ap (λ (z : Outcome). z.offset) outcome_is) in
          let replies : y ≡ length ran.replies = omega (arith, rw is at ey, run_is.replies) in
          let mark = rw is at ec ∙ sym (ap (λ (z : Target). z.collision) run_is.target) in
          by_test (eqb (length f) (t.size * t.count))
          (λ e. rw (accepted, e) (
            ea ∙ (λ j. record { number = number j; offset = offset j; replies = replies j; collision = mark j }),
            ef ∙ ap (λ (x : Closed). x.flash) is ∙ sym run_is.flash,
          ))
          (λ e. absurd (let w : ◌≡◌ {A = ℕ} no_point 0 = sym (rw e at by_length) ∙ z in omega arith))

-- a refused opening, and an accepted one that is played as far as it goes
module _ (t : Settings) (first : ℕ) (image f ds : List ℕ) (n : ℕ) where
  pub opening_refused : (e : Refusal) → refusal_number e ≡ opening_refusal t first (length image) → Leaves t first image f ds n (answered (Err e)) f
  opening_refused e tested = let z = refused e in refuses_opening t first image f ds n _ tested (λ q. omega arith) _ refl

  module _ (tested : 0 ≡ opening_refusal t first (length image)) (s : Session) (begun : s ≡ started t first (length image)) (i : t.id < 256) (b : Bytes image) where
    pub plays : (r : Result Ran Refusal) → Numbers.number_of r ≡ first_refusal t f
        → IfOk r (λ x. x.point ≡ (closed_run n t s ds image f).session.point)
        → IfOk r (λ x. x.replies ≡ (closed_run n t s ds image f).replies)
        → IfOk r (λ x. x.collision ≡ (closed_run n t s ds image f).target.collision)
        → (f₁ : List ℕ) → f₁ ≡ (closed_run n t s ds image f).flash → Leaves t first image f ds n (answered r) f₁
    plays (Ok x) asked point replies collision f₁ e =
        accepts t first image f ds n 0 tested refl s begun 0 asked i b refl x.point x.replies x.collision f₁ point replies collision e _ refl
    plays (Err d) asked point replies collision f₁ e =
        let z = refused d in
        refuses_flash t first image f ds n 0 tested refl s begun (refusal_number d) asked (λ q. omega arith) f₁ e _ refl

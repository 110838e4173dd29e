-- The target's whole step: from a state that exists it is never refused for a step of the session, so a
-- session is played as against the steps that are not refused.
use mathlib.Core.Path.{◌≡◌, refl, ap, ◌∙◌, subst⁻¹}
use mathlib.Core.Bool.{Bool, true, false}
use mathlib.Core.List.{List, [], ◌∷◌, ◌++◌, map, append_assoc}
use Prim.Native.Nat.{ℕ, zero, suc}
use native.Mathlib.Omega.{arith}
use lib.Dec.{eqb}
use Rattle.numbers.specs.Numbers.{bad_status}
use Rattle.laws.specs.Bytes.{Bytes}
use Rattle.c2_wire.specs.Bits.{bit}
use Rattle.c2_wire.specs.Step.{Step, released, driven, reset, pause, off, code}
use Rattle.c2_wire.specs.Exchange.{Exchange, ended, ask, at, outcome, outcome_of}
use Rattle.settings.specs.Registers.{pairs_of, leave_all}
use Rattle.c2_order.specs.Acts.{Act, reset_pulse}
use Rattle.c2_order.specs.Order.{Page, joined, preparation, page_acts, order}
use Rattle.c2_order.specs.Conversation.{Limits, conversation}
use Rattle.c2_target.specs.declared.Target.{Target}
use Rattle.c2_target.specs.Delays.{Setup}
use Rattle.c2_target.specs.Known.{known}
use Rattle.c2_target.specs.Target.{stepped, step_coded, setup_refusal, answer, flash_after}
use Rattle.c2_play.specs.Playing.{Played, then_played, played, whole_step, play}
use Rattle.c2_play.specs.Pages.{with_pages}
use Rattle.c2_play.proofs.Laws.Playing.{duration, played_out}
use Rattle.c2_play.proofs.Laws.Programmed.{Meets, Prepares, exchange_over, Programmed, TurnedAway}
use Rattle.c2_play.proofs.Laws.Leads.{leads_outcome, leads_end, leads_along}
use Rattle.c2_play.proofs.Laws.Unprepared.{Turned}
use Rattle.c2_play.proofs.Laws.Unprepared
use Rattle.c2_play.proofs.Laws.Interface.{Fit}
use Rattle.c2_play.proofs.Laws.Run.{order_programs}
use Rattle.c2_play.proofs.Laws.Rise.{all_at}
use Rattle.settings.proofs.Laws.Accepted.{Facts, facts}
use Rattle.c2_target.proofs.Laws.Known.{Lent, Exists, known_says, known_is, stepped_known}
use Rattle.c2_target.proofs.Laws.Steps.{is_step_code, setup_accepted, not_refused}

-- the step of a step's byte
step_of_code : (s : Step) → step_coded (code s) ≡ s
unfolding step_coded code
step_of_code released = refl
step_of_code (driven false) = refl
step_of_code (driven true) = refl
step_of_code reset = refl
step_of_code pause = refl
step_of_code off = refl

bit_again : (b : Bool) → eqb (bit b) 1 ≡ b
unfolding bit
bit_again true = refl
bit_again false = refl

pub whole_is_stepped : (u : Setup) (t : Target) (f : List ℕ) (s : Step) → setup_refusal u ≡ 0 → known u t f ≡ true
    → whole_step u t f s ≡ stepped u t f s
unfolding whole_step answer flash_after
whole_is_stepped u t f s a k = rw (not_refused u t f (code s) a k (is_step_code s), step_of_code s, bit_again (stepped u t f s).reply)

-- every exchange is played as against the steps that are not refused (`played_stepped`), and takes as many
pub played_stepped : (u : Setup) → Lent u → setup_refusal u ≡ 0 → (n : ℕ) (e : Exchange) (t : Target) (f : List ℕ) → Bytes f → Exists u t f
    → play u n e t f ≡ played (stepped u) n e t f
unfolding played
played_stepped u lent a zero e t f hf x = refl
played_stepped u lent a (suc n) (ended o) t f hf x = refl
played_stepped u lent a (suc n) (ask (at g s) k) t f hf x =
    let y = stepped_known u lent t f s hf x in
    rw (whole_is_stepped u t f s a (known_is u t f x))
    (ap (then_played (bit (stepped u t f s).reply))
    (played_stepped u lent a n (k (stepped u t f s).reply) (stepped u t f s).target (stepped u t f s).flash y.bytes y.exists))

duration_stepped : (u : Setup) → Lent u → setup_refusal u ≡ 0 → (e : Exchange) (t : Target) (f : List ℕ) → Bytes f → Exists u t f
    → duration (whole_step u) e t f ≡ duration (stepped u) e t f
unfolding duration
duration_stepped u lent a (ended o) t f hf x = refl
duration_stepped u lent a (ask (at g s) k) t f hf x =
    let y = stepped_known u lent t f s hf x in
    rw (whole_is_stepped u t f s a (known_is u t f x))
    (ap suc (duration_stepped u lent a (k (stepped u t f s).reply) (stepped u t f s).target (stepped u t f s).flash y.bytes y.exists))

pub out_stepped : (u : Setup) → Lent u → setup_refusal u ≡ 0 → (e : Exchange) (t : Target) (f : List ℕ) → Bytes f → Exists u t f
    → played_out (whole_step u) e t f ≡ played_out (stepped u) e t f
out_stepped u lent a e t f hf x =
    ap (λ (n : ℕ). play u n e t f) (duration_stepped u lent a e t f hf x) ∙ played_stepped u lent a (duration (stepped u) e t f) e t f hf x

-- what a session is lent and meets, taken apart
module _ (l : Limits) (u : Setup) (ps : List Page) (t : Target) (f : List ℕ) (h : Meets l u ps t f) where
  pub lent_by : Lent u
  lent_by = record { id = h.bytes.id; delays = h.suits.delays; wait = h.suits.some }

  pub fit_by : Fit u l.wait l.reads
  fit_by =
      let x : Facts u.settings = facts u.settings h.accepted in
      record {
        low = x.fpdat;
        high = h.bytes.fpdat;
        id = h.bytes.id;
        registers = x.registers;
        register_bytes = h.bytes.registers;
        value_bytes = h.bytes.values;
        wanted = h.suits.wanted;
        delays = h.suits.delays;
        some = h.suits.some;
        wait = h.suits.wait;
        reads = h.suits.reads;
      }

  pub exists_by : Exists u t f
  exists_by = known_says u t f h.suits.state

  pub not_refused_by : setup_refusal u ≡ 0
  not_refused_by = setup_accepted u h.accepted h.suits.wanted

-- A session over any pages whose pairs leave the wanted values, played to its end against the target,
-- programs them.
pub pages_programmed : (l : Limits) (u : Setup) (ps : List Page) (t : Target) (f : List ℕ) → Prepares u → Meets l u ps t f
    → Programmed (with_pages u.settings.size ps f) (played_out (whole_step u) (exchange_over l u.settings ps) t f)
pages_programmed l u ps t f leaves h =
    let x : Facts u.settings = facts u.settings h.accepted in
    let k = exists_by l u ps t f h in
    subst⁻¹ (Programmed (with_pages u.settings.size ps f))
    (out_stepped u (lent_by l u ps t f h) (not_refused_by l u ps t f h) (conversation l (order u.settings ps)) t f h.suits.flash k)
    (order_programs u l.wait l.reads (fit_by l u ps t f h) leaves x.blocks x.size (omega (arith, x.some)) x.bytes ps t f h.suits.unmarked
    (all_at u.settings ps h.named.fits) k.flash)

-- One whose pairs do not is turned away at its first page (`pages_turned_away`), as are the preparation and a
-- page with any acts behind them (`acts_turned_away`).
pub acts_turned_away : (l : Limits) (u : Setup) (ps : List Page) (p : Page) (acts : List Act) (t : Target) (f : List ℕ)
    → leave_all (pairs_of u.settings.pairs) (pairs_of u.wanted) ≡ false → Meets l u ps t f
    → TurnedAway u (conversation l (preparation u.settings ++ (page_acts u.settings p ++ acts))) t f
acts_turned_away l u ps p acts t f differs h =
    let k = exists_by l u ps t f h in
    let lent = lent_by l u ps t f h in
    let a = not_refused_by l u ps t f h in
    let e : Exchange = conversation l (preparation u.settings ++ (page_acts u.settings p ++ acts)) in
    let way = Unprepared.lead_turned_away u l.wait l.reads (fit_by l u ps t f h) differs p acts t f h.suits.unmarked in
    let out = out_stepped u lent a e t f h.suits.flash k in
    record {
      ended = ap (λ (x : Played). outcome_of x.left) out ∙ leads_outcome (stepped u) (outcome bad_status) (λ F. F ≡ f) (Turned f) e t f way;
      clean = ap (λ (x : Played). x.target.collision) out ∙ (leads_end (stepped u) (outcome bad_status) (λ F. F ≡ f) (Turned f) e t f way).clean;
      same = λ n. ap (λ (x : Played). x.flash) (played_stepped u lent a n e t f h.suits.flash k)
          ∙ leads_along (stepped u) (outcome bad_status) (λ F. F ≡ f) (Turned f) (λ t f h. h.same) n e t f way;
    }

pub pages_turned_away : (l : Limits) (u : Setup) (p : Page) (ps : List Page) (t : Target) (f : List ℕ)
    → leave_all (pairs_of u.settings.pairs) (pairs_of u.wanted) ≡ false → Meets l u (p ∷ ps) t f
    → TurnedAway u (exchange_over l u.settings (p ∷ ps)) t f
unfolding order joined
pages_turned_away l u p ps t f differs h =
    let s = u.settings in
    let acts : List Act = joined (map (page_acts s) ps) in
    subst⁻¹ (λ (xs : List Act). TurnedAway u (conversation l xs) t f)
    (append_assoc (preparation s) (page_acts s p ++ acts) (reset_pulse ∷ [])
    ∙ ap (λ (xs : List Act). preparation s ++ xs) (append_assoc (page_acts s p) acts (reset_pulse ∷ [])))
    (acts_turned_away l u (p ∷ ps) p (acts ++ reset_pulse ∷ []) t f differs h)

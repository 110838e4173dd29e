-- The run of an exchange, and of one that goes on with another: how many steps each takes, and what it has
-- come to after any number of them.
use mathlib.Core.Path.{◌≡◌, refl, sym, ap, ◌∙◌}
use mathlib.Core.List.{List}
use Prim.Native.Nat.{ℕ, zero, suc, ◌+◌, ◌<◌, ◌≤◌}
use native.Mathlib.Omega.{arith}
use Rattle.numbers.specs.Numbers.{done}
use Rattle.c2_wire.specs.Step.{Step}
use Rattle.c2_wire.specs.Exchange.{Exchange, ended, ask, at, Outcome, outcome, outcome_of, fed}
use Rattle.c2_wire.proofs.Laws.Exchange.{fed_ended, after_bit}
use Rattle.c2_target.specs.declared.Target.{Target}
use Rattle.c2_target.specs.Strobes.{Turn}
use Rattle.c2_play.specs.Playing.{played}
use Rattle.c2_play.proofs.Laws.Playing.{duration, played_out}
use Rattle.c2_play.proofs.Laws.Onto.{onto}
use Rattle.c2_play.proofs.Laws.Leads.{onto_done, Leads}

module _ (step : Target → List ℕ → Step → Turn) where
  -- a run that leads somewhere keeps J wherever it is cut
  pub leads_way : (end : Outcome) (J : List ℕ → Type 0) (Z : Target → List ℕ → Type 0) (n : ℕ) (e : Exchange) (t : Target) (f : List ℕ) → Leads step end J Z e t f
      → n < duration step e t f → J (played step n e t f).flash
  unfolding Leads played duration
  leads_way end J Z n (ended o) t f h m = absurd (omega arith)
  leads_way end J Z zero (ask (at g s) k) t f h m = h.0
  leads_way end J Z (suc n) (ask (at g s) k) t f h m =
      leads_way end J Z n (k (step t f s).reply) (step t f s).target (step t f s).flash h.1 (omega arith)

  -- While e runs, the run of an exchange x that follows e is that of e.
  pub onto_before : (n : ℕ) (e x : Exchange) (t : Target) (f : List ℕ) → n < duration step e t f
      → (played step n (onto e x) t f).flash ≡ (played step n e t f).flash
  unfolding onto played duration
  onto_before n (ended o) x t f m = absurd (omega arith)
  onto_before zero (ask (at g s) k) x t f m = refl
  onto_before (suc n) (ask (at g s) k) x t f m =
      onto_before n (k (step t f s).reply) x (step t f s).target (step t f s).flash (omega arith)

  -- Once e has ended done, the run of an exchange x that follows e is that of x.
  pub onto_after : (m n : ℕ) (e x : Exchange) (t : Target) (f : List ℕ) → outcome_of (played_out step e t f).left ≡ outcome done → m ≡ duration step e t f + n
      → (played step m (onto e x) t f).flash ≡ (played step n x (played_out step e t f).target (played_out step e t f).flash).flash
  unfolding onto duration played outcome_of
  onto_after m n (ended o) x t f d q =
      let z : m ≡ n = omega arith in
      ap (λ (y : Exchange). (played step m y t f).flash) (onto_done o x d) ∙ ap (λ (i : ℕ). (played step i x t f).flash) z
  onto_after zero n (ask (at g s) k) x t f d q = absurd (omega arith)
  onto_after (suc m) n (ask (at g s) k) x t f d q = onto_after m n (k (step t f s).reply) x (step t f s).target (step t f s).flash d (omega arith)

  pub onto_duration : (e x : Exchange) (t : Target) (f : List ℕ) → outcome_of (played_out step e t f).left ≡ outcome done
      → duration step (onto e x) t f ≡ duration step e t f + duration step x (played_out step e t f).target (played_out step e t f).flash
  unfolding onto duration played outcome_of
  onto_duration (ended o) x t f d =
      let z : 0 + duration step x t f ≡ duration step x t f = omega arith in
      ap (λ (y : Exchange). duration step y t f) (onto_done o x d) ∙ sym z
  onto_duration (ask (at g s) k) x t f d =
      let h = onto_duration (k (step t f s).reply) x (step t f s).target (step t f s).flash d in
      omega (arith, h)

  -- Fed the replies that e and then x are given in n steps, e has ended done exactly if its own run takes no
  -- more.
  pub over_is : (n : ℕ) (e x : Exchange) (t : Target) (f : List ℕ) → outcome_of (played_out step e t f).left ≡ outcome done → duration step e t f ≤ n
      → fed e (played step n (onto e x) t f).replies ≡ ended (outcome done)
  unfolding onto duration played outcome_of fed
  over_is n (ended o) x t f d m = fed_ended o (played step n (onto (ended o) x) t f).replies ∙ ap ended d
  over_is zero (ask (at g s) k) x t f d m = absurd (omega arith)
  over_is (suc n) (ask (at g s) k) x t f d m =
      ap (λ (y : Exchange). fed y (played step n (onto (k (step t f s).reply) x) (step t f s).target (step t f s).flash).replies) (after_bit g s k (step t f s).reply)
      ∙ over_is n (k (step t f s).reply) x (step t f s).target (step t f s).flash d (omega arith)

  pub over_says : (n : ℕ) (e x : Exchange) (t : Target) (f : List ℕ) (o : Outcome)
      → fed e (played step n (onto e x) t f).replies ≡ ended o → duration step e t f ≤ n
  unfolding onto duration played fed
  over_says n (ended p) x t f o q = omega arith
  over_says zero (ask (at g s) k) x t f o q = absurd (let z : ◌≡◌ {A = ℕ} 0 1 = cc in omega arith)
  over_says (suc n) (ask (at g s) k) x t f o q =
      let m = over_says n (k (step t f s).reply) x (step t f s).target (step t f s).flash o
      (sym (ap (λ (y : Exchange). fed y (played step n (onto (k (step t f s).reply) x) (step t f s).target (step t f s).flash).replies) (after_bit g s k (step t f s).reply)) ∙ q) in
      omega (arith, m)

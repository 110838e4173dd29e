-- A run that ends with an outcome and keeps a property of the flash on the way; and the run of an exchange
-- that goes on with another.
use mathlib.Core.Path.{◌≡◌, ap, subst⁻¹}
use mathlib.Core.List.{List, ◌++◌}
use Prim.Native.Nat.{ℕ, zero, suc}
use Rattle.numbers.specs.Numbers.{done}
use Rattle.c2_wire.specs.Step.{Step}
use Rattle.c2_wire.specs.Exchange.{Exchange, ended, ask, at, Outcome, outcome, outcome_of}
use Rattle.c2_target.specs.declared.Target.{Target}
use Rattle.c2_target.specs.Strobes.{Turn}
use Rattle.c2_play.specs.Playing.{Played, then_played, played}
use Rattle.c2_play.proofs.Laws.Playing.{duration, played_out}
use Rattle.c2_play.proofs.Laws.Onto.{onto}

pub onto_done : (o : Outcome) (x : Exchange) → o ≡ outcome done → onto (ended o) x ≡ x
unfolding onto
onto_done o x d = ap (λ (p : Outcome). onto (ended p) x) d

-- a run with more replies before it
abbrev pub after_replies : List ℕ → Played → Played
after_replies rs x = record { left = x.left; target = x.target; flash = x.flash; replies = rs ++ x.replies }

module _ (step : Target → List ℕ → Step → Turn) where
  -- the run ends with this outcome, with the target and the flash in Z, and the flash is in J at every point
  -- before
  unfoldable pub Leads : Outcome → (List ℕ → Type 0) → (Target → List ℕ → Type 0) → Exchange → Target → List ℕ → Type 0
  Leads end J Z (ended o) t f = (o ≡ end) × Z t f
  Leads end J Z (ask (at g s) k) t f = J f × Leads end J Z (k (step t f s).reply) (step t f s).target (step t f s).flash

  pub leads_now : (end : Outcome) (J : List ℕ → Type 0) (Z : Target → List ℕ → Type 0) → ((t : Target) (f : List ℕ) → Z t f → J f)
      → (e : Exchange) (t : Target) (f : List ℕ) → Leads end J Z e t f → J f
  unfolding Leads
  leads_now end J Z z (ended o) t f h = z t f h.1
  leads_now end J Z z (ask (at g s) k) t f h = h.0

  -- a run that leads somewhere ends with the outcome (`leads_outcome`), there (`leads_end`)
  pub leads_outcome : (end : Outcome) (J : List ℕ → Type 0) (Z : Target → List ℕ → Type 0) (e : Exchange) (t : Target) (f : List ℕ) → Leads end J Z e t f
      → outcome_of (played_out step e t f).left ≡ end
  unfolding Leads played duration outcome_of
  leads_outcome end J Z (ended o) t f h = h.0
  leads_outcome end J Z (ask (at g s) k) t f h = leads_outcome end J Z (k (step t f s).reply) (step t f s).target (step t f s).flash h.1

  pub leads_end : (end : Outcome) (J : List ℕ → Type 0) (Z : Target → List ℕ → Type 0) (e : Exchange) (t : Target) (f : List ℕ) → Leads end J Z e t f
      → Z (played_out step e t f).target (played_out step e t f).flash
  unfolding Leads played duration
  leads_end end J Z (ended o) t f h = h.1
  leads_end end J Z (ask (at g s) k) t f h = leads_end end J Z (k (step t f s).reply) (step t f s).target (step t f s).flash h.1

  -- An exchange x that follows e goes on where e has ended.
  pub onto_played : (e x : Exchange) (t : Target) (f : List ℕ) → outcome_of (played_out step e t f).left ≡ outcome done
      → played_out step (onto e x) t f
      ≡ after_replies (played_out step e t f).replies (played_out step x (played_out step e t f).target (played_out step e t f).flash)
  unfolding onto played duration outcome_of
  onto_played (ended o) x t f d = ap (λ (y : Exchange). played_out step y t f) (onto_done o x d)
  onto_played (ask (at g s) k) x t f d = ap (then_played _) (onto_played (k (step t f s).reply) x (step t f s).target (step t f s).flash d)

  -- a run that leads somewhere keeps J wherever it is cut
  pub leads_along : (end : Outcome) (J : List ℕ → Type 0) (Z : Target → List ℕ → Type 0) → ((t : Target) (f : List ℕ) → Z t f → J f)
      → (n : ℕ) (e : Exchange) (t : Target) (f : List ℕ) → Leads end J Z e t f → J (played step n e t f).flash
  unfolding Leads played
  leads_along end J Z z zero e t f h = leads_now end J Z z e t f h
  leads_along end J Z z (suc n) (ended o) t f h = z t f h.1
  leads_along end J Z z (suc n) (ask (at g s) k) t f h =
      leads_along end J Z z n (k (step t f s).reply) (step t f s).target (step t f s).flash h.1

  -- where e leads to done and x leads on from there, so does x that follows e
  pub onto_leads : (end : Outcome) (J : List ℕ → Type 0) (Y Z : Target → List ℕ → Type 0) (e x : Exchange) (t : Target) (f : List ℕ)
      → Leads (outcome done) J Y e t f → ((t : Target) (f : List ℕ) → Y t f → Leads end J Z x t f) → Leads end J Z (onto e x) t f
  unfolding Leads onto
  onto_leads end J Y Z (ended o) x t f h g = subst⁻¹ (λ (y : Exchange). Leads end J Z y t f) (onto_done o x h.0) (g t f h.1)
  onto_leads end J Y Z (ask (at i s) k) x t f h g =
      (h.0, onto_leads end J Y Z (k (step t f s).reply) x (step t f s).target (step t f s).flash h.1 g)

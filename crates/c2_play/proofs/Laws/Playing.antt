-- Runs: played for enough steps an exchange has ended; what is left of it is what its replies leave; a mark
-- stays.
use mathlib.Core.Path.{◌≡◌, refl, ap, ◌∙◌}
use mathlib.Core.Bool.{false}
use mathlib.Core.List.{List}
use Prim.Native.Nat.{ℕ, zero, suc, ◌≤◌}
use native.Mathlib.Omega.{arith}
use lib.Dec.{eqb}
use lib.ListN.{length}
use Rattle.c2_wire.specs.Step.{Step, code}
use Rattle.c2_wire.specs.Exchange.{Exchange, ended, ask, at, Outcome, fed}
use Rattle.c2_wire.proofs.Laws.Exchange.{after_bit}
use Rattle.c2_target.specs.declared.Target.{Target}
use Rattle.c2_target.specs.Delays.{Setup}
use Rattle.c2_target.specs.Strobes.{Turn}
use Rattle.c2_target.specs.Target.{answer, flash_after}
use Rattle.c2_target.proofs.Laws.Mark.{answer_unmarked}
use Rattle.c2_play.specs.Playing.{Played, then_played, played, whole_step, play}

module _ (step : Target → List ℕ → Step → Turn) where
  -- how many steps it takes until an exchange has ended
  unfoldable pub duration : Exchange → Target → List ℕ → ℕ
  duration (ended o) t f = 0
  duration (ask (at g s) k) t f = suc (duration (k (step t f s).reply) (step t f s).target (step t f s).flash)

  -- an exchange played to its end
  abbrev pub played_out : Exchange → Target → List ℕ → Played
  played_out e t f = played step (duration e t f) e t f

  -- any number of steps that is no lower plays it to its end
  pub played_enough : (n : ℕ) (e : Exchange) (t : Target) (f : List ℕ) → duration e t f ≤ n → played step n e t f ≡ played_out e t f
  unfolding played duration
  played_enough zero (ended o) t f h = refl
  played_enough zero (ask (at g s) k) t f h = absurd (omega arith)
  played_enough (suc n) (ended o) t f h = refl
  played_enough (suc n) (ask (at g s) k) t f h =
      ap (then_played _) (played_enough n (k (step t f s).reply) (step t f s).target (step t f s).flash (omega arith))

  -- what is left is what the replies leave of the exchange
  pub played_left : (n : ℕ) (e : Exchange) (t : Target) (f : List ℕ) → fed e (played step n e t f).replies ≡ (played step n e t f).left
  unfolding played fed
  played_left zero e t f = refl
  played_left (suc n) (ended o) t f = refl
  played_left (suc n) (ask (at g s) k) t f =
      ap (λ (y : Exchange). fed y (played step n (k (step t f s).reply) (step t f s).target (step t f s).flash).replies) (after_bit g s k (step t f s).reply)
      ∙ played_left n (k (step t f s).reply) (step t f s).target (step t f s).flash

  -- an exchange that has ended was played to its end (`ended_duration`), and one played to its end has ended
  pub ended_duration : (n : ℕ) (e : Exchange) (t : Target) (f : List ℕ) (o : Outcome) → (played step n e t f).left ≡ ended o → duration e t f ≤ n
  unfolding played duration
  ended_duration n (ended p) t f o q = omega arith
  ended_duration zero (ask (at g s) k) t f o q = absurd (let z : ◌≡◌ {A = ℕ} 0 1 = cc in omega arith)
  ended_duration (suc n) (ask (at g s) k) t f o q =
      let h = ended_duration n (k (step t f s).reply) (step t f s).target (step t f s).flash o q in
      omega (arith, h)

  pub out_ended : (e : Exchange) (t : Target) (f : List ℕ) → (o : Outcome) × ((played_out e t f).left ≡ ended o)
  unfolding played duration
  out_ended (ended o) t f = (o, refl)
  out_ended (ask (at g s) k) t f = out_ended (k (step t f s).reply) (step t f s).target (step t f s).flash

  -- played to its end it is given a reply a step
  pub out_count : (e : Exchange) (t : Target) (f : List ℕ) → length (played_out e t f).replies ≡ duration e t f
  unfolding played duration
  out_count (ended o) t f = refl
  out_count (ask (at g s) k) t f = ap suc (out_count (k (step t f s).reply) (step t f s).target (step t f s).flash)

-- a run that ends without a mark began without one (`play_unmarked`), and had none on the way
pub play_unmarked : (u : Setup) (n : ℕ) (e : Exchange) (t : Target) (f : List ℕ) → (play u n e t f).target.collision ≡ false → t.collision ≡ false
unfolding played whole_step
play_unmarked u zero e t f h = h
play_unmarked u (suc n) (ended o) t f h = h
play_unmarked u (suc n) (ask (at g s) k) t f h =
    let x = answer u t f (code s) in
    answer_unmarked u t f (code s) (play_unmarked u n (k (eqb x.reply 1)) x.target (flash_after u t f (code s)) h)

pub unmarked_along : (u : Setup) (n : ℕ) (e : Exchange) (t : Target) (f : List ℕ) → (played_out (whole_step u) e t f).target.collision ≡ false
    → (play u n e t f).target.collision ≡ false
unfolding played duration whole_step
unmarked_along u zero e t f h = play_unmarked u (duration (whole_step u) e t f) e t f h
unmarked_along u (suc n) (ended o) t f h = h
unmarked_along u (suc n) (ask (at g s) k) t f h =
    unmarked_along u n (k (whole_step u t f s).reply) (whole_step u t f s).target (whole_step u t f s).flash h

-- The target in C and the target of the definitions: replies, states and flash are the same for one that exists.
use mathlib.Core.Path.{◌≡◌, refl, sym, ap, ◌∙◌}
use mathlib.Core.Bool.{Bool, true, false}
use mathlib.Core.List.{List, [], ◌∷◌}
use Prim.Native.Nat.{ℕ, ◌<◌}
use native.Mathlib.Omega.{arith}
use borrow.Author.Tests.{eqb-true, eqb-false}
use lib.Dec.{eqb}
use Rattle.laws.proofs.Tests.{passes, by_test}
use Rattle.numbers.specs.Numbers.{no_point, bad_pairs}
use Rattle.c2_wire.specs.Bits.{bit}
use Rattle.c2_wire.specs.Step.{off, code}
use Rattle.settings.specs.declared.Pairs.{Pairs}
use Rattle.settings.specs.declared.Settings.{Settings}
use Rattle.settings.specs.Accepted.{settings_refusal}
use Rattle.settings.specs.Registers.{are_pairs}
use Rattle.settings.proofs.Laws.Accepted.{facts}
use Rattle.c2_order.specs.Conversation.{limits_of}
use Rattle.c2_target.specs.declared.Target.{Target}
use Rattle.c2_target.specs.Delays.{setup}
use Rattle.c2_target.specs.Known.{known}
use Rattle.c2_target.specs.Target.{is_step, setup_refusal, step_refusal, answer}
use Rattle.c2_target_state.specs.declared.State.{State}
use Rattle.c2_target_state.specs.declared.ModelReplied.{ModelReplied}
use Rattle.std.specs.Prelude.{Option, Some, None}
use Rattle.c2_target_state.specs.State.{state_of, target_of}
use Rattle.c2_target_state.specs.Model.{no_target, held_answer, seen_answer}
use Rattle.c2_target_state.proofs.Laws.Claims.{has_state, steps_alike}
use Rattle.c2_play.proofs.Laws.Programmed.{Suits}
use Rattle.c2_target.proofs.Laws.Known.{Lent}
use Rattle.c2_target.proofs.Laws.Steps.{setup_accepted, Lasts, answer_lasts}
use Rattle.c2_target.specs.Steps.{own_replies, left_by}
use Rattle.c2_whole.specs.Whole.{Bench, reply, bench_step, replies, bench_after, Ready}

-- settings and wanted pairs that are not refused are accepted
setup_says : (t : Settings) (w : Pairs) (ds : List ℕ) → setup_refusal (setup t w ds) ≡ 0 → (settings_refusal t ≡ 0) × (are_pairs t.fpdat w ≡ true)
unfolding setup_refusal
setup_says t w ds e =
    by_test (eqb (settings_refusal t) 0)
    (λ p. (eqb-true (settings_refusal t) 0 p, (passes (are_pairs t.fpdat w) 0 bad_pairs (omega arith) (rw p at e)).0))
    (λ p. absurd (eqb-false (settings_refusal t) 0 p (rw p at e)))

-- a step that is not refused is one of a target that exists, whose settings and wanted pairs are accepted
accepts_known : (t : Settings) (w : Pairs) (y : Target) (f ds : List ℕ) → step_refusal (setup t w ds) y f (code off) ≡ 0
    → (known (setup t w ds) y f ≡ true) × (settings_refusal t ≡ 0) × (are_pairs t.fpdat w ≡ true)
unfolding step_refusal
accepts_known t w y f ds e =
    by_test (eqb (setup_refusal (setup t w ds)) 0)
    (λ p.
    let q = setup_says t w ds (eqb-true (setup_refusal (setup t w ds)) 0 p) in
    ((passes (known (setup t w ds) y f) _ no_point (omega arith) (rw p at e)).0, q.0, q.1))
    (λ p. absurd (eqb-false (setup_refusal (setup t w ds)) 0 p (rw p at e)))

no_target_refuses : (t : Settings) (w : Pairs) → no_target t w ≡ 0 → ⊥
unfolding no_target
no_target_refuses t w e =
    by_test {A = ⊥} (eqb (setup_refusal (setup t w [])) 0) (λ p. let z : no_point ≡ 0 = rw p at e in omega arith)
    (λ p. eqb-false (setup_refusal (setup t w [])) 0 p (rw p at e))

-- The target of a bench that a session may meet.
pub record Stands (t : Settings) (b : Bench) : Type 0 where
  pub target : Target
  pub state : b.target ≡ state_of target
  pub suits : Suits (limits_of t) (setup t b.wanted b.delays) target b.flash

bit_clear : (b : Bool) → bit b ≡ 0 → b ≡ false
unfolding bit
bit_clear true e = absurd (omega arith)
bit_clear false e = refl

pub stands : (t : Settings) (b : Bench) → Ready t b → Stands t b
unfolding seen_answer held_answer answer state_of
stands t b r = go (target_of b.target) refl r.steps
  where
    go : (x : Option Target) → target_of b.target ≡ x → (seen_answer t b.wanted x b.target b.flash b.delays (code off)).number ≡ 0 → Stands t b
    go (Some y) h e =
        let same : b.target ≡ state_of y = sym (has_state y b.target h) in
        let ok : step_refusal (setup t b.wanted b.delays) y b.flash (code off) ≡ 0 =
        by_test (eqb (step_refusal (setup t b.wanted b.delays) y b.flash (code off)) 0) (λ p. eqb-true _ 0 p) (λ p. absurd (eqb-false _ 0 p (rw (p, p) at e))) in
        let exists = accepts_known t b.wanted y b.flash b.delays ok in
        record {
          target = y;
          state = same;
          suits =
              record {
                wanted = exists.2;
                state = exists.0;
                unmarked = bit_clear y.collision (sym (ap (λ (z : State). z.collision) same) ∙ r.unmarked);
                flash = r.flash;
                delays = r.delays;
                some = (facts t exists.1).wait;
                wait = omega arith;
                reads = omega arith;
              };
        }
    go None h e = absurd (no_target_refuses t b.wanted e)

-- the bench of a target
abbrev pub bench : (wanted : Pairs) → (delays : List ℕ) → Target → (flash : List ℕ) → Bench
bench w ds y f = record { wanted = w; target = state_of y; flash = f; delays = ds }

-- a target that a session may meet is ready, by its state
pub ready : (t : Settings) (w : Pairs) (ds f : List ℕ) (y : Target) → settings_refusal t ≡ 0 → t.wait < 256
    → Suits (limits_of t) (setup t w ds) y f → Ready t (bench w ds y f)
unfolding answer step_refusal is_step code bit state_of
ready t w ds f y ok byte m =
    let a = (steps_alike t w y f ds (code off) ok byte m.state).0 in
    let z : bit y.collision ≡ 0 = rw m.unmarked in
    record {
      steps = ap (λ (x : ModelReplied). x.number) a ∙ rw (setup_accepted (setup t w ds) ok m.wanted, m.state);
      unmarked = z;
      flash = m.flash;
      delays = m.delays;
    }

module _ (t : Settings) (w : Pairs) (ds : List ℕ) (ok : settings_refusal t ≡ 0) (byte : t.wait < 256) (lent : Lent (setup t w ds)) where
  -- steps in a row, for a target that exists, give and leave the same in C and by the definitions
  pub replies_alike : (xs : List ℕ) (y : Target) (f : List ℕ) → Lasts (setup t w ds) y f → replies t (bench w ds y f) xs ≡ own_replies (setup t w ds) y f xs
  unfolding replies own_replies
  replies_alike [] y f k = refl
  replies_alike (x ∷ xs) y f k =
      let a = steps_alike t w y f ds x ok byte k.exists in
      ap (λ (n : ℕ). n ∷ replies t (bench_step t (bench w ds y f) x) xs) (ap (λ (z : ModelReplied). z.reply) a.0)
      ∙ rw (a.0, a.1) (ap (λ (rs : List ℕ). (answer (setup t w ds) y f x).reply ∷ rs) (replies_alike xs _ _ (answer_lasts (setup t w ds) lent y f x k)))

  pub given_alike : (xs : List ℕ) (y : Target) (f : List ℕ) → Lasts (setup t w ds) y f
      → bench_after t (bench w ds y f) xs ≡ bench w ds (left_by (setup t w ds) y f xs).target (left_by (setup t w ds) y f xs).flash
  unfolding bench_after left_by
  given_alike [] y f k = refl
  given_alike (x ∷ xs) y f k =
      let a = steps_alike t w y f ds x ok byte k.exists in
      rw (a.0, a.1) (given_alike xs _ _ (answer_lasts (setup t w ds) lent y f x k))

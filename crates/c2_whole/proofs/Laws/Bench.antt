-- The target along the steps that it is sent, the last one too: a session may meet it after any of them, and
-- once the session has ended it is as the run to its end leaves it.
use mathlib.Core.Path.{◌≡◌, ap, ◌∙◌}
use mathlib.Core.Bool.{false}
use mathlib.Core.List.{List}
use Prim.Native.Nat.{ℕ, ◌≤◌}
use lib.ListN.{take}
use Rattle.c2_wire.specs.Exchange.{Exchange, ended, Outcome, taken, fed}
use Rattle.c2_order.specs.Conversation.{Limits}
use Rattle.c2_target.specs.declared.Target.{Target}
use Rattle.c2_target.specs.Delays.{Setup}
use Rattle.c2_target.specs.Steps.{State, left_by}
use Rattle.c2_target.proofs.Laws.Known.{Lent}
use Rattle.c2_play.specs.Playing.{whole_step}
use Rattle.c2_play.proofs.Laws.Playing.{played_out, unmarked_along}
use Rattle.c2_play.proofs.Laws.Programmed.{Suits}
use Rattle.c2_play.proofs.Laws.OwnReplies.{sent, OwnReplies, there, own_along, own_ends}
use Rattle.c2_target.proofs.Laws.Steps.{left_lasts}

module _ (l : Limits) (u : Setup) (e : Exchange) (y : Target) (f rs : List ℕ) (own : OwnReplies u y f e rs) where
  pub suits_along : Lent u → Suits l u y f → (played_out (whole_step u) e y f).target.collision ≡ false → (n : ℕ)
      → Suits l u (left_by u y f (take n (sent e rs))).target (left_by u y f (take n (sent e rs))).flash
  suits_along lent m clean n =
      let x = left_lasts u lent (take n (sent e rs)) y f (record { bytes = m.flash; exists = m.state }) in
      let k = own_along u n e y f rs own in
      record {
        wanted = m.wanted;
        state = x.exists;
        unmarked = ap (λ (s : State). s.target.collision) k.1 ∙ unmarked_along u k.0 e y f clean;
        flash = x.bytes;
        delays = m.delays;
        some = m.some;
        wait = m.wait;
        reads = m.reads;
      }

  pub ended_along : (q : Outcome) → fed e rs ≡ ended q → (n : ℕ) → taken e rs ≤ n
      → left_by u y f (take n (sent e rs)) ≡ there (played_out (whole_step u) e y f)
  ended_along q h n l =
      let k = own_along u n e y f rs own in
      k.1 ∙ ap there (own_ends u k.0 e y f rs q own h (k.2 l))

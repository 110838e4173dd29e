-- The loop's session and steps (specs/Code/Loop.antt) are those of the exchange.
use mathlib.Core.Path.{◌≡◌, refl, sym, ap, ◌∙◌}
use mathlib.Core.Bool.{Bool, true, false, cond}
use mathlib.Core.List.{List, [], ◌∷◌}
use Prim.Native.Nat.{ℕ}
use Rattle.c2_wire.specs.Exchange.{steps}
use Rattle.c2_wire.proofs.Laws.Exchange.{steps_taken}
use Rattle.c2_session.specs.declared.Session.{Session}
use Rattle.c2_session.specs.Code.Step.{session_step}
use Rattle.c2_session.specs.Code.Advance.{advanced}
use Rattle.c2_position.proofs.Laws.Step.{asks_step}
use Rattle.c2_position.proofs.Laws.Exchange.{exchange_advances}
use Rattle.c2_opening.specs.Opened.{exchange_at, session_fed}
use Rattle.c2_opening.proofs.Laws.Follows.{Lent, advanced_ended, after_ended, lent_advances, still_asks, ended_over}
use Rattle.c2_outcome.specs.Outcome.{is_running}
use Rattle.c2.specs.Code.Loop.{ran, wrote}

pub ran_is : (image : List ℕ) (s : Session) (rs : List ℕ) → ran image s rs ≡ session_fed s image rs
unfolding session_fed
ran_is image s [] = refl
ran_is image s (r ∷ rs) = go (is_running s.point) refl (ran_is image (advanced s r image) rs)
  where
    go : (t : Bool) → is_running s.point ≡ t → ran image (advanced s r image) rs ≡ session_fed (advanced s r image) image rs
        → cond t (ran image (advanced s r image) rs) s ≡ session_fed (advanced s r image) image rs
    go true p h = h
    go false p h = sym (ap (λ (x : Session). session_fed x image rs) (advanced_ended s r image p) ∙ after_ended s image rs p)

-- the steps that the loop writes are those of the exchange
pub wrote_is : (s : Session) (image rs : List ℕ) → Lent s image → wrote image s rs ≡ steps (exchange_at s image) rs
unfolding steps advanced
wrote_is s image [] h = refl
wrote_is s image (r ∷ rs) h = go (is_running s.point) refl (wrote_is (advanced s r image) image rs (lent_advances s image r h))
  where
    go : (t : Bool) → is_running s.point ≡ t → wrote image (advanced s r image) rs ≡ steps (exchange_at (advanced s r image) image) rs
        → cond t (session_step (advanced s r image) image ∷ wrote image (advanced s r image) rs) [] ≡ steps (exchange_at s image) (r ∷ rs)
    go true p ih =
        let n = still_asks s image h p in
        let a = exchange_advances s image h.id h.bytes h.range h.whole r in
        let l = lent_advances s image r h in
        let x = asks_step (advanced s r image) image l.range l.whole in
        rw (steps_taken (exchange_at s image) r rs n.3, x, ih, a)
    go false p ih = rw (ended_over s image p)

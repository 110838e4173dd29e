-- An exchange that goes on with another where it would end done; acts in a row are that.
use mathlib.Core.Path.{◌≡◌, refl, sym, ap, ◌∙◌, fun_ext}
use mathlib.Core.Bool.{Bool, true, false, cond}
use mathlib.Core.List.{List, [], ◌∷◌, ◌++◌}
use Prim.Native.Nat.{ℕ, zero, suc, ◌+◌, ◌*◌, ◌^◌}
use lib.Dec.{eqb}
use Rattle.numbers.specs.Numbers.{done}
use Rattle.c2_wire.specs.Bits.{bit}
use Rattle.c2_wire.specs.Step.{released}
use Rattle.c2_wire.specs.Field.{WAIT}
use Rattle.c2_wire.specs.Exchange.{Exchange, ended, strobe, ask, at, Outcome}
use Rattle.c2_wire.specs.Frames.{Strobe, plain, sampled, waits, waiting, strobes, frame, framed}
use Rattle.c2_wire.specs.declared.Frame.TheVariants.{AddressRead, DataRead}
use Rattle.c2_order.specs.Acts.{Act, send, poll, expect}
use Rattle.c2_order.specs.Conversation.{Limits, polling, conversation}

unfoldable pub onto : Exchange → Exchange → Exchange
onto (ended o) x = cond (eqb o.number done) x (ended o)
onto (ask (at g s) k) x = strobe g s (λ b. onto (k b) x)

onto_cond : (b : Bool) (y z x : Exchange) → onto (cond b y z) x ≡ cond b (onto y x) (onto z x)
onto_cond true y z x = refl
onto_cond false y z x = refl

onto_waiting : (n : ℕ) (k x : Exchange) → onto (waiting n k) x ≡ waiting n (onto k x)
unfolding onto waiting
onto_waiting zero k x = refl
onto_waiting (suc n) k x =
    ap (strobe WAIT released) (fun_ext (λ b. onto_cond b k (waiting n k) x ∙ ap (λ (y : Exchange). cond b (onto k x) y) (onto_waiting n k x)))

onto_strobes : (l : ℕ) (ss : List Strobe) (n v : ℕ) (k : ℕ → Exchange) (x : Exchange) → onto (strobes l ss n v k) x ≡ strobes l ss n v (λ y. onto (k y) x)
unfolding onto strobes
onto_strobes l [] n v k x = refl
onto_strobes l (plain f s ∷ ss) n v k x = ap (strobe f s) (fun_ext (λ b. onto_strobes l ss n v k x))
onto_strobes l (sampled f ∷ ss) n v k x = ap (strobe f released) (fun_ext (λ b. onto_strobes l ss (suc n) (v + bit b * 2 ^ n) k x))
onto_strobes l (waits ∷ ss) n v k x = onto_waiting l (strobes l ss n v k) x ∙ ap (waiting l) (onto_strobes l ss n v k x)

onto_polling : (l n : ℕ) (ok : ℕ → Bool) (k x : Exchange) → onto (polling l n ok k) x ≡ polling l n ok (onto k x)
unfolding onto polling
onto_polling l zero ok k x = refl
onto_polling l (suc n) ok k x =
    onto_strobes l (frame AddressRead 0) 0 0 _ x
    ∙ ap (framed l (frame AddressRead 0))
    (fun_ext (λ s. onto_cond (ok s) k (polling l n ok k) x ∙ ap (λ (y : Exchange). cond (ok s) (onto k x) y) (onto_polling l n ok k x)))

-- no act of these ends done
unfoldable pub Refuses : List Act → Type 0
Refuses [] = Unit {0}
Refuses (send ss ∷ acts) = Refuses acts
Refuses (poll ok ∷ acts) = Refuses acts
Refuses (expect y o ∷ acts) = (eqb o.number done ≡ false) × Refuses acts

pub onto_acts : (l : Limits) (acts rest : List Act) → Refuses acts → conversation l (acts ++ rest) ≡ onto (conversation l acts) (conversation l rest)
unfolding onto conversation Refuses
onto_acts l [] rest h = refl
onto_acts l (send ss ∷ acts) rest h =
    ap (λ (y : Exchange). framed l.wait ss (λ _. y)) (onto_acts l acts rest h)
    ∙ sym (onto_strobes l.wait ss 0 0 (λ _. conversation l acts) (conversation l rest))
onto_acts l (poll ok ∷ acts) rest h =
    ap (polling l.wait l.reads ok) (onto_acts l acts rest h) ∙ sym (onto_polling l.wait l.reads ok (conversation l acts) (conversation l rest))
onto_acts l (expect y o ∷ acts) rest h =
    ap (framed l.wait (frame DataRead 0))
    (fun_ext (λ z. ap (λ (e : Exchange). cond (eqb z y) e (ended o)) (onto_acts l acts rest h.1)
    ∙ ap (λ (e : Exchange). cond (eqb z y) (onto (conversation l acts) (conversation l rest)) e) (leaf o h.0)
    ∙ sym (onto_cond (eqb z y) (conversation l acts) (ended o) (conversation l rest))))
    ∙ sym (onto_strobes l.wait (frame DataRead 0) 0 0 _ (conversation l rest))
  where
    leaf : (o : Outcome) → eqb o.number done ≡ false → ended o ≡ onto (ended o) (conversation l rest)
    leaf o e = rw e

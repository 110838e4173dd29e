-- A reply takes what is left to say at a point to what is left at the next: the point moves as the exchange
-- does.
use mathlib.Core.Path.{◌≡◌, refl, sym, ap, ◌∙◌}
use mathlib.Core.Bool.{Bool, true, false, cond}
use mathlib.Core.List.{List, [], ◌∷◌}
use Prim.Native.Nat.{ℕ, zero, suc, ◌+◌, ◌-◌, ◌<◌}
use native.Mathlib.Omega.{arith}
use native.Mathlib.Decide.{dec_lt}
use native.Mathlib.Nat.{not-suc-le-zero}
use borrow.Author.Tests.{lt-ltb, le-ltb}
use lib.Dec.{ltb, eqb}
use Rattle.c2_wire.specs.Bits.{bit, bits}
use Rattle.c2_wire.specs.Exchange.{Exchange, after, outcome}
use Rattle.c2_wire.specs.Frames.{strobes, sends, ins_code, frame, framed}
use Rattle.c2_wire.specs.Place.{place, followed, rest_of, remaining, moved_to, samples}
use Rattle.c2_wire.specs.declared.Frame.TheVariants.{AddressRead, DataRead}
use Rattle.c2_wire.specs.declared.Place.{Place}
use Rattle.c2_wire.specs.declared.Moved.{Moved}
use Rattle.c2_wire.specs.declared.Moved.TheVariants.{Within, Stopped, WaitLimit}
use Rattle.c2_wire.proofs.Laws.Place.{first_remaining, followed_after, ExistsAfter, followed_exists, followed_count, waits_in, remaining_asks}
use Rattle.c2_order.specs.Acts.{Act, send, poll, expect}
use Rattle.c2_order.specs.Conversation.{Limits, Positive, polling, conversation}
use Rattle.c2_order.specs.Point.{Point, running, ended, strobes_of, reads_of, begin, again, judged, settled, next, follow_up, left_to_say}
use Rattle.numbers.specs.Numbers.{poll_limit_reached}
use Rattle.c2_order.proofs.Laws.Valid.{Sound, Every, whole_of, reads_positive, Valid, begin_valid, Polled, polled, read_exists}

-- a poll that has a read left asks for an Address Read
polling_read : (w n : ℕ) (ok : ℕ → Bool) (k : Exchange) → 0 < n
    → polling w n ok k ≡ framed w (frame AddressRead 0) (λ s. cond (ok s) k (polling w (n - 1) ok k))
unfolding polling
polling_read w zero ok k h = absurd (not-suc-le-zero h)
polling_read w (suc n) ok k h =
    let e : suc n - 1 ≡ n = omega arith in
    rw e

-- at the first strobe of an act all of it is left
pub begin_says : (l : Limits) → Positive l → (acts : List Act) → left_to_say l (begin acts) ≡ conversation l acts
unfolding begin left_to_say conversation follow_up strobes_of
begin_says l h [] = refl
begin_says l h (send ss ∷ acts) = first_remaining l.wait ss (λ _. conversation l acts)
begin_says l h (poll ok ∷ acts) =
    first_remaining l.wait (frame AddressRead 0) _ ∙ sym (polling_read l.wait l.reads ok (conversation l acts) h.reads)
begin_says l h (expect x o ∷ acts) = first_remaining l.wait (frame DataRead 0) _

-- what follows an act does not go by its reads, but for a poll, which has no WAIT
follow_up_count : (l : Limits) (a : Act) (acts : List Act) (p : Place) (b : Bool) (q : Place)
    → followed l.wait (strobes_of a) p b ≡ Within q → follow_up l a acts q.count ≡ follow_up l a acts p.count
unfolding follow_up strobes_of waits_in frame sends ins_code bits
follow_up_count l (send ss) acts p b q e = refl
follow_up_count l (poll ok) acts p b q e =
    let h : q.count ≡ p.count = rw e at (followed_count l.wait (frame AddressRead 0) p b refl) in
    ap (λ (n : ℕ). follow_up l (poll ok) acts n) h
follow_up_count l (expect x o) acts p b q e = refl

cond_says : (l : Limits) (t : Bool) (x y : Point) (e d : Exchange) → left_to_say l x ≡ e → left_to_say l y ≡ d → left_to_say l (cond t x y) ≡ cond t e d
cond_says l true x y e d p q = p
cond_says l false x y e d p q = q

again_says : (l : Limits) → Positive l → (ok : ℕ → Bool) (acts : List Act) (n : ℕ) → n < l.reads
    → left_to_say l (again l (poll ok) acts n) ≡ polling l.wait (l.reads - suc n) ok (conversation l acts)
unfolding again left_to_say follow_up strobes_of polling remaining rest_of strobes samples frame sends ins_code bits
again_says l h ok acts n g = go (dec_lt (n + 1) l.reads)
  where
    go : Dec (n + 1 < l.reads)
        → left_to_say l (cond (ltb (n + 1) l.reads) (running (poll ok) acts (place 0 (n + 1) 0)) (ended (outcome poll_limit_reached)))
        ≡ polling l.wait (l.reads - suc n) ok (conversation l acts)
    go (yes y) =
        let e : l.reads - suc (n + 1) ≡ l.reads - suc n - 1 = omega arith in
        rw (lt-ltb (n + 1) l.reads y, e) (sym (polling_read l.wait (l.reads - suc n) ok (conversation l acts) (omega arith)))
    go (no y) =
        let z : l.reads - suc n ≡ 0 = omega arith in
        rw (le-ltb (n + 1) l.reads (omega arith), z)

-- what is left to say after a frame of the act has ended
judged_says : (l : Limits) → Positive l → (a : Act) (acts : List Act) (n x : ℕ) → Polled l a n
    → left_to_say l (judged l a acts n x) ≡ follow_up l a acts n x
unfolding judged follow_up left_to_say
judged_says l h (send ss) acts n x g = begin_says l h acts
judged_says l h (poll ok) acts n x g = cond_says l (ok x) _ _ _ _ (begin_says l h acts) (again_says l h ok acts n g)
judged_says l h (expect y o) acts n x g = cond_says l (eqb x y) _ _ _ _ (begin_says l h acts) refl

module _ (l : Limits) (h : Positive l) (a : Act) (acts : List Act) (p : Place) (v : Valid l (running a acts p)) where
  settled_says : (b : Bool) (m : Moved) → followed l.wait (strobes_of a) p b ≡ m
      → left_to_say l (settled l a acts p.count m) ≡ moved_to l.wait (strobes_of a) m (follow_up l a acts p.count)
  unfolding settled moved_to left_to_say
  settled_says b (Within q) e = ap (λ (k : ℕ → Exchange). remaining l.wait (strobes_of a) q k) (follow_up_count l a acts p b q e)
  settled_says b (Stopped x) e = judged_says l h a acts p.count x (polled l a p v.2)
  settled_says b WaitLimit e = refl

  -- what is left to say after a reply of 0 or 1
  moves : (b : Bool) → left_to_say l (settled l a acts p.count (followed l.wait (strobes_of a) p b)) ≡ after (left_to_say l (running a acts p)) (bit b)
  unfolding left_to_say
  moves b =
      settled_says b (followed l.wait (strobes_of a) p b) refl
      ∙ sym (followed_after l.wait (reads_of l a) (strobes_of a) (whole_of l a v.0) (follow_up l a acts p.count) p b v.2)

-- what is left to say after any reply: it moves as the exchange does
pub next_says : (l : Limits) → Positive l → (x : Point) → Valid l x → (r : ℕ) → left_to_say l (next l x r) ≡ after (left_to_say l x) r
unfolding next left_to_say after bit
next_says l h (ended o) v r = refl
next_says l h (running a acts p) v zero = moves l h a acts p v false
next_says l h (running a acts p) v (suc zero) = moves l h a acts p v true
next_says l h (running a acts p) v (suc (suc r)) =
    let node = remaining_asks l.wait (reads_of l a) (strobes_of a) p (follow_up l a acts p.count) v.2 in
    rw node.2

-- the point after a reply exists in the order
judged_valid : (l : Limits) → Positive l → (a : Act) (acts : List Act) (n x : ℕ) → Sound a → Every Sound acts → Polled l a n → Valid l (judged l a acts n x)
unfolding judged again
judged_valid l h (send ss) acts n x f g c = begin_valid l h acts g
judged_valid l h (poll ok) acts n x f g c = go (ok x) (dec_lt (n + 1) l.reads)
  where
    go : (t : Bool) → Dec (n + 1 < l.reads)
        → Valid l (cond t (begin acts) (cond (ltb (n + 1) l.reads) (running (poll ok) acts (place 0 (n + 1) 0)) (ended (outcome poll_limit_reached))))
    go true d = begin_valid l h acts g
    go false (yes y) = rw (lt-ltb (n + 1) l.reads y) (f, g, read_exists l ok (n + 1) y)
    go false (no y) = rw (le-ltb (n + 1) l.reads (omega arith)) tt
judged_valid l h (expect y o) acts n x f g c = go (eqb x y)
  where
    go : (t : Bool) → Valid l (cond t (begin acts) (ended o))
    go true = begin_valid l h acts g
    go false = tt

settled_valid : (l : Limits) → Positive l → (a : Act) (acts : List Act) (p : Place) → Valid l (running a acts p) → (m : Moved)
    → ExistsAfter l.wait (reads_of l a) (strobes_of a) m → Valid l (settled l a acts p.count m)
unfolding settled
settled_valid l h a acts p v (Within q) e = (v.0, v.1, e)
settled_valid l h a acts p v (Stopped x) e = judged_valid l h a acts p.count x v.0 v.1 (polled l a p v.2)
settled_valid l h a acts p v WaitLimit e = tt

pub next_valid : (l : Limits) → Positive l → (x : Point) → Valid l x → (r : ℕ) → Valid l (next l x r)
unfolding next
next_valid l h (ended o) v r = tt
next_valid l h (running a acts p) v zero =
    settled_valid l h a acts p v _ (followed_exists l.wait (reads_of l a) (strobes_of a) (whole_of l a v.0) h.wait (reads_positive l a h) p false v.2)
next_valid l h (running a acts p) v (suc zero) =
    settled_valid l h a acts p v _ (followed_exists l.wait (reads_of l a) (strobes_of a) (whole_of l a v.0) h.wait (reads_positive l a h) p true v.2)
next_valid l h (running a acts p) v (suc (suc r)) = tt

-- The counter is sound, so what is shared holds of it.
use mathlib.Core.Path.{◌≡◌, refl, sym, ap, ◌∙◌}
use mathlib.Core.List.{List, [], ◌∷◌, ◌++◌, map}
use Prim.Native.Nat.{ℕ, zero, suc, ◌+◌, ◌-◌, ◌≤◌}
use native.Mathlib.Omega.{arith}
use borrow.Author.Tests.{leb-true}
use lib.ListN.{length, take, drop, length-append}
use lib.Seq.{take-append_seam, drop-append_seam, length-take-le}
use Rattle.laws.proofs.Tests.{passes}
use Rattle.exchange.specs.Exchange.{Exchange, after, brought}
use Rattle.exchange.specs.Machine.{Sound, RepliesFollow, fed}
use Rattle.exchange.specs.Countdown.{counter, read, said_byte, countdown, unpacked, steps, face}
use Rattle.exchange.specs.Calls.{ListsAreReplies}
use Rattle.exchange.specs.Served.{family, AddsUp, by_replies}
use Rattle.exchange.proofs.Laws.Exchange.{brought_append}
use Rattle.exchange.proofs.Laws.Served.{served}
use Rattle.exchange.specs.Exchange as Shared
use Rattle.exchange.proofs.Laws.Machine.{replies_follow}

map_append : {A B : Type 0} (f : A → B) (xs ys : List A) → map f (xs ++ ys) ≡ map f xs ++ map f ys
map_append f [] ys = refl
map_append f (x ∷ xs) ys = ap (λ (l : _). f x ∷ l) (map_append f xs ys)

moves : (n r : ℕ) → countdown (n - 1) ≡ after read (countdown n) r
unfolding countdown after
moves zero r = refl
moves (suc n) r = rw (let z : suc n - 1 ≡ n = omega arith in z)

pub sound : Sound counter
unfolding unpacked
sound = record { stays = λ l s r f. tt; back = λ l s f. refl; moves = λ l s r f. moves s r }

pub counter_follows : RepliesFollow counter
counter_follows = replies_follow counter sound

-- what a buffer holds from the place on, as far as it was written
written : (xs : List ℕ) (place : ℕ) (buffer : List ℕ) → place ≤ length buffer
    → take (length xs) (drop place (take place buffer ++ (xs ++ drop (length xs) (drop place buffer)))) ≡ xs
written xs place buffer h =
    let n : length (take place buffer) ≡ place = length-take-le place buffer h in
    ap (λ (y : List ℕ). take (length xs) y) (rw n at (drop-append_seam (take place buffer) (xs ++ drop (length xs) (drop place buffer))))
    ∙ take-append_seam xs (drop (length xs) (drop place buffer))

-- the machine's own feeding is the exchange's
same_fed : (e : Exchange ℕ ℕ ℕ) (rs : List ℕ) → fed counter e rs ≡ Shared.fed read e rs
unfolding fed Shared.fed
same_fed e [] = refl
same_fed e (r ∷ rs) = same_fed (after read e r) rs

steps_append : (e : Exchange ℕ ℕ ℕ) (qs rs : List ℕ) → steps e (qs ++ rs) ≡ steps e qs ++ steps (fed counter e qs) rs
unfolding steps
steps_append e qs rs =
    rw (same_fed e qs) (ap (λ (l : _). map said_byte l) (brought_append read e qs rs) ∙ map_append said_byte (brought read e qs) (brought read (Shared.fed read e qs) rs))

adds_up : AddsUp counter face
adds_up e s l qs rs m ok =
    let room = leb-true (m.place + length rs) (length m.buffer) (passes _ 0 8 (omega arith) ok).0 in
    let w = written (steps (fed counter e qs) rs) m.place m.buffer (omega arith) in
    let j = ap (λ (x : List ℕ). steps e qs ++ x) w ∙ sym (steps_append e qs rs) in
    let n = sym (ap length (steps_append e qs rs) ∙ length-append (steps e qs) (steps (fed counter e qs) rs)) in
    λ i. record { steps = j i; taken = n i }

-- the counter's lists of calls are the replies in a row
pub counter_lists : (n : ℕ) → ListsAreReplies (family counter face) tt (by_replies counter face tt n)
counter_lists n = served counter face sound adds_up tt n tt

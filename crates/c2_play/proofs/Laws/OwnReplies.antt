-- Replies that are the target's own, each to the step before: they are those of the run, and lead target,
-- flash and exchange where it does.
use mathlib.Core.Path.{◌≡◌, refl, sym, ap, ◌∙◌}
use mathlib.Core.Bool.{Bool}
use mathlib.Core.List.{List, [], ◌∷◌, ◌++◌}
use Prim.Native.Nat.{ℕ, zero, suc, ◌≤◌}
use native.Mathlib.Omega.{arith}
use native.Mathlib.Decide.{dec_le}
use lib.Dec.{eqb}
use lib.ListN.{length, take}
use lib.Seq.{take_all, take-nil}
use Rattle.laws.proofs.Tests.{by_test}
use Rattle.c2_wire.specs.Bits.{bit}
use Rattle.c2_wire.specs.Step.{Step, code}
use Rattle.c2_wire.specs.Field.{Field}
use Rattle.c2_wire.specs.Exchange.{Exchange, ended, strobe, ask, at, Outcome, after, fed, asks, steps, taken}
use Rattle.c2_wire.proofs.Laws.Bits.{bit_small}
use Rattle.c2_wire.proofs.Laws.Exchange.{fed_ended, taken_append, after_bit}
use Rattle.c2_target.specs.declared.Target.{Target}
use Rattle.c2_target.specs.Delays.{Setup}
use Rattle.c2_target.specs.Target.{stepped, step_coded, step_refusal, answer, flash_after}
use Rattle.c2_target.specs.Steps.{State, own_replies, left_by}
use Rattle.c2_play.specs.Playing.{Played, then_played, played, whole_step, play}
use Rattle.c2_play.proofs.Laws.Playing.{duration, played_out, played_enough, ended_duration, out_count}

-- the steps that the target gets: the first, and each that was written
abbrev pub sent : Exchange → (replies : List ℕ) → List ℕ
sent e rs = asks e ∷ steps e rs

-- each reply taken is the target's own to the step before
abbrev pub OwnReplies : Setup → Target → List ℕ → Exchange → (replies : List ℕ) → Type 0
OwnReplies u t f e rs = take (taken e rs) rs ≡ own_replies u t f (take (taken e rs) (sent e rs))

-- a reply is 0 or 1, also that of a refused step
pub reply_small : (u : Setup) (t : Target) (f : List ℕ) (x : ℕ) → (answer u t f x).reply ≤ 1
unfolding answer
reply_small u t f x =
    by_test (eqb (step_refusal u t f x) 0) (λ e. rw e (bit_small (stepped u t f (step_coded x)).reply)) (λ e. rw e (omega arith))

pub after_small : (g : Field) (s : Step) (k : Bool → Exchange) (n : ℕ) → n ≤ 1 → after (strobe g s k) n ≡ k (eqb n 1)
unfolding after
after_small g s k zero h = refl
after_small g s k (suc zero) h = refl
after_small g s k (suc (suc n)) h = absurd (omega arith)

reply_again : (n : ℕ) → n ≤ 1 → bit (eqb n 1) ≡ n
unfolding bit
reply_again zero h = refl
reply_again (suc zero) h = refl
reply_again (suc (suc n)) h = absurd (omega arith)

pub head_is : (x y : ℕ) (xs ys : List ℕ) → x ∷ xs ≡ y ∷ ys → x ≡ y
head_is x y xs ys p = cc

pub tail_is : (x y : ℕ) (xs ys : List ℕ) → x ∷ xs ≡ y ∷ ys → xs ≡ ys
tail_is x y xs ys p = cc

-- the exchange after the target's own reply to its step
pub own_after : (u : Setup) (t : Target) (f : List ℕ) (g : Field) (s : Step) (k : Bool → Exchange) (r : ℕ)
    → r ≡ (answer u t f (code s)).reply → after (strobe g s k) r ≡ k (eqb (answer u t f (code s)).reply 1)
own_after u t f g s k r same = ap (after (strobe g s k)) same ∙ after_small g s k (answer u t f (code s)).reply (reply_small u t f (code s))

-- an exchange that has not ended is played on by the target's reply to its step
pub play_on : (u : Setup) (n : ℕ) (g : Field) (s : Step) (k : Bool → Exchange) (t : Target) (f : List ℕ)
    → play u (suc n) (strobe g s k) t f
    ≡ then_played (answer u t f (code s)).reply
    (play u n (after (strobe g s k) (answer u t f (code s)).reply) (answer u t f (code s)).target (flash_after u t f (code s)))
unfolding played whole_step
play_on u n g s k t f = rw (own_after u t f g s k _ refl, reply_again (answer u t f (code s)).reply (reply_small u t f (code s)))

off_keeps : (u : Setup) (t : Target) (f : List ℕ) → left_by u t f (6 ∷ []) ≡ record { target = t; flash = f }
unfolding left_by answer flash_after stepped step_coded
off_keeps u t f = by_test (eqb (step_refusal u t f 6) 0) (λ e. rw e) (λ e. rw e)

none_brought : (o : Outcome) (rs : List ℕ) → steps (ended o) rs ≡ []
unfolding steps
none_brought o [] = refl
none_brought o (r ∷ rs) = refl

-- the target and the flash of a run
abbrev pub there : Played → State
there x = record { target = x.target; flash = x.flash }

-- the steps that the replies bring lead the target as the run does (`own_given`), the last one too
pub own_given : (u : Setup) (n : ℕ) (e : Exchange) (t : Target) (f rs : List ℕ) → OwnReplies u t f e rs → n ≤ suc (taken e rs)
    → left_by u t f (take n (sent e rs)) ≡ there (play u n e t f)
unfolding played left_by taken steps asks own_replies whole_step after code
own_given u zero e t f rs h hn = refl
own_given u (suc n) (ended o) t f rs h hn =
    ap (λ (xs : List ℕ). left_by u t f (6 ∷ take n xs)) (none_brought o rs) ∙ ap (λ (xs : List ℕ). left_by u t f (6 ∷ xs)) (take-nil n) ∙ off_keeps u t f
own_given u (suc zero) (ask (at g s) k) t f [] h hn = refl
own_given u (suc (suc n)) (ask (at g s) k) t f [] h hn = absurd (omega arith)
own_given u (suc n) (ask (at g s) k) t f (r ∷ rs) h hn =
    let x = answer u t f (code s) in
    own_given u n (after (strobe g s k) r) x.target (flash_after u t f (code s)) rs (tail_is r x.reply _ _ h) (omega arith)
    ∙ ap (λ (y : Exchange). there (play u n y x.target (flash_after u t f (code s)))) (own_after u t f g s k r (head_is r x.reply _ _ h))

-- any number of these steps leads it where some number of the run's does, past the replies taken if it is
pub own_along : (u : Setup) (n : ℕ) (e : Exchange) (t : Target) (f rs : List ℕ) → OwnReplies u t f e rs
    → (m : ℕ) × (left_by u t f (take n (sent e rs)) ≡ there (play u m e t f)) × (taken e rs ≤ n → taken e rs ≤ m)
unfolding taken
own_along u n e t f rs h = go (dec_le n (suc (taken e rs)))
  where
    go : Dec (n ≤ suc (taken e rs)) → (m : ℕ) × (left_by u t f (take n (sent e rs)) ≡ there (play u m e t f)) × (taken e rs ≤ n → taken e rs ≤ m)
    go (yes p) = (n, own_given u n e t f rs h p, λ q. q)
    go (no p) =
        let m : ℕ = suc (taken e rs) in
        let all : take n (sent e rs) ≡ take m (sent e rs) = take_all n (sent e rs) (omega arith) ∙ sym (take_all m (sent e rs) (omega arith)) in
        (m, ap (left_by u t f) all ∙ own_given u m e t f rs h (omega arith), λ q. omega arith)

-- they leave of the exchange what the run does
pub own_left : (u : Setup) (e : Exchange) (t : Target) (f rs : List ℕ) → OwnReplies u t f e rs → fed e rs ≡ (play u (taken e rs) e t f).left
unfolding played fed taken steps asks own_replies whole_step after
own_left u e t f [] h = refl
own_left u (ended o) t f (r ∷ rs) h = fed_ended o rs
own_left u (ask (at g s) k) t f (r ∷ rs) h =
    let x = answer u t f (code s) in
    own_left u (after (strobe g s k) r) x.target (flash_after u t f (code s)) rs (tail_is r x.reply _ _ h)
    ∙ ap (λ (y : Exchange). (play u (taken (after (strobe g s k) r) rs) y x.target (flash_after u t f (code s))).left) (own_after u t f g s k r (head_is r x.reply _ _ h))

-- they are the replies of the run
pub own_taken : (u : Setup) (m : ℕ) (e : Exchange) (t : Target) (f rs : List ℕ) → OwnReplies u t f e rs → m ≤ taken e rs
    → take m rs ≡ (play u m e t f).replies
unfolding played taken steps asks own_replies whole_step after
own_taken u zero e t f rs h hm = refl
own_taken u (suc m) (ended o) t f [] h hm = absurd (omega arith)
own_taken u (suc m) (ended o) t f (r ∷ rs) h hm = absurd (omega arith)
own_taken u (suc m) (ask (at g s) k) t f [] h hm = absurd (omega arith)
own_taken u (suc m) (ask (at g s) k) t f (r ∷ rs) h hm =
    let x = answer u t f (code s) in
    let same : r ≡ x.reply = head_is r x.reply _ _ h in
    ap (λ (y : ℕ). y ∷ take m rs) (same ∙ sym (reply_again x.reply (reply_small u t f (code s))))
    ∙ ap (λ (ys : List ℕ). bit (eqb x.reply 1) ∷ ys)
    (own_taken u m (after (strobe g s k) r) x.target (flash_after u t f (code s)) rs (tail_is r x.reply _ _ h) (omega arith)
    ∙ ap (λ (y : Exchange). (play u m y x.target (flash_after u t f (code s))).replies) (own_after u t f g s k r same))

-- where they end the exchange, any number of steps that is no lower than the replies taken plays it to its end
pub own_ends : (u : Setup) (n : ℕ) (e : Exchange) (t : Target) (f rs : List ℕ) (o : Outcome) → OwnReplies u t f e rs → fed e rs ≡ ended o
    → taken e rs ≤ n → play u n e t f ≡ played_out (whole_step u) e t f
own_ends u n e t f rs o h q hn =
    let d = ended_duration (whole_step u) (taken e rs) e t f o (sym (own_left u e t f rs h) ∙ q) in
    played_enough (whole_step u) n e t f (omega (arith, d))

-- While an exchange has not ended, all replies are taken; so replies as many as any can be taken end it.
running_takes : (e : Exchange) (rs : List ℕ) (g : Field) (s : Step) (k : Bool → Exchange) → fed e rs ≡ strobe g s k → taken e rs ≡ length rs
unfolding taken steps fed
running_takes e [] g s k q = refl
running_takes (ended o) (r ∷ rs) g s k q = absurd (let z : ◌≡◌ {A = ℕ} 0 1 = cc (fed_ended o (r ∷ rs)) in omega arith)
running_takes (ask (at h x) j) (r ∷ rs) g s k q = ap suc (running_takes (after (strobe h x j) r) rs g s k q)

pub enough_end : (e : Exchange) (n : ℕ) (rs : List ℕ) → ((qs : List ℕ) → taken e qs ≤ n) → n ≤ length rs → (o : Outcome) × (fed e rs ≡ ended o)
unfolding taken steps
enough_end e n rs h m = go (fed e rs) refl
  where
    go : (x : Exchange) → fed e rs ≡ x → (o : Outcome) × (fed e rs ≡ ended o)
    go (ended o) q = (o, q)
    go (ask (at g s) k) q =
        let one : taken (fed e rs) (0 ∷ []) ≡ 1 = ap (λ (x : Exchange). taken x (0 ∷ [])) q in
        absurd (omega (arith, h (rs ++ 0 ∷ []), taken_append e rs (0 ∷ []), running_takes e rs g s k q))

-- The replies of an exchange that is played to its end are all taken, and are the target's own; so there are
-- such replies.
pub record Given (u : Setup) (e : Exchange) (t : Target) (f : List ℕ) (rs : List ℕ) : Type 0 where
  pub all_taken : taken e rs ≡ length rs
  pub own : OwnReplies u t f e rs

given_after : (u : Setup) (g : Field) (s : Step) (k : Bool → Exchange) (t : Target) (f : List ℕ)
    → after (strobe g s k) (bit (whole_step u t f s).reply) ≡ k (whole_step u t f s).reply
given_after u g s k t f = after_bit g s k (whole_step u t f s).reply

own_head : (u : Setup) (t : Target) (f : List ℕ) (s : Step) (xs ys : List ℕ) → xs ≡ own_replies u (whole_step u t f s).target (whole_step u t f s).flash ys
    → bit (whole_step u t f s).reply ∷ xs ≡ own_replies u t f (code s ∷ ys)
unfolding whole_step own_replies
own_head u t f s xs ys h = rw (reply_again (answer u t f (code s)).reply (reply_small u t f (code s)), h)

pub out_given : (u : Setup) (e : Exchange) (t : Target) (f : List ℕ) → Given u e t f (played_out (whole_step u) e t f).replies
unfolding played duration taken steps own_replies asks
out_given u (ended o) t f = record { all_taken = refl; own = refl }
out_given u (ask (at g s) k) t f =
    let w = whole_step u t f s in
    let x = out_given u (k w.reply) w.target w.flash in
    let rs = (played_out (whole_step u) (k w.reply) w.target w.flash).replies in
    record {
      all_taken = rw (given_after u g s k t f) (ap suc x.all_taken);
      own = rw (given_after u g s k t f) (own_head u t f s _ (take (taken (k w.reply) rs) (sent (k w.reply) rs)) x.own);
    }

-- a run is over after as many steps as any replies can take
pub duration_bounded : (u : Setup) (n : ℕ) (e : Exchange) (t : Target) (f : List ℕ) → ((qs : List ℕ) → taken e qs ≤ n) → duration (whole_step u) e t f ≤ n
duration_bounded u n e t f h =
    let rs = (played_out (whole_step u) e t f).replies in
    omega (arith, h rs, (out_given u e t f).all_taken, out_count (whole_step u) e t f)

-- Request h by replies: each cut of a session whose replies taken are the target's own leaves `Cut`, where
-- the settings' pairs leave the wanted values. The steps that they bring lead the target as the run does.
use mathlib.Core.Path.{◌≡◌, refl, sym, ap, ◌∙◌, subst, subst⁻¹}
use mathlib.Core.Bool.{Bool}
use mathlib.Core.List.{List, [], ◌∷◌, ◌++◌, map}
use Prim.Native.Nat.{ℕ, zero, suc, ◌-◌, ◌<◌, ◌≤◌}
use native.Mathlib.Omega.{arith}
use borrow.Author.Tests.{ltb-true, ltb-false}
use lib.Dec.{ltb}
use lib.ListN.{length, take, drop}
use lib.Seq.{take_all, take-nil}
use Rattle.laws.proofs.Tests.{by_test}
use Rattle.c2_wire.specs.Step.{Step}
use Rattle.c2_wire.specs.Field.{Field}
use Rattle.c2_wire.specs.Exchange.{Exchange, ended, strobe, ask, at, Outcome, outcome, after, fed, steps, taken}
use Rattle.c2_wire.proofs.Laws.Exchange.{fed_ended}
use Rattle.settings.specs.declared.Settings.{Settings}
use Rattle.settings.proofs.Laws.Accepted.{Facts, facts}
use Rattle.c2_order.specs.Acts.{reset_pulse}
use Rattle.c2_order.specs.Order.{Page, joined, page_acts, order}
use Rattle.c2_order.specs.Conversation.{Limits, conversation}
use Rattle.c2_target.specs.declared.Target.{Target}
use Rattle.c2_target.specs.Delays.{Setup}
use Rattle.c2_target.specs.Target.{stepped}
use Rattle.c2_target.specs.Steps.{State, left_by}
use Rattle.c2_target.proofs.Laws.Known.{Lent, Exists}
use Rattle.c2_play.specs.Playing.{Played, played}
use Rattle.c2_play.specs.Pages.{At, up_to}
use Rattle.c2_play.proofs.Laws.Interface.{Fit}
use Rattle.c2_play.proofs.Laws.Onto.{onto}
use Rattle.c2_play.proofs.Laws.Playing.{played_left, ended_duration}
use Rattle.c2_play.proofs.Laws.Programmed.{Meets, Prepares, exchange_over}
use Rattle.c2_play.proofs.Laws.Rise.{all_at}
use Rattle.c2_play.proofs.Laws.WholeStep.{played_stepped, lent_by, fit_by, exists_by, not_refused_by}
use Rattle.c2_play.proofs.Laws.OwnReplies.{sent, OwnReplies, own_given, own_taken}
use Rattle.c2_play.proofs.Laws.Named.{AllFit}
use Rattle.c2_cut.specs.Cut.{Over, Cut}
use Rattle.c2_cut.proofs.Laws.Order.{full_reach, order_stands}
use Rattle.c2_cut.proofs.Laws.Over.{whole_is, over_to, over_from, reach_mono, reach_rises, reach_whole}
use Rattle.c2_cut.proofs.Laws.Cut.{cut_by}

-- replies that are not all taken have ended the exchange
stops : (e : Exchange) (rs : List ℕ) → taken e rs < length rs → (o : Outcome) × (fed e (take (taken e rs) rs) ≡ ended o)
unfolding taken steps fed
stops (ended o) [] h = (o, refl)
stops (ended o) (r ∷ rs) h = (o, refl)
stops (ask (at g s) k) [] h = absurd (omega arith)
stops (ask (at g s) k) (r ∷ rs) h = stops (after (strobe g s k) r) rs (omega arith)

-- an ended exchange stays ended
more_ended : (m n : ℕ) (e : Exchange) (rs : List ℕ) (o : Outcome) → m ≤ n → fed e (take m rs) ≡ ended o → fed e (take n rs) ≡ ended o
unfolding fed
more_ended zero n e rs o h q = ap (λ (y : Exchange). fed y (take n rs)) q ∙ fed_ended o (take n rs)
more_ended (suc m) zero e rs o h q = absurd (omega arith)
more_ended (suc m) (suc n) e [] o h q = q
more_ended (suc m) (suc n) e (r ∷ rs) o h q = more_ended m n (after e r) rs o (omega arith) q

-- a reply is taken alike by an exchange and by one that goes on with x
onto_replied : (g : Field) (s : Step) (k : Bool → Exchange) (x : Exchange) (r : ℕ)
    → after (strobe g s (λ b. onto (k b) x)) r ≡ onto (after (strobe g s k) r) x
unfolding onto after
onto_replied g s k x zero = refl
onto_replied g s k x (suc zero) = refl
onto_replied g s k x (suc (suc r)) = refl

-- replies past those that e and then x take change nothing of e
past : (e x : Exchange) (rs : List ℕ) (n : ℕ) → taken (onto e x) rs ≤ n → fed e (take n rs) ≡ fed e (take (taken (onto e x) rs) rs)
unfolding onto taken steps fed
past e x [] n h = ap (fed e) (take-nil n)
past (ended o) x (r ∷ rs) n h = fed_ended o (take n (r ∷ rs)) ∙ sym (fed_ended o (take (taken (onto (ended o) x) (r ∷ rs)) (r ∷ rs)))
past (ask (at g s) k) x (r ∷ rs) zero h = absurd (omega arith)
past (ask (at g s) k) x (r ∷ rs) (suc n) h =
    let y = after (strobe g s (λ b. onto (k b) x)) r in
    let fewer : taken y rs ≤ n = omega arith in
    rw (onto_replied g s k x r) (past (after (strobe g s k) r) x rs n (rw (onto_replied g s k x r) at fewer))

-- a cut after no more steps than were sent
cut_within : (l : Limits) (u : Setup) (ps : List Page) (t : Target) (f rs : List ℕ) → Prepares u → Meets l u ps t f
    → OwnReplies u t f (exchange_over l u.settings ps) rs → (n : ℕ) → n ≤ suc (taken (exchange_over l u.settings ps) rs)
    → Cut l u.settings ps rs n f (left_by u t f (take n (sent (exchange_over l u.settings ps) rs))).flash
cut_within l u ps t f rs leaves h own n hn =
    subst⁻¹ (λ (z : State). Cut l s ps rs n f z.flash) (own_given u n e t f rs own hn)
    (subst⁻¹ (λ (w : Played). Cut l s ps rs n f w.flash) (played_stepped u lent (not_refused_by l u ps t f h) n e t f h.suits.flash k)
    (cut_by s ps h.named f _ R n k.flash mono rises l rs (order_stands u l.wait l.reads fit leaves B x.size some x.bytes ps t f h.suits.unmarked fits k.flash n)
    before_says before_is all_says (λ i q. more_ended (n - 1) n (conversation l (up_to s (take i ps))) rs (outcome 32) (omega arith) (before_is i q))))
  where
    s : Settings
    s = u.settings

    e : Exchange
    e = conversation l (order s ps)

    x : Facts s
    x = facts s h.accepted

    B : ℕ
    B = x.blocks

    some : 1 ≤ x.blocks
    some = omega (arith, x.some)

    lent : Lent u
    lent = lent_by l u ps t f h

    fit : Fit u l.wait l.reads
    fit = fit_by l u ps t f h

    k : Exists u t f
    k = exists_by l u ps t f h

    fits : AllFit s ps
    fits = all_at s ps h.named.fits

    R : ℕ → ℕ
    R i = full_reach u l.wait l.reads fit leaves B x.size some x.bytes ps t f i

    mono : (i j : ℕ) → i ≤ j → R i ≤ R j
    mono = reach_mono u l.wait l.reads fit leaves B x.size some x.bytes ps t f h.suits.unmarked fits k.flash

    rises : (i : ℕ) (p : Page) → At ps i p → R i < R (suc i)
    rises = reach_rises u l.wait l.reads fit leaves B x.size some x.bytes ps t f h.suits.unmarked fits k.flash

    agree : (m : ℕ) → m ≤ taken e rs → take m rs ≡ (played (stepped u) m e t f).replies
    agree m q = own_taken u m e t f rs own q ∙ ap (λ (w : Played). w.replies) (played_stepped u lent (not_refused_by l u ps t f h) m e t f h.suits.flash k)

    says : (m : ℕ) → m ≤ taken e rs → (i : ℕ) → Over l s (take i ps) (take m rs) → R i ≤ m
    says m q i o =
        over_from u l.wait l.reads fit leaves B x.size some x.bytes ps t f h.suits.unmarked fits k.flash m i
        (subst (λ (qs : List ℕ). Over l s (take i ps) qs) (agree m q) o)

    before_says : (i : ℕ) → Over l s (take i ps) (take (n - 1) rs) → R i ≤ n - 1
    before_says i o = says (n - 1) (omega arith) i o

    before_is : (i : ℕ) → R i ≤ n - 1 → Over l s (take i ps) (take (n - 1) rs)
    before_is i q =
        subst⁻¹ (λ (qs : List ℕ). Over l s (take i ps) qs) (agree (n - 1) (omega arith))
        (over_to u l.wait l.reads fit leaves B x.size some x.bytes ps t f h.suits.unmarked fits k.flash (n - 1) i q)

    all_says : (i : ℕ) → Over l s (take i ps) (take n rs) → R i ≤ n
    all_says i o =
        by_test (ltb (taken e rs) n)
        (λ b.
        let lt : taken e rs < n = ltb-true (taken e rs) n b in
        by_test (ltb (taken e rs) (length rs))
        (λ c.
        let y = stops e rs (ltb-true (taken e rs) (length rs) c) in
        let z = ended_duration (stepped u) (taken e rs) e t f y.0
        (sym (played_left (stepped u) (taken e rs) e t f) ∙ ap (fed e) (sym (agree (taken e rs) (omega arith))) ∙ y.1) in
        let w = reach_whole u l.wait l.reads fit leaves B x.size some x.bytes ps t f h.suits.unmarked fits k.flash i in
        omega (arith, z, w))
        (λ c.
        let short : length rs ≤ taken e rs = ltb-false (taken e rs) (length rs) c in
        let same : take n rs ≡ take (n - 1) rs = take_all n rs (omega arith) ∙ sym (take_all (n - 1) rs (omega arith)) in
        let z = before_says i (subst (λ (qs : List ℕ). Over l s (take i ps) qs) same o) in
        omega (arith, z)))
        (λ b. says n (ltb-false (taken e rs) n b) i o)

-- `Cut` goes by what the replies have brought the order to
cut_alike : (l : Limits) (s : Settings) (ps : List Page) (rs : List ℕ) (m n : ℕ) (f F : List ℕ)
    → ((i : ℕ) → let e = conversation l (up_to s (take i ps)) in fed e (take (n - 1) rs) ≡ fed e (take (m - 1) rs))
    → ((i : ℕ) → let e = conversation l (up_to s (take i ps)) in fed e (take n rs) ≡ fed e (take m rs))
    → Cut l s ps rs m f F → Cut l s ps rs n f F
cut_alike l s ps rs m n f F before all c =
    record {
      unnamed = c.unnamed;
      read_back = λ i p a h. c.read_back i p a (sym (all (suc i)) ∙ h);
      waiting = λ i p a h. c.waiting i p a (λ g. h (before i ∙ g));
      one = λ i j p q a d hi gi hj gj.
          c.one i j p q a d (sym (before i) ∙ hi) (λ g. gi (all (suc i) ∙ g)) (sym (before j) ∙ hj) (λ g. gj (all (suc j) ∙ g));
      each = c.each;
    }

-- a cut after any number of steps: past those that were sent, it is a cut after the last of them
pub cuts_by_replies : (l : Limits) (u : Setup) (ps : List Page) (t : Target) (f rs : List ℕ) → Prepares u → Meets l u ps t f
    → OwnReplies u t f (exchange_over l u.settings ps) rs → (n : ℕ)
    → Cut l u.settings ps rs n f (left_by u t f (take n (sent (exchange_over l u.settings ps) rs))).flash
unfolding taken
cuts_by_replies l u ps t f rs leaves h own n =
    by_test (ltb m n)
    (λ b.
    let hn : m < n = ltb-true m n b in
    subst⁻¹ (λ (xs : List ℕ). Cut l s ps rs n f (left_by u t f xs).flash)
    (take_all n (sent e rs) (omega arith) ∙ sym (take_all m (sent e rs) (omega arith)))
    (cut_alike l s ps rs m n f _ (λ i. alike i (n - 1) (m - 1) (omega arith) (omega arith)) (λ i. alike i n m (omega arith) (omega arith))
    (cut_within l u ps t f rs leaves h own m (omega arith))))
    (λ b. cut_within l u ps t f rs leaves h own n (ltb-false m n b))
  where
    s : Settings
    s = u.settings

    e : Exchange
    e = exchange_over l s ps

    m : ℕ
    m = suc (taken e rs)

    before : (i : ℕ) → Exchange
    before i = conversation l (up_to s (take i ps))

    behind : (i : ℕ) → Exchange
    behind i = conversation l (joined (map (page_acts s) (drop i ps)) ++ reset_pulse ∷ [])

    alike : (i a b : ℕ) → taken e rs ≤ a → taken e rs ≤ b → fed (before i) (take a rs) ≡ fed (before i) (take b rs)
    alike i a b ha hb =
        let q = whole_is u l.wait l.reads (fit_by l u ps t f h) ps i in
        past (before i) (behind i) rs a (rw q at ha) ∙ sym (past (before i) (behind i) rs b (rw q at hb))

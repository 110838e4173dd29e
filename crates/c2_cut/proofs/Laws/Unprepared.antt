-- Request h where the settings' pairs do not leave the wanted values: no page's read-back ends, and none but
-- the first page is begun; so where the flash stays as it was, a cut leaves `Cut`.
use mathlib.Core.Path.{◌≡◌, refl, sym, ap, ◌∙◌, subst}
use mathlib.Core.Bool.{false}
use mathlib.Core.List.{List, [], ◌∷◌, ◌++◌, map}
use mathlib.Core.Logic.{inl}
use Prim.Native.Nat.{ℕ, zero, suc, ◌-◌}
use native.Mathlib.Omega.{arith}
use lib.Dec.{eqb}
use lib.ListN.{take, drop}
use Rattle.numbers.specs.Numbers.{done, bad_status}
use Rattle.c2_wire.specs.Step.{code}
use Rattle.c2_wire.specs.Exchange.{Exchange, ended, ask, at, Outcome, outcome, outcome_of, after, fed, asks, steps, taken}
use Rattle.c2_wire.proofs.Laws.Exchange.{fed_ended}
use Rattle.settings.specs.declared.Settings.{Settings}
use Rattle.settings.specs.Registers.{pairs_of, leave_all}
use Rattle.c2_order.specs.Acts.{reset_pulse}
use Rattle.c2_order.specs.Order.{Page, joined, page_acts}
use Rattle.c2_order.specs.Conversation.{Limits, conversation}
use Rattle.c2_target.specs.declared.Target.{Target}
use Rattle.c2_target.specs.Delays.{Setup}
use Rattle.c2_target.specs.Target.{answer, flash_after}
use Rattle.c2_target.specs.Steps.{own_replies}
use Rattle.c2_play.specs.Playing.{played, whole_step}
use Rattle.c2_play.specs.Pages.{page_of, At, up_to}
use Rattle.c2_play.proofs.Laws.Playing.{duration, played_out}
use Rattle.c2_play.proofs.Laws.Onto.{onto}
use Rattle.c2_play.proofs.Laws.Programmed.{Meets, exchange_over}
use Rattle.c2_play.proofs.Laws.Rise.{nothing_at}
use Rattle.c2_play.proofs.Laws.WholeStep.{fit_by, acts_turned_away}
use Rattle.c2_play.proofs.Laws.OwnReplies.{OwnReplies, head_is, tail_is, own_after}
use Rattle.c2_cut.specs.Cut.{Over, Cut}
use Rattle.c2_cut.proofs.Laws.Over.{whole_is}

-- Where replies that are the target's own to e and then x have ended e, it has ended as its run to its end
-- has.
own_ended : (u : Setup) (n : ℕ) (e x : Exchange) (t : Target) (f rs : List ℕ) (o : Outcome) → OwnReplies u t f (onto e x) rs
    → fed e (take n rs) ≡ ended o → o ≡ outcome_of (played_out (whole_step u) e t f).left
unfolding onto played duration outcome_of fed taken steps asks own_replies whole_step after
own_ended u n (ended p) x t f rs o h q = ap outcome_of (sym q ∙ fed_ended p (take n rs))
own_ended u zero (ask (at g s) k) x t f rs o h q = absurd (let z : ◌≡◌ {A = ℕ} 0 1 = cc in omega arith)
own_ended u (suc n) (ask (at g s) k) x t f [] o h q = absurd (let z : ◌≡◌ {A = ℕ} 0 1 = cc in omega arith)
own_ended u (suc n) (ask (at g s) k) x t f (r ∷ rs) o h q =
    let y = answer u t f (code s) in
    let F : List ℕ = flash_after u t f (code s) in
    let same : r ≡ y.reply = head_is r y.reply _ _ h in
    let mine = tail_is r y.reply _ _ h in
    own_ended u n (k (eqb y.reply 1)) x y.target F rs o
    (subst (λ (z : Exchange). OwnReplies u y.target F z rs) (own_after u t f g s (λ b. onto (k b) x) r same) mine)
    (ap (λ (z : Exchange). fed z (take n rs)) (sym (own_after u t f g s k r same)) ∙ q)

module _ (l : Limits) (u : Setup) (ps : List Page) (t : Target) (f rs : List ℕ)
    (differs : leave_all (pairs_of u.settings.pairs) (pairs_of u.wanted) ≡ false) (h : Meets l u ps t f)
    (own : OwnReplies u t f (exchange_over l u.settings ps) rs) where
  abbrev s : Settings
  s = u.settings

  -- the order up to the end of one page or more, played to its end, has ended with 13
  abbrev EndsWith13 : List Page → Type 0
  EndsWith13 qs = outcome_of (played_out (whole_step u) (conversation l (up_to s qs)) t f).left ≡ outcome bad_status

  with_13 : (i k : ℕ) (p : Page) → At ps k p → EndsWith13 (take (suc i) ps)
  unfolding joined
  with_13 i k p a = go ps a
    where
      go : (qs : List Page) → At qs k p → EndsWith13 (take (suc i) qs)
      go [] a = absurd (nothing_at k p a)
      go (q ∷ qs) a = (acts_turned_away l u ps q (joined (map (page_acts s) (take i qs))) t f differs h).ended

  -- so no replies of the target's own end it done (`never_over`), and a page that is begun is the first one
  never_over : (i k n : ℕ) (p : Page) → At ps k p → Over l s (take (suc i) ps) (take n rs) → ⊥
  never_over i k n p a o =
      let e = conversation l (up_to s (take (suc i) ps)) in
      let rest = conversation l (joined (map (page_acts s) (drop (suc i) ps)) ++ reset_pulse ∷ []) in
      let mine = subst (λ (z : Exchange). OwnReplies u t f z rs) (whole_is u l.wait l.reads (fit_by l u ps t f h) ps (suc i)) own in
      let z : outcome done ≡ outcome bad_status = own_ended u n e rest t f rs (outcome done) mine o ∙ with_13 i k p a in
      omega (arith, ap (λ (x : Outcome). x.number) z)

  first_begun : (i n : ℕ) (p : Page) → At ps i p → Over l s (take i ps) (take n rs) → i ≡ 0
  first_begun zero n p a o = refl
  first_begun (suc i) n p a o = absurd (never_over i (suc i) n p a o)

  pub cut_turned_away : (n : ℕ) (F : List ℕ) → F ≡ f → Cut l s ps rs n f F
  cut_turned_away n F e =
      record {
        unnamed = λ q hq other. ap (page_of s.size q) e;
        read_back = λ i p a o. absurd (never_over i i n p a o);
        waiting = λ i p a o. ap (page_of s.size p.number) e;
        one = λ i j p q a c hi gi hj gj. first_begun i (n - 1) p a hi ∙ sym (first_begun j (n - 1) q c hj);
        each = λ i p a. inl (ap (page_of s.size p.number) e);
      }

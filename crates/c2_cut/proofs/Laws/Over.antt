-- Where the order up to some pages ends among the steps.
use mathlib.Core.Path.{◌≡◌, sym, ap, ◌∙◌}
use mathlib.Core.Bool.{false}
use mathlib.Core.List.{List, [], ◌∷◌, ◌++◌, map, append_assoc}
use Prim.Native.Nat.{ℕ, zero, suc, ◌+◌, ◌-◌, ◌*◌, ◌<◌, ◌≤◌}
use native.Mathlib.Omega.{arith}
use lib.ListN.{length, take, drop, take-append-drop}
use lib.Seq.{take-add}
use Rattle.numbers.specs.Numbers.{done}
use Rattle.c2_wire.specs.Exchange.{Exchange, outcome, outcome_of, fed}
use Rattle.c2_wire.specs.Frames.{frame, strobes}
use Rattle.settings.specs.declared.Settings.{Settings}
use Rattle.c2_order.specs.Acts.{Act, erase, reset_pulse}
use Rattle.c2_order.specs.Order.{Page, joined, preparation, page_acts, order}
use Rattle.c2_order.specs.Conversation.{limits, conversation}
use Rattle.c2_target.specs.declared.Target.{Target}
use Rattle.c2_target.specs.Delays.{Setup}
use Rattle.c2_target.specs.Target.{stepped}
use Rattle.c2_play.specs.Playing.{Played, played}
use Rattle.c2_play.proofs.Laws.Interface.{Fit}
use Rattle.c2_play.proofs.Laws.Playing.{duration, played_out}
use Rattle.c2_play.specs.Pages.{At, up_to}
use Rattle.c2_cut.specs.Cut.{Over}
use Rattle.c2_play.proofs.Laws.Onto.{onto, Refuses, onto_acts}
use Rattle.c2_cut.proofs.Laws.Playing.{onto_duration, over_is, over_says}
use Rattle.c2_play.proofs.Laws.Refuses.{refuses_up_to}
use Rattle.c2_play.proofs.Laws.Run.{acts_append, up_to_run}
use Rattle.c2_play.proofs.Laws.Named.{AllFit}
use Rattle.c2_play.proofs.Laws.Programmed.{Prepares}
use Rattle.c2_cut.proofs.Laws.Order.{full_reach}

pub all_fit_take : (s : Settings) (i : ℕ) (ps : List Page) → AllFit s ps → AllFit s (take i ps)
unfolding AllFit
all_fit_take s zero ps h = tt
all_fit_take s (suc i) [] h = tt
all_fit_take s (suc i) (p ∷ ps) h = (h.0, all_fit_take s i ps h.1)

module _ (u : Setup) (l r : ℕ) (fit : Fit u l r) where
  abbrev conv : List Act → Exchange
  conv acts = conversation (limits l r) acts

  abbrev acts_of : List Page → List Act
  acts_of ps = joined (map (page_acts u.settings) ps)

  abbrev run : List Act → Target → List ℕ → Played
  run acts t f = played_out (stepped u) (conv acts) t f

  pub duration_append : (xs ys : List Act) (t : Target) (f : List ℕ) → Refuses xs → outcome_of (run xs t f).left ≡ outcome done
      → duration (stepped u) (conv (xs ++ ys)) t f ≡ duration (stepped u) (conv xs) t f + duration (stepped u) (conv ys) (run xs t f).target (run xs t f).flash
  duration_append xs ys t f h d =
      ap (λ (e : Exchange). duration (stepped u) e t f) (onto_acts (limits l r) xs ys h) ∙ onto_duration (stepped u) (conv xs) (conv ys) t f d

  -- a page takes some steps
  pub page_some : (p : Page) (acts : List Act) (t : Target) (f : List ℕ) → 1 ≤ duration (stepped u) (conv (page_acts u.settings p ++ acts)) t f
  unfolding page_acts erase conversation frame strobes duration
  page_some p acts t f = omega arith

  -- the order is the order up to some pages, and the rest
  split_order : (ps : List Page) (i : ℕ)
      → order u.settings ps ≡ up_to u.settings (take i ps) ++ (acts_of (drop i ps) ++ reset_pulse ∷ [])
  unfolding order
  split_order ps i =
      ap (λ (x : List Page). preparation u.settings ++ acts_of x ++ reset_pulse ∷ []) (sym (take-append-drop i ps))
      ∙ ap (λ (x : List Act). preparation u.settings ++ x ++ reset_pulse ∷ []) (acts_append u.settings (take i ps) (drop i ps))
      ∙ ap (λ (x : List Act). x ++ reset_pulse ∷ [])
      (sym (append_assoc (preparation u.settings) (acts_of (take i ps)) (acts_of (drop i ps))))
      ∙ append_assoc (up_to u.settings (take i ps)) (acts_of (drop i ps)) (reset_pulse ∷ [])

  pub whole_is : (ps : List Page) (i : ℕ)
      → conv (order u.settings ps) ≡ onto (conv (up_to u.settings (take i ps))) (conv (acts_of (drop i ps) ++ reset_pulse ∷ []))
  whole_is ps i =
      ap conv (split_order ps i)
      ∙ onto_acts (limits l r) (up_to u.settings (take i ps)) (acts_of (drop i ps) ++ reset_pulse ∷ [])
      (refuses_up_to u.settings (take i ps))

  module _ (leaves : Prepares u) (B : ℕ) (whole : u.settings.size ≡ 256 * B) (some : 1 ≤ B) (few : u.settings.size * u.settings.count ≤ 65536) where
    abbrev size : ℕ
    size = u.settings.size

    abbrev full : List ℕ → Type 0
    full f = length f ≡ size * u.settings.count

    module _ (ps : List Page) (t : Target) (f : List ℕ) (hm : t.collision ≡ false) (fits : AllFit u.settings ps) (ef : full f) where
      abbrev reaches : ℕ → ℕ
      reaches i = full_reach u l r fit leaves B whole some few ps t f i

      -- the replies of n steps
      abbrev own : ℕ → List ℕ
      own n = (played (stepped u) n (conv (order u.settings ps)) t f).replies

      done_by : (i : ℕ) → outcome_of (run (up_to u.settings (take i ps)) t f).left ≡ outcome done
      done_by i = (up_to_run u l r fit leaves B whole some few (take i ps) t f hm (all_fit_take u.settings i ps fits) ef).ended

      -- the replies have brought the order to the end of the first i pages exactly if they are as many as its
      -- steps up to there
      pub over_to : (n i : ℕ) → reaches i ≤ n → Over (limits l r) u.settings (take i ps) (own n)
      over_to n i h =
          ap (λ (e : Exchange). fed (conv (up_to u.settings (take i ps))) (played (stepped u) n e t f).replies) (whole_is ps i)
          ∙ over_is (stepped u) n (conv (up_to u.settings (take i ps))) (conv (acts_of (drop i ps) ++ reset_pulse ∷ [])) t f (done_by i) h

      pub over_from : (n i : ℕ) → Over (limits l r) u.settings (take i ps) (own n) → reaches i ≤ n
      over_from n i h =
          over_says (stepped u) n (conv (up_to u.settings (take i ps))) (conv (acts_of (drop i ps) ++ reset_pulse ∷ [])) t f (outcome done)
          (ap (λ (e : Exchange). fed (conv (up_to u.settings (take i ps))) (played (stepped u) n e t f).replies) (sym (whole_is ps i)) ∙ h)

      -- more pages take more steps
      more_pages : (i k : ℕ) → up_to u.settings (take (i + k) ps) ≡ up_to u.settings (take i ps) ++ acts_of (take k (drop i ps))
      more_pages i k =
          ap (λ (x : List Page). preparation u.settings ++ acts_of x) (take-add i k ps)
          ∙ ap (λ (x : List Act). preparation u.settings ++ x) (acts_append u.settings (take i ps) (take k (drop i ps)))
          ∙ sym (append_assoc (preparation u.settings) (acts_of (take i ps)) (acts_of (take k (drop i ps))))

      reach_more : (i k : ℕ) → reaches (i + k)
          ≡ reaches i + duration (stepped u) (conv (acts_of (take k (drop i ps)))) (run (up_to u.settings (take i ps)) t f).target (run (up_to u.settings (take i ps)) t f).flash
      reach_more i k =
          ap (λ (x : List Act). duration (stepped u) (conv x) t f) (more_pages i k)
          ∙ duration_append (up_to u.settings (take i ps)) (acts_of (take k (drop i ps))) t f (refuses_up_to u.settings (take i ps)) (done_by i)

      pub reach_mono : (i j : ℕ) → i ≤ j → reaches i ≤ reaches j
      reach_mono i j h =
          let e : i + (j - i) ≡ j = omega arith in
          let q = ap reaches e in
          omega (arith, q, reach_more i (j - i))

      pub reach_rises : (i : ℕ) (p : Page) → At ps i p → reaches i < reaches (suc i)
      unfolding joined
      reach_rises i p a =
          let e : i + 1 ≡ suc i = omega arith in
          let q = ap reaches e in
          let one : 1 ≤ duration (stepped u) (conv (acts_of (take 1 (drop i ps)))) (run (up_to u.settings (take i ps)) t f).target (run (up_to u.settings (take i ps)) t f).flash =
          rw a.is (page_some p [] (run (up_to u.settings (take i ps)) t f).target (run (up_to u.settings (take i ps)) t f).flash) in
          omega (arith, q, reach_more i 1, one)

      pub reach_whole : (i : ℕ) → reaches i ≤ duration (stepped u) (conv (order u.settings ps)) t f
      reach_whole i =
          let q = ap (λ (e : Exchange). duration (stepped u) e t f) (whole_is ps i)
          ∙ onto_duration (stepped u) (conv (up_to u.settings (take i ps))) (conv (acts_of (drop i ps) ++ reset_pulse ∷ [])) t f (done_by i) in
          omega (arith, q)

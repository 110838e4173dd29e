-- The whole order: where a cut falls.
use mathlib.Core.Path.{◌≡◌, refl, ap, ◌∙◌, subst, subst⁻¹}
use mathlib.Core.Bool.{false}
use mathlib.Core.List.{List, [], ◌∷◌, ◌++◌, map, append_assoc}
use Prim.Native.Nat.{ℕ, zero, suc, ◌+◌, ◌-◌, ◌*◌, ◌≤◌}
use native.Mathlib.Omega.{arith}
use borrow.Author.Tests.{ltb-true, ltb-false}
use lib.Dec.{ltb}
use lib.ListN.{length, take}
use Rattle.laws.proofs.Tests.{by_test}
use Rattle.numbers.specs.Numbers.{done}
use Rattle.c2_wire.specs.Exchange.{Exchange, outcome, outcome_of}
use Rattle.c2_wire.specs.Frames.{strobes}
use Rattle.c2_order.specs.Acts.{Act, reset_pulse}
use Rattle.c2_order.specs.Order.{Page, joined, preparation, page_acts, order}
use Rattle.c2_order.specs.Conversation.{limits, conversation}
use Rattle.c2_target.specs.declared.Met.{Met}
use Rattle.c2_target.specs.declared.Target.{Target}
use Rattle.c2_target.specs.Delays.{Setup}
use Rattle.c2_target.specs.Target.{stepped}
use Rattle.c2_play.proofs.Laws.Interface.{Fit}
use Rattle.c2_play.specs.Playing.{played}
use Rattle.c2_play.proofs.Laws.Playing.{duration, played_out}
use Rattle.c2_play.specs.Pages.{with_pages, up_to}
use Rattle.c2_play.proofs.Laws.Onto.{onto, onto_acts}
use Rattle.c2_play.proofs.Laws.Leads.{leads_outcome, leads_end}
use Rattle.c2_play.proofs.Laws.Named.{AllFit}
use Rattle.c2_play.proofs.Laws.Programmed.{Prepares}
use Rattle.c2_play.proofs.Laws.Run.{ready_by_pairs}
use Rattle.c2_cut.proofs.Laws.Playing.{leads_way, onto_before, onto_after, onto_duration}
use Rattle.c2_play.proofs.Laws.Frames.{leads}
use Rattle.c2_play.proofs.Laws.Refuses.{refuses_preparation}
use Rattle.c2_play.proofs.Laws.Lead.{Led, met_by_pairs, preparation_leads}
use Rattle.c2_play.proofs.Laws.Page.{Between, Mid}
use Rattle.c2_cut.proofs.Laws.Pages.{Standing, leading, between, underway, reach, pages_stand}

module _ (u : Setup) (l r : ℕ) (fit : Fit u l r) where
  abbrev conv : List Act → Exchange
  conv acts = conversation (limits l r) acts

  -- the last reset leaves the flash
  pub reset_still : (m : Met) (t : Target) (f : List ℕ) → Between m t → (n : ℕ) → (played (stepped u) n (conv (reset_pulse ∷ [])) t f).flash ≡ f
  unfolding conversation strobes played stepped
  reset_still m t f b zero = refl
  reset_still m t f b (suc zero) = refl
  reset_still m t f b (suc (suc n)) = refl

  module _ (leaves : Prepares u) (B : ℕ) (whole : u.settings.size ≡ 256 * B) (some : 1 ≤ B) (few : u.settings.size * u.settings.count ≤ 65536) where
    abbrev size : ℕ
    size = u.settings.size

    -- the steps that the preparation and the first i pages take
    abbrev pub full_reach : List Page → Target → List ℕ → ℕ → ℕ
    full_reach ps t f i = duration (stepped u) (conv (up_to u.settings (take i ps))) t f

    -- where steps fall among the pages, counted from the preparation's start
    delay_by : (ps : List Page) (f g F : List ℕ) (R S : ℕ → ℕ) (m n k : ℕ) → g ≡ f → n ≡ m + k → ((i : ℕ) → R i ≡ m + S i)
        → Standing size ps g S k F → Standing size ps f R n F
    delay_by ps f g F R S m n k eg en er (leading h e) = leading (omega (arith, er 0)) (e ∙ eg)
    delay_by ps f g F R S m n k eg en er (between j hj hr hn e) =
        between j hj (omega (arith, er j)) (λ h. let x = hn h in (omega (arith, er j, x.0), omega (arith, er (suc j), x.1)))
        (e ∙ ap (λ (x : List ℕ). with_pages size (take j ps) x) eg)
    delay_by ps f g F R S m n k eg en er (underway j q after hd h1 h2 mid) =
        underway j q after hd (omega (arith, er j)) (omega (arith, er (suc j))) (subst (λ (x : List ℕ). Mid size q (with_pages size (take j ps) x) F) eg mid)

    pub order_stands : (ps : List Page) (t : Target) (f : List ℕ) → t.collision ≡ false → AllFit u.settings ps → length f ≡ size * u.settings.count
        → (n : ℕ) → Standing size ps f (full_reach ps t f) n (played (stepped u) n (conv (order u.settings ps)) t f).flash
    unfolding order
    order_stands ps t f hm fits ef n =
        by_test (ltb n m)
        (λ e. leading (omega (arith, zero_reach, ltb-true n m e))
        (ap (λ (y : Exchange). (played (stepped u) n y t f).flash) split ∙ onto_before (stepped u) n (conv A) (conv X) t f (ltb-true n m e)
        ∙ leads_way (stepped u) (outcome done) (λ F. F ≡ f) (Led (met_by_pairs u) f) n (conv A) t f way (ltb-true n m e)))
        (λ e. later (ltb-false n m e))
      where
        A : List Act
        A = preparation u.settings

        pages_acts : List Page → List Act
        pages_acts qs = joined (map (page_acts u.settings) qs)

        X : List Act
        X = pages_acts ps ++ reset_pulse ∷ []

        m : ℕ
        m = duration (stepped u) (conv A) t f

        split : conv (order u.settings ps) ≡ onto (conv A) (conv X)
        split = ap conv (append_assoc A (pages_acts ps) (reset_pulse ∷ [])) ∙ onto_acts (limits l r) A X (refuses_preparation u.settings)

        way : leads u (outcome done) (λ F. F ≡ f) (Led (met_by_pairs u) f) (conv A) t f
        way = preparation_leads u l r fit t f hm

        d : outcome_of (played_out (stepped u) (conv A) t f).left ≡ outcome done
        d = leads_outcome (stepped u) (outcome done) (λ F. F ≡ f) (Led (met_by_pairs u) f) (conv A) t f way

        t₁ : Target
        t₁ = (played_out (stepped u) (conv A) t f).target

        f₁ : List ℕ
        f₁ = (played_out (stepped u) (conv A) t f).flash

        h : Led (met_by_pairs u) f t₁ f₁
        h = leads_end (stepped u) (outcome done) (λ F. F ≡ f) (Led (met_by_pairs u) f) (conv A) t f way

        from_start : (i : ℕ) → full_reach ps t f i ≡ m + reach u l r ps t₁ f₁ i
        from_start i =
            ap (λ (e : Exchange). duration (stepped u) e t f) (onto_acts (limits l r) A (pages_acts (take i ps)) (refuses_preparation u.settings))
            ∙ onto_duration (stepped u) (conv A) (conv (pages_acts (take i ps))) t f d

        zero_reach : m ≤ full_reach ps t f 0
        zero_reach = omega (arith, from_start 0)

        later : m ≤ n → Standing size ps f (full_reach ps t f) n (played (stepped u) n (conv (order u.settings ps)) t f).flash
        later hn =
            let k : ℕ = n - m in
            let en : n ≡ m + k = omega arith in
            let same : (played (stepped u) n (conv (order u.settings ps)) t f).flash ≡ (played (stepped u) k (conv X) t₁ f₁).flash =
            ap (λ (y : Exchange). (played (stepped u) n y t f).flash) split ∙ onto_after (stepped u) n k (conv A) (conv X) t f d en in
            subst⁻¹ (Standing size ps f (full_reach ps t f) n) same
            (delay_by ps f f₁ _ (full_reach ps t f) (reach u l r ps t₁ f₁) m n k h.same en from_start
            (pages_stand u l r fit (met_by_pairs u) (ready_by_pairs u l r fit leaves) B whole some few ps (reset_pulse ∷ []) (reset_still (met_by_pairs u)) t₁ f₁ h.between fits (ap length h.same ∙ ef) k))

-- A list of pages against the target: where a cut falls, and what the flash is then.
use mathlib.Core.Path.{◌≡◌, refl, ap, ◌∙◌, subst, subst⁻¹}
use mathlib.Core.Bool.{true}
use mathlib.Core.List.{List, [], ◌∷◌, ◌++◌, map, append_assoc}
use Prim.Native.Nat.{ℕ, zero, suc, ◌+◌, ◌-◌, ◌*◌, ◌<◌, ◌≤◌}
use native.Mathlib.Omega.{arith}
use borrow.Author.Tests.{ltb-true, ltb-false}
use lib.Dec.{ltb}
use lib.ListN.{length, take, drop}
use Rattle.laws.proofs.Tests.{by_test}
use Rattle.numbers.specs.Numbers.{done}
use Rattle.c2_wire.specs.Exchange.{Exchange, outcome, outcome_of}
use Rattle.c2_order.specs.Acts.{Act}
use Rattle.c2_order.specs.Order.{Page, joined, page_acts}
use Rattle.c2_order.specs.Conversation.{limits, conversation}
use Rattle.c2_target.specs.declared.Met.{Met}
use Rattle.c2_target.specs.declared.Target.{Target}
use Rattle.c2_target.specs.Delays.{Setup}
use Rattle.c2_target.specs.Interface.{prepared}
use Rattle.c2_target.specs.Target.{stepped}
use Rattle.c2_play.proofs.Laws.Interface.{Fit}
use Rattle.c2_play.specs.Playing.{played}
use Rattle.c2_play.proofs.Laws.Playing.{duration, played_out}
use Rattle.c2_play.specs.Pages.{with_page, with_pages}
use Rattle.c2_play.proofs.Laws.Named.{AllFit, put_length}
use Rattle.c2_play.proofs.Laws.Onto.{onto, onto_acts}
use Rattle.c2_play.proofs.Laws.Leads.{leads_outcome, leads_end}
use Rattle.c2_cut.proofs.Laws.Playing.{leads_way, onto_before, onto_after, onto_duration}
use Rattle.c2_play.proofs.Laws.Frames.{leads}
use Rattle.c2_play.proofs.Laws.Refuses.{refuses_page}
use Rattle.c2_play.proofs.Laws.Page.{Between, Mid, Held, page_leads}

-- Where n steps fall among pages of which the first i, with the lead, take `reach i` steps, and the flash F
-- then: in the lead; between two pages, or after the last, where the pages before hold the image; or where a
-- page is under way.
pub data Standing (size : ℕ) (ps : List Page) (f : List ℕ) (reach : ℕ → ℕ) (n : ℕ) (F : List ℕ) : Type 0 where
  leading : n < reach 0 → F ≡ f → Standing size ps f reach n F
  between : (j : ℕ) → j ≤ length ps → reach j ≤ n → (j < length ps → (n ≤ reach j) × (n < reach (suc j)))
      → F ≡ with_pages size (take j ps) f → Standing size ps f reach n F
  underway : (j : ℕ) (p : Page) (after : List Page) → drop j ps ≡ p ∷ after → reach j < n → n < reach (suc j)
      → Mid size p (with_pages size (take j ps) f) F → Standing size ps f reach n F

-- where steps fall among pages, with one page more before the others
shift : (size : ℕ) (p : Page) (ps : List Page) (f g F : List ℕ) (R S : ℕ → ℕ) (m n k : ℕ) → g ≡ with_page size p.number p.bytes f → n ≡ m + k
    → ((i : ℕ) → R (suc i) ≡ m + S i) → S 0 ≡ 0 → Standing size ps g S k F → Standing size (p ∷ ps) f R n F
unfolding with_pages
shift size p ps f g F R S m n k eg en er z (leading h e) = absurd (omega (arith, z))
shift size p ps f g F R S m n k eg en er z (between j hj hr hn e) =
    between (suc j) (omega arith) (omega (arith, er j))
    (λ h. let x = hn (omega arith) in (omega (arith, er j, x.0), omega (arith, er (suc j), x.1)))
    (e ∙ ap (λ (x : List ℕ). with_pages size (take j ps) x) eg)
shift size p ps f g F R S m n k eg en er z (underway j q after hd h1 h2 mid) =
    underway (suc j) q after hd (omega (arith, er j)) (omega (arith, er (suc j)))
    (subst (λ (x : List ℕ). Mid size q (with_pages size (take j ps) x) F) eg mid)

module _ (u : Setup) (l r : ℕ) where
  abbrev conv : List Act → Exchange
  conv acts = conversation (limits l r) acts

  abbrev acts_of : List Page → List Act
  acts_of ps = joined (map (page_acts u.settings) ps)

  abbrev over_target : List Act → Target → List ℕ → Target
  over_target acts t f = (played_out (stepped u) (conv acts) t f).target

  abbrev over_flash : List Act → Target → List ℕ → List ℕ
  over_flash acts t f = (played_out (stepped u) (conv acts) t f).flash

  -- the steps that the first i pages take
  abbrev pub reach : List Page → Target → List ℕ → ℕ → ℕ
  reach ps t f i = duration (stepped u) (conv (acts_of (take i ps))) t f

  module _ (fit : Fit u l r) (m : Met) (ready : prepared u.wanted m ≡ true) (B : ℕ) (whole : u.settings.size ≡ 256 * B) (some : 1 ≤ B) (few : u.settings.size * u.settings.count ≤ 65536) where
    abbrev size : ℕ
    size = u.settings.size

    reach_suc : (p : Page) (ps : List Page) (t : Target) (f : List ℕ) (i : ℕ) → outcome_of (played_out (stepped u) (conv (page_acts u.settings p)) t f).left ≡ outcome done
        → reach (p ∷ ps) t f (suc i)
        ≡ duration (stepped u) (conv (page_acts u.settings p)) t f + reach ps (over_target (page_acts u.settings p) t f) (over_flash (page_acts u.settings p) t f) i
    unfolding joined
    reach_suc p ps t f i d =
        ap (λ (e : Exchange). duration (stepped u) e t f) (onto_acts (limits l r) (page_acts u.settings p) (acts_of (take i ps)) (refuses_page u.settings p))
        ∙ onto_duration (stepped u) (conv (page_acts u.settings p)) (conv (acts_of (take i ps))) t f d

    -- acts after the pages that leave the flash
    abbrev pub Still : List Act → Type 0
    Still tail = (t : Target) (f : List ℕ) → Between m t → (n : ℕ) → (played (stepped u) n (conv tail) t f).flash ≡ f

    pub pages_stand : (ps : List Page) (tail : List Act) → Still tail → (t : Target) (f : List ℕ) → Between m t → AllFit u.settings ps
        → length f ≡ size * u.settings.count → (n : ℕ)
        → Standing size ps f (reach ps t f) n (played (stepped u) n (conv (acts_of ps ++ tail)) t f).flash
    unfolding joined with_pages conversation duration AllFit played
    pages_stand [] tail still t f b fits ef n = between 0 (omega arith) (omega arith) (λ h. absurd (omega arith)) (still t f b n)
    pages_stand (p ∷ ps) tail still t f b fits ef n =
        by_test (ltb n steps) (λ e. subst⁻¹ at_n (ap (λ (y : Exchange). (played (stepped u) n y t f).flash) split ∙ onto_before (stepped u) n (conv A) (conv X) t f (ltb-true n steps e)) (first n (ltb-true n steps e)))
        (λ e. later (ltb-false n steps e)
        (λ k. pages_stand ps tail still (over_target A t f) (over_flash A t f) h.between fits.1 (ap length h.holds ∙ put_length u.settings p f fits.0 ef) k))
      where
        A : List Act
        A = page_acts u.settings p

        X : List Act
        X = acts_of ps ++ tail

        steps : ℕ
        steps = duration (stepped u) (conv A) t f

        at_n : List ℕ → Type 0
        at_n F = Standing size (p ∷ ps) f (reach (p ∷ ps) t f) n F

        split : conv (acts_of (p ∷ ps) ++ tail) ≡ onto (conv A) (conv X)
        split = ap conv (append_assoc A (acts_of ps) tail) ∙ onto_acts (limits l r) A X (refuses_page u.settings p)

        way : leads u (outcome done) (Mid size p f) (Held m size p f) (conv A) t f
        way = page_leads u l r fit m ready B whole some few p t f b fits.0 ef

        d : outcome_of (played_out (stepped u) (conv A) t f).left ≡ outcome done
        d = leads_outcome (stepped u) (outcome done) (Mid size p f) (Held m size p f) (conv A) t f way

        h : Held m size p f (over_target A t f) (over_flash A t f)
        h = leads_end (stepped u) (outcome done) (Mid size p f) (Held m size p f) (conv A) t f way

        one : reach (p ∷ ps) t f 1 ≡ steps
        one =
            let z : reach ps (over_target A t f) (over_flash A t f) 0 ≡ 0 = refl in
            let q = reach_suc p ps t f 0 d in
            omega (arith, q, z)

        first : (k : ℕ) → k < steps → Standing size (p ∷ ps) f (reach (p ∷ ps) t f) k (played (stepped u) k (conv A) t f).flash
        first zero hm = between 0 (omega arith) (omega arith) (λ _. (omega arith, omega (arith, one))) refl
        first (suc k) hm =
            underway 0 p ps refl (omega arith) (omega (arith, one)) (leads_way (stepped u) (outcome done) (Mid size p f) (Held m size p f) (suc k) (conv A) t f way hm)

        later : steps ≤ n
            → ((k : ℕ) → Standing size ps (over_flash A t f) (reach ps (over_target A t f) (over_flash A t f)) k (played (stepped u) k (conv X) (over_target A t f) (over_flash A t f)).flash)
            → at_n (played (stepped u) n (conv (acts_of (p ∷ ps) ++ tail)) t f).flash
        later hm rest =
            let k : ℕ = n - steps in
            let en : n ≡ steps + k = omega arith in
            let same : (played (stepped u) n (conv (acts_of (p ∷ ps) ++ tail)) t f).flash ≡ (played (stepped u) k (conv X) (over_target A t f) (over_flash A t f)).flash =
            ap (λ (y : Exchange). (played (stepped u) n y t f).flash) split ∙ onto_after (stepped u) n k (conv A) (conv X) t f d en in
            subst⁻¹ at_n same
            (shift size p ps f (over_flash A t f) _ (reach (p ∷ ps) t f) (reach ps (over_target A t f) (over_flash A t f)) steps n k h.holds en (λ i. reach_suc p ps t f i d) refl (rest k))

-- The whole run: how the pages, the order up to some of them, and the order end.
use mathlib.Core.Path.{◌≡◌, refl, sym, ap, ◌∙◌, subst, subst⁻¹}
use mathlib.Core.Bool.{true, false}
use mathlib.Core.List.{List, [], ◌∷◌, ◌++◌, map, append_assoc}
use Prim.Native.Nat.{ℕ, ◌*◌, ◌≤◌}
use lib.ListN.{length}
use Rattle.numbers.specs.Numbers.{done}
use Rattle.c2_wire.specs.Exchange.{Exchange, outcome, outcome_of}
use Rattle.c2_wire.specs.Frames.{strobes}
use Rattle.settings.specs.declared.Settings.{Settings}
use Rattle.settings.specs.Registers.{pairs_of}
use Rattle.c2_order.specs.Acts.{Act, reset_pulse}
use Rattle.c2_order.specs.Order.{Page, joined, preparation, page_acts, order}
use Rattle.c2_order.specs.Conversation.{limits, conversation}
use Rattle.c2_target.specs.declared.Met.{Met}
use Rattle.c2_target.specs.declared.Target.{Target}
use Rattle.c2_target.specs.Delays.{Setup}
use Rattle.c2_target.specs.Interface.{prepared}
use Rattle.c2_target.proofs.Laws.Wanted.{prepared_is}
use Rattle.c2_target.specs.Target.{stepped, after_reset}
use Rattle.c2_play.specs.Playing.{Played, played}
use Rattle.c2_play.proofs.Laws.Playing.{duration, played_out}
use Rattle.c2_play.proofs.Laws.Named.{AllFit, put_length}
use Rattle.c2_play.proofs.Laws.Programmed.{Prepares, Programmed}
use Rattle.c2_play.proofs.Laws.Interface.{Fit}
use Rattle.c2_play.specs.Pages.{with_page, with_pages, up_to}
use Rattle.c2_play.proofs.Laws.Onto.{Refuses, onto_acts}
use Rattle.c2_play.proofs.Laws.Leads.{after_replies, leads_outcome, leads_end, onto_played}
use Rattle.c2_play.proofs.Laws.Frames.{leads}
use Rattle.c2_play.proofs.Laws.Refuses.{refuses_page, refuses_preparation, refuses_up_to}
use Rattle.c2_play.proofs.Laws.Page.{Between, Mid, Held, page_leads}
use Rattle.c2_play.proofs.Laws.Lead.{Led, met_by_pairs, preparation_leads}

-- a run has ended done, between two commands, with these wanted pairs met and with this flash
pub record Ran (m : Met) (F : List ℕ) (x : Played) : Type 0 where
  pub ended : outcome_of x.left ≡ outcome done
  pub between : Between m x.target
  pub holds : x.flash ≡ F

-- the acts of pages in a row are the acts of the first and those of the others
pub acts_append : (s : Settings) (ps qs : List Page) → joined (map (page_acts s) (ps ++ qs)) ≡ joined (map (page_acts s) ps) ++ joined (map (page_acts s) qs)
unfolding joined
acts_append s [] qs = refl
acts_append s (p ∷ ps) qs =
    ap (λ (x : List Act). page_acts s p ++ x) (acts_append s ps qs)
    ∙ sym (append_assoc (page_acts s p) (joined (map (page_acts s) ps)) (joined (map (page_acts s) qs)))

module _ (u : Setup) (l r : ℕ) (fit : Fit u l r) where
  abbrev conv : List Act → Exchange
  conv acts = conversation (limits l r) acts

  abbrev acts_of : List Page → List Act
  acts_of ps = joined (map (page_acts u.settings) ps)

  abbrev run : List Act → Target → List ℕ → Played
  run acts t f = played_out (stepped u) (conv acts) t f

  -- the run of acts in a row is the run of the first, and from there that of the others
  run_append : (xs ys : List Act) (t : Target) (f : List ℕ) → Refuses xs → outcome_of (run xs t f).left ≡ outcome done
      → run (xs ++ ys) t f ≡ after_replies (run xs t f).replies (run ys (run xs t f).target (run xs t f).flash)
  run_append xs ys t f h d =
      ap (λ (e : Exchange). played_out (stepped u) e t f) (onto_acts (limits l r) xs ys h) ∙ onto_played (stepped u) (conv xs) (conv ys) t f d

  -- the replies before it make no difference to how a run ends
  ran_on : (rs : List ℕ) {m : Met} {F : List ℕ} {x : Played} → Ran m F x → Ran m F (after_replies rs x)
  ran_on rs h = record { ended = h.ended; between = h.between; holds = h.holds }

  -- where the pairs of the settings leave the wanted values, the device is prepared once they are sent
  pub ready_by_pairs : Prepares u → prepared u.wanted (met_by_pairs u) ≡ true
  ready_by_pairs leaves = prepared_is u.settings.fpdat u.wanted (pairs_of u.settings.pairs) fit.wanted ∙ leaves

  module _ (leaves : Prepares u) (B : ℕ) (whole : u.settings.size ≡ 256 * B) (some : 1 ≤ B) (few : u.settings.size * u.settings.count ≤ 65536) where
    abbrev m : Met
    m = met_by_pairs u

    ready : prepared u.wanted m ≡ true
    ready = ready_by_pairs leaves

    abbrev size : ℕ
    size = u.settings.size

    abbrev full : List ℕ → Type 0
    full f = length f ≡ size * u.settings.count

    pub pages_run : (ps : List Page) (t : Target) (f : List ℕ) → Between m t → AllFit u.settings ps → full f → Ran m (with_pages size ps f) (run (acts_of ps) t f)
    unfolding joined conversation played duration outcome_of with_pages AllFit
    pages_run [] t f b fits ef = record { ended = refl; between = b; holds = refl }
    pages_run (p ∷ ps) t f b fits ef =
        let A : List Act = page_acts u.settings p in
        let way : leads u (outcome done) (Mid size p f) (Held m size p f) (conv A) t f = page_leads u l r fit m ready B whole some few p t f b fits.0 ef in
        let d = leads_outcome (stepped u) (outcome done) (Mid size p f) (Held m size p f) (conv A) t f way in
        let h = leads_end (stepped u) (outcome done) (Mid size p f) (Held m size p f) (conv A) t f way in
        let rest = pages_run ps (run A t f).target (run A t f).flash h.between fits.1 (ap length h.holds ∙ put_length u.settings p f fits.0 ef) in
        subst⁻¹ (Ran m (with_pages size ps (with_page size p.number p.bytes f))) (run_append A (acts_of ps) t f (refuses_page u.settings p) d)
        (ran_on (run A t f).replies (subst (λ (x : List ℕ). Ran m (with_pages size ps x) (run (acts_of ps) (run A t f).target (run A t f).flash)) h.holds rest))

    pub up_to_run : (ps : List Page) (t : Target) (f : List ℕ) → t.collision ≡ false → AllFit u.settings ps → full f
        → Ran m (with_pages size ps f) (run (up_to u.settings ps) t f)
    up_to_run ps t f hm fits ef =
        let A : List Act = preparation u.settings in
        let way : leads u (outcome done) (λ F. F ≡ f) (Led m f) (conv A) t f = preparation_leads u l r fit t f hm in
        let d = leads_outcome (stepped u) (outcome done) (λ F. F ≡ f) (Led m f) (conv A) t f way in
        let h = leads_end (stepped u) (outcome done) (λ F. F ≡ f) (Led m f) (conv A) t f way in
        let rest = pages_run ps (run A t f).target (run A t f).flash h.between fits (ap length h.same ∙ ef) in
        subst⁻¹ (Ran m (with_pages size ps f)) (run_append A (acts_of ps) t f (refuses_preparation u.settings) d)
        (ran_on (run A t f).replies (subst (λ (x : List ℕ). Ran m (with_pages size ps x) (run (acts_of ps) (run A t f).target (run A t f).flash)) h.same rest))

    -- demand 3's end, over any pages
    pub order_programs : (ps : List Page) (t : Target) (f : List ℕ) → t.collision ≡ false → AllFit u.settings ps → full f
        → Programmed (with_pages size ps f) (run (order u.settings ps) t f)
    unfolding order
    order_programs ps t f hm fits ef =
        let A : List Act = up_to u.settings ps in
        let x = up_to_run ps t f hm fits ef in
        subst⁻¹ (Programmed (with_pages size ps f)) (run_append A (reset_pulse ∷ []) t f (refuses_up_to u.settings ps) x.ended)
        (let y = last (run A t f).target (run A t f).flash x.between x.holds in record { ended = y.ended; holds = y.holds; clean = y.clean })
      where
        last : (t₁ : Target) (f₁ : List ℕ) → Between m t₁ → f₁ ≡ with_pages size ps f → Programmed (with_pages size ps f) (run (reset_pulse ∷ []) t₁ f₁)
        last t₁ f₁ b e = unfold conversation strobes played duration outcome_of stepped after_reset in record { ended = refl; holds = e; clean = ap (λ (y : Target). y.collision) b.is }

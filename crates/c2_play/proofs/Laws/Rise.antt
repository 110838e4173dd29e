-- Pages whose numbers rise, and those from a first one on: they fit, and no number stands twice.
use mathlib.Core.Path.{◌≡◌, refl, ap, subst}
use mathlib.Core.List.{List, [], ◌∷◌}
use Prim.Native.Nat.{ℕ, zero, suc, ◌+◌, ◌*◌, ◌<◌, ◌≤◌}
use native.Mathlib.Omega.{arith}
use lib.ListN.{length, take, drop, length-drop}
use lib.Seq.{length-take-le}
use Rattle.laws.specs.Bytes.{Bytes}
use Rattle.c2_wire.proofs.Laws.Bits.{bytes_take, bytes_drop}
use Rattle.settings.specs.declared.Settings.{Settings}
use Rattle.c2_order.specs.Order.{Page, pages, rising}
use Rattle.c2_play.specs.Pages.{At}
use Rattle.c2_play.proofs.Laws.Named.{Fits, Named, AllFit}

pub nothing_at : (i : ℕ) (p : Page) → At [] i p → ⊥
nothing_at zero p a = none a.is
  where
    none : [] ≡ p ∷ a.later → ⊥
    none e = let z : ◌≡◌ {A = ℕ} 0 1 = cc in omega arith
nothing_at (suc i) p a = none a.is
  where
    none : [] ≡ p ∷ a.later → ⊥
    none e = let z : ◌≡◌ {A = ℕ} 0 1 = cc in omega arith

-- pages fit, if the page at each place does
pub all_at : (s : Settings) (ps : List Page) → ((i : ℕ) (p : Page) → At ps i p → Fits s p) → AllFit s ps
unfolding AllFit
all_at s [] h = tt
all_at s (p ∷ ps) h = (h 0 p (record { later = ps; is = refl }), all_at s ps (λ i q a. h (suc i) q (record { later = a.later; is = a.is })))

-- Numbers rise from a bound on, each below another (request g: runs that neither fall nor overlap, none past
-- the end; a run is document 02's own term).
unfoldable pub Rise : (from below : ℕ) → List ℕ → Type 0
Rise b c [] = Unit {0}
Rise b c (n ∷ ns) = (b ≤ n) × (n < c) × Rise (suc n) c ns

pub rising_length : (n first : ℕ) → length (rising first n) ≡ n
unfolding rising
rising_length zero first = refl
rising_length (suc n) first = ap suc (rising_length n (suc first))

-- Pages whose numbers rise: each is at least the bound, fits, and no number stands twice.
module _ (s : Settings) where
  above : (ns : List ℕ) (b o : ℕ) (bs : List ℕ) → Rise b s.count ns → (i : ℕ) (p : Page) → At (pages s.size o ns bs) i p → b ≤ p.number
  unfolding pages Rise
  above [] b o bs h i p a = absurd (nothing_at i p a)
  above (n ∷ ns) b o bs h zero p a =
      let e : record { number = n; offset = o; bytes = take s.size bs } ≡ p = cc a.is in
      subst (λ (x : Page). b ≤ x.number) e h.0
  above (n ∷ ns) b o bs h (suc i) p a =
      let x = above ns (suc n) (o + s.size) (drop s.size bs) h.2 i p (record { later = a.later; is = a.is }) in
      omega (arith, x, h.0)

  all_fits : (ns : List ℕ) (b o : ℕ) (bs : List ℕ) → Rise b s.count ns → length ns * s.size ≤ length bs → Bytes bs
      → (i : ℕ) (p : Page) → At (pages s.size o ns bs) i p → Fits s p
  unfolding pages Rise
  all_fits [] b o bs h hl hb i p a = absurd (nothing_at i p a)
  all_fits (n ∷ ns) b o bs h hl hb zero p a =
      let e : record { number = n; offset = o; bytes = take s.size bs } ≡ p = cc a.is in
      subst (Fits s) e (record { number = h.1; whole = length-take-le s.size bs (omega arith); bytes = bytes_take s.size bs hb })
  all_fits (n ∷ ns) b o bs h hl hb (suc i) p a =
      all_fits ns (suc n) (o + s.size) (drop s.size bs) h.2 (rw length-drop (omega arith)) (bytes_drop s.size bs hb) i p
      (record { later = a.later; is = a.is })

  number_once : (ns : List ℕ) (b o : ℕ) (bs : List ℕ) → Rise b s.count ns → (i j : ℕ) (p q : Page) → At (pages s.size o ns bs) i p
      → At (pages s.size o ns bs) j q → p.number ≡ q.number → i ≡ j
  unfolding pages Rise
  number_once [] b o bs h i j p q a c e = absurd (nothing_at i p a)
  number_once (n ∷ ns) b o bs h zero zero p q a c e = refl
  number_once (n ∷ ns) b o bs h zero (suc j) p q a c e =
      let here : n ≡ p.number = let r : record { number = n; offset = o; bytes = take s.size bs } ≡ p = cc a.is in ap (λ (x : Page). x.number) r in
      let past = above ns (suc n) (o + s.size) (drop s.size bs) h.2 j q (record { later = c.later; is = c.is }) in
      absurd (omega (arith, here, past, e))
  number_once (n ∷ ns) b o bs h (suc i) zero p q a c e =
      let here : n ≡ q.number = let r : record { number = n; offset = o; bytes = take s.size bs } ≡ q = cc c.is in ap (λ (x : Page). x.number) r in
      let past = above ns (suc n) (o + s.size) (drop s.size bs) h.2 i p (record { later = a.later; is = a.is }) in
      absurd (omega (arith, here, past, e))
  number_once (n ∷ ns) b o bs h (suc i) (suc j) p q a c e =
      ap suc (number_once ns (suc n) (o + s.size) (drop s.size bs) h.2 i j p q (record { later = a.later; is = a.is }) (record { later = c.later; is = c.is }) e)

  pub rise_named : (ns : List ℕ) (b o : ℕ) (bs : List ℕ) → Rise b s.count ns → length ns * s.size ≤ length bs → Bytes bs
      → Named s (pages s.size o ns bs)
  rise_named ns b o bs h hl hb = record { fits = all_fits ns b o bs h hl hb; once = number_once ns b o bs h }

  rising_rise : (n first b : ℕ) → b ≤ first → first + n ≤ s.count → Rise b s.count (rising first n)
  unfolding Rise rising
  rising_rise zero first b h g = tt
  rising_rise (suc n) first b h g = (h, omega arith, rising_rise n (suc first) (suc first) (omega arith) (omega arith))

  pub rising_named : (n first o : ℕ) (bs : List ℕ) → n * s.size ≤ length bs → Bytes bs → first + n ≤ s.count
      → Named s (pages s.size o (rising first n) bs)
  rising_named n first o bs hl hb hc =
      rise_named (rising first n) 0 o bs (rising_rise n first 0 (omega arith) hc) (rw (rising_length n first) hl) hb

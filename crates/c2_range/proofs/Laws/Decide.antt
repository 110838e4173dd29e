-- What the tests of settings and pages decide.
use mathlib.Core.Path.{◌≡◌, sym, ◌∙◌}
use mathlib.Core.Bool.{Bool, true, false}
use Prim.Native.Nat.{ℕ, ◌+◌, ◌*◌, ◌<◌, ◌≤◌}
use native.Mathlib.Nat.{mul-div_right, mul-mod_right, le-mul_of_pos_right}
use native.Mathlib.Omega.{arith}
use borrow.Author.Tests.{le-leb, eqb-true, eq-eqb, ne_eqb}
use lib.Dec.{eqb}
use Rattle.laws.proofs.Tests.{by_test}
use Rattle.settings.specs.declared.Settings.{Settings}
use Rattle.settings.specs.Accepted.{settings_refusal}
use Rattle.settings.specs.Registers.{is_tidy}
use Rattle.settings.specs.Opening.{is_image, are_pages, opening_refusal}
use Rattle.settings.proofs.Laws.Accepted.{facts}
use Rattle.c2_range.specs.Range.{opening_in_range}
use Rattle.c2_range.specs.Code.Bounds.{inside}
use Rattle.c2_range.proofs.Laws.Range.{opening_passes}

module _ (t : Settings) (first pages : ℕ) where
  refused : (opening_refusal t first (t.size * pages) ≡ 0 → ⊥) → false ≡ opening_in_range t first pages
  refused h = rw (ne_eqb (opening_refusal t first (t.size * pages)) 0 h)

  pub no_pages : pages ≡ 0 → false ≡ opening_in_range t first pages
  no_pages e = refused (λ h. omega (arith, (opening_passes t first pages h).image))

  pub past_the_last : t.count < first + pages → false ≡ opening_in_range t first pages
  past_the_last h = refused (λ e. omega (arith, (opening_passes t first pages e).inside))

  settings_decide : (pages ≡ 0 → ⊥) → first + pages ≤ t.count → (n : ℕ) → n ≡ settings_refusal t
      → eqb n 0 ≡ eqb (opening_refusal t first (t.size * pages)) 0
  unfolding opening_refusal is_image are_pages
  settings_decide some inside n e = rw e (by_test (eqb (settings_refusal t) 0) pass (λ p. rw (p, p)))
    where
      pass : eqb (settings_refusal t) 0 ≡ true → eqb (settings_refusal t) 0 ≡ eqb (opening_refusal t first (t.size * pages)) 0
      pass p =
          let f = facts t (eqb-true _ 0 p) in
          let z : 0 < t.size = omega (arith, f.size, f.some) in
          let b : 1 ≤ t.size * pages = omega (arith, le-mul_of_pos_right {m = pages} t.size (omega arith)) in
          rw (
            p,
            le-leb 1 (t.size * pages) b,
            mul-mod_right t.size pages,
            mul-div_right pages {m = t.size} z,
            le-leb (first + pages) t.count inside,
          )

  -- the test of settings has failed, or that of the entries that are not named decides
  module _ (some : pages ≡ 0 → ⊥) (inside : first + pages ≤ t.count) (n : ℕ) (e : n ≡ settings_refusal t) where
    pub settings_fail : (n ≡ 0 → ⊥) → false ≡ opening_in_range t first pages
    settings_fail h = rw (sym (settings_decide some inside n e) ∙ ne_eqb n 0 h)

    pub unnamed_decides : n ≡ 0 → (b : Bool) → b ≡ is_tidy t.pairs → b ≡ opening_in_range t first pages
    unnamed_decides h b k = rw (sym (settings_decide some inside n e) ∙ eq-eqb n 0 h) k

pub ruleset decides = (no_pages, past_the_last, settings_fail, unnamed_decides)

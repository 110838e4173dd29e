-- What an opening answers and leaves, at each of its returns, as c2_calls says it (`done C2`).
use mathlib.Core.Path.{◌≡◌, refl, sym}
use mathlib.Core.List.{List}
use Prim.Native.Nat.{ℕ}
use native.Mathlib.Omega.{arith}
use borrow.Author.Tests.{eq-eqb, ne_eqb}
use lib.ListN.{length}
use Rattle.numbers.specs.declared.Refusal.{Refusal}
use Rattle.numbers.specs.Numbers.{refusal_number}
use Rattle.numbers.proofs.Refused.{refused}
use Rattle.c2_wire.specs.Step.{code}
use Rattle.settings.specs.declared.Settings.{Settings}
use Rattle.settings.specs.Opening.{opening_refusal}
use Rattle.c2_record.specs.Record.{packed}
use Rattle.exchange.specs.Calls.{call_done}
use Rattle.c2_opening.specs.Opened.{opened_session}
use Rattle.c2_calls.specs.Calls.{opening, opening_number, refusal, untouched, does}
use Rattle.c2_calls.specs.Family.{C2}

-- number and record after an opening
abbrev pub Opens : Settings → (first : ℕ) → (image record₀ : List ℕ) → (number : ℕ) → (record₁ : List ℕ) → Type 0
Opens t first image r n r₁ = (n ≡ refusal (opening r image t first)) × (r₁ ≡ (call_done C2 (opening r image t first)).held)

module _ (t : Settings) (first : ℕ) (image r : List ℕ) where
  pub refuses_size : (length r ≡ 32 → ⊥) → Opens t first image r 6 r
  unfolding call_done refusal untouched opening_number
  refuses_size h = rw (ne_eqb (length r) 32 h) (refl, refl)

  module _ (h : length r ≡ 32) where
    pub refuses_opening : (e : Refusal) → refusal_number e ≡ opening_refusal t first (length image) → Opens t first image r (refusal_number e) r
    unfolding call_done refusal untouched opening_number
    refuses_opening e k =
        let z = refused e in
        rw (eq-eqb (length r) 32 h, sym k, ne_eqb (refusal_number e) 0 (λ q. omega arith)) (refl, refl)

    pub opens : 0 ≡ opening_refusal t first (length image) → (p : List ℕ) → p ≡ packed (opened_session t first (length image)) → Opens t first image r 0 p
    unfolding call_done refusal does opening_number
    opens k p q = rw (eq-eqb (length r) 32 h, sym k) (refl, q)

  -- the answer goes by the number
  pub answers_refused : (e : Refusal) → refusal_number e ≡ refusal (opening r image t first)
      → record { number = refusal_number e; step = 6 } ≡ (call_done C2 (opening r image t first)).answer
  unfolding call_done untouched code
  answers_refused e k = let z = refused e in rw (← k, ne_eqb (refusal_number e) 0 (λ q. omega arith))

  pub answers_opened : 0 ≡ refusal (opening r image t first) → record { number = 0; step = 4 } ≡ (call_done C2 (opening r image t first)).answer
  unfolding call_done does code
  answers_opened k = rw (← k)

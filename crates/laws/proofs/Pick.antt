-- Laws of `cond` at a test, for `search`: a value is what a definition by tests gives, where the fact of the
-- test is at hand.
use Prim.Native.Nat.{ℕ, ◌<◌, ◌≤◌}
use mathlib.Core.Path.{◌≡◌, sym, ◌∙◌}
use mathlib.Core.Bool.{Bool, true, false, cond}
use lib.Dec.{ltb, leb, eqb}
use borrow.Author.Tests.{lt-ltb, le-ltb, le-leb, lt-leb, eq-eqb, ne_eqb}

pub pick_true : {A : Type 0} (t : Bool) (z x y : A) → t ≡ true → z ≡ x → z ≡ cond t x y
pick_true t z x y p e = rw p e

pub pick_false : {A : Type 0} (t : Bool) (z x y : A) → t ≡ false → z ≡ y → z ≡ cond t x y
pick_false t z x y p e = rw p e

pub pick_lt : {A : Type 0} (a b : ℕ) (z x y : A) → a < b → z ≡ x → z ≡ cond (ltb a b) x y
pick_lt a b z x y p e = pick_true (ltb a b) z x y (lt-ltb a b p) e

pub pick_ge : {A : Type 0} (a b : ℕ) (z x y : A) → b ≤ a → z ≡ y → z ≡ cond (ltb a b) x y
pick_ge a b z x y p e = pick_false (ltb a b) z x y (le-ltb a b p) e

pub pick_le : {A : Type 0} (a b : ℕ) (z x y : A) → a ≤ b → z ≡ x → z ≡ cond (leb a b) x y
pick_le a b z x y p e = pick_true (leb a b) z x y (le-leb a b p) e

pub pick_gt : {A : Type 0} (a b : ℕ) (z x y : A) → b < a → z ≡ y → z ≡ cond (leb a b) x y
pick_gt a b z x y p e = pick_false (leb a b) z x y (lt-leb a b p) e

pub pick_eq : {A : Type 0} (a b : ℕ) (z x y : A) → a ≡ b → z ≡ x → z ≡ cond (eqb a b) x y
pick_eq a b z x y p e = pick_true (eqb a b) z x y (eq-eqb a b p) e

pub pick_ne : {A : Type 0} (a b : ℕ) (z x y : A) → (a ≡ b → ⊥) → z ≡ y → z ≡ cond (eqb a b) x y
pick_ne a b z x y p e = pick_false (eqb a b) z x y (ne_eqb a b p) e

-- a test that is what a call gave
pub pick_call_true : {A : Type 0} (b t : Bool) (z x y : A) → b ≡ t → b ≡ true → z ≡ x → z ≡ cond t x y
pick_call_true b t z x y p q e = pick_true t z x y (sym p ∙ q) e

pub pick_call_false : {A : Type 0} (b t : Bool) (z x y : A) → b ≡ t → b ≡ false → z ≡ y → z ≡ cond t x y
pick_call_false b t z x y p q e = pick_false t z x y (sym p ∙ q) e

-- a number tested against what a call gave
pub pick_lt_call : {A : Type 0} (a b d : ℕ) (z x y : A) → b ≡ d → a < b → z ≡ x → z ≡ cond (ltb a d) x y
pick_lt_call a b d z x y q p e = pick_lt a d z x y (rw q at p) e

pub pick_ge_call : {A : Type 0} (a b d : ℕ) (z x y : A) → b ≡ d → b ≤ a → z ≡ y → z ≡ cond (ltb a d) x y
pick_ge_call a b d z x y q p e = pick_ge a d z x y (rw q at p) e

pub pick_eq_call : {A : Type 0} (a b d : ℕ) (z x y : A) → b ≡ d → b ≡ a → z ≡ x → z ≡ cond (eqb d a) x y
pick_eq_call a b d z x y q p e = pick_eq d a z x y (sym q ∙ p) e

pub pick_ne_call : {A : Type 0} (a b d : ℕ) (z x y : A) → b ≡ d → (b ≡ a → ⊥) → z ≡ y → z ≡ cond (eqb d a) x y
pick_ne_call a b d z x y q p e = pick_ne d a z x y (λ h. p (q ∙ h)) e

pub ltb_call : (a b d : ℕ) → b ≡ d → ltb a b ≡ ltb a d
ltb_call a b d q = rw q

pub ruleset picks = (pick_lt, pick_ge, pick_le, pick_gt, pick_eq, pick_ne, pick_true, pick_false, pick_call_true, pick_call_false, pick_lt_call, pick_ge_call, pick_eq_call, pick_ne_call, ltb_call)

-- A step of a state that exists is not refused; and such a state is left so by any step, refused or not, and by
-- any steps in a row.
use mathlib.Core.Path.{◌≡◌, refl}
use mathlib.Core.Bool.{true, false}
use mathlib.Core.List.{List, [], ◌∷◌}
use Prim.Native.Nat.{ℕ}
use lib.Dec.{eqb}
use Rattle.laws.proofs.Tests.{by_test}
use Rattle.laws.specs.Bytes.{Bytes}
use Rattle.c2_wire.specs.Step.{Step, released, driven, reset, pause, off, code}
use Rattle.settings.specs.Accepted.{settings_refusal}
use Rattle.settings.specs.Registers.{are_pairs}
use Rattle.c2_target.specs.declared.Target.{Target}
use Rattle.c2_target.specs.Delays.{Setup}
use Rattle.c2_target.specs.Known.{known}
use Rattle.c2_target.specs.Target.{is_step, step_coded, setup_refusal, step_refusal, answer, flash_after}
use Rattle.c2_target.specs.Steps.{left_by}
use Rattle.c2_target.proofs.Laws.Known.{Lent, known_says, known_is, stepped_known}

-- the byte of a step is a step's
pub is_step_code : (s : Step) → is_step (code s) ≡ true
unfolding is_step code
is_step_code released = refl
is_step_code (driven false) = refl
is_step_code (driven true) = refl
is_step_code reset = refl
is_step_code pause = refl
is_step_code off = refl

-- settings that pass, with wanted pairs that pass, are not refused
pub setup_accepted : (u : Setup) → settings_refusal u.settings ≡ 0 → are_pairs u.settings.fpdat u.wanted ≡ true → setup_refusal u ≡ 0
unfolding setup_refusal
setup_accepted u s w = rw (s, w)

-- with settings and wanted pairs that pass, a step of a state that exists is not refused
pub not_refused : (u : Setup) (t : Target) (f : List ℕ) (x : ℕ) → setup_refusal u ≡ 0 → known u t f ≡ true → is_step x ≡ true
    → step_refusal u t f x ≡ 0
unfolding step_refusal
not_refused u t f x s k h = rw (s, k, h)

-- a state exists, and the flash is bytes
pub record Lasts (u : Setup) (t : Target) (f : List ℕ) : Type 0 where
  pub bytes : Bytes f
  pub exists : known u t f ≡ true

pub answer_lasts : (u : Setup) → Lent u → (t : Target) (f : List ℕ) (x : ℕ) → Lasts u t f → Lasts u (answer u t f x).target (flash_after u t f x)
unfolding answer flash_after
answer_lasts u lent t f x k =
    let y = stepped_known u lent t f (step_coded x) k.bytes (known_says u t f k.exists) in
    by_test (eqb (step_refusal u t f x) 0) (λ e. rw e (record { bytes = y.bytes; exists = known_is u _ _ y.exists })) (λ e. rw e k)

-- a state that exists is left so by any bytes for steps
pub left_lasts : (u : Setup) → Lent u → (xs : List ℕ) (t : Target) (f : List ℕ) → Lasts u t f → Lasts u (left_by u t f xs).target (left_by u t f xs).flash
unfolding left_by
left_lasts u lent [] t f k = k
left_lasts u lent (x ∷ xs) t f k = left_lasts u lent xs (answer u t f x).target (flash_after u t f x) (answer_lasts u lent t f x k)

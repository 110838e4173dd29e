-- What is claimed of the modelled target besides its corners. A type alone: proofs/Laws/Mark proves it.
use Rattle.std.specs.Prelude.{◌≡◌, true, List, ℕ}
use Rattle.c2_target.specs.declared.Target.{Target}
use Rattle.c2_target.specs.Delays.{Setup}
use Rattle.c2_target.specs.Steps.{left_by}

-- A collision mark is for good: a target once marked stays marked, whatever the steps, refused ones too.
abbrev pub MarkStays : Type 0
MarkStays = (u : Setup) (t : Target) (f steps : List ℕ) → t.collision ≡ true → (left_by u t f steps).target.collision ≡ true

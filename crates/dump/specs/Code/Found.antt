-- For the code: what the quick form finds, and the answer in C that it comes to.
use Rattle.std.specs.Prelude.{◌≡◌, List, ℕ, ◌<◌, Option, None, Some, IfSome}
use Rattle.dump_ranges.specs.declared.DifferenceFound.{DifferenceFound}
use Rattle.dump_ranges.specs.Answers.{first_found}

-- the answer of a page and the offset in it, or that there is no difference
abbrev pub told : Option (ℕ × ℕ) → DifferenceFound
told None = record { number = 0; differs = 0; page = 0; offset = 0 }
told (Some p) = record { number = 0; differs = 1; page = p.0; offset = p.1 }

pub record FirstFound (size : ℕ) (a b : List ℕ) (found : Option (ℕ × ℕ)) : Type 0 where
  pub same : told found ≡ first_found size a b
  pub in_page : IfSome found (λ p. p.1 < size)

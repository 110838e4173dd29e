-- For the code: how far two dumps go on being equal, or differing. Nothing here needs to be believed: of
-- proofs/Laws, `Listing` joins it to the ranges that are listed, `Pages` to the pages that the quick form
-- goes over, and `Stretch` has the laws of a stretch that grows.
use Rattle.std.specs.Prelude.{◌≡◌, Bool, List, ℕ, ◌<◌, ◌≤◌, length, get_or, ◌==◌, Option, None, Some, IfSome}

-- the bytes are equal, or differ, at every place from one up to another
abbrev pub Equal : (a b : List ℕ) → (from to : ℕ) → Type 0
Equal a b from to = (k : ℕ) → from ≤ k → k < to → get_or a k 0 ≡ get_or b k 0

abbrev pub Differing : (a b : List ℕ) → (from to : ℕ) → Type 0
Differing a b from to = (k : ℕ) → from ≤ k → k < to → get_or a k 0 ≡ get_or b k 0 → ⊥

-- up to where the first place is looked for: the place found, or the end where there is none
abbrev pub reached : (end : ℕ) → Option ℕ → ℕ
reached end None = end
reached end (Some i) = i

-- the first place from `from` on that differs, where there is one
pub record DifferenceAt (a b : List ℕ) (from : ℕ) (found : Option ℕ) : Type 0 where
  pub since : from ≤ reached (length a) found
  pub equal : Equal a b from (reached (length a) found)
  pub differs : IfSome found (λ i. (i < length a) × (get_or a i 0 ≡ get_or b i 0 → ⊥))

-- a place up to which all is equal
pub record Passed (a b : List ℕ) (from place : ℕ) : Type 0 where
  pub since : from ≤ place
  pub within : place ≤ length a
  pub equal : Equal a b from place

-- the end of the range that starts at `from`
pub record EndAt (a b : List ℕ) (from place : ℕ) : Type 0 where
  pub since : from < place
  pub within : place ≤ length a
  pub differing : Differing a b from place
  pub ended : place < length a → get_or a place 0 ≡ get_or b place 0

-- the first place from `from` on where the bytes are equal, or where they differ, as asked, before `to`, where
-- there is one
pub record FirstPlace (equal : Bool) (a b : List ℕ) (from to : ℕ) (found : Option ℕ) : Type 0 where
  pub since : from ≤ reached to found
  pub passed : (k : ℕ) → from ≤ k → k < reached to found → (get_or a k 0 == get_or b k 0) ≡ equal → ⊥
  pub here : IfSome found (λ i. (i < to) × ((get_or a i 0 == get_or b i 0) ≡ equal))

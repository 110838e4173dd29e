-- Laws of the numbers of ranges in a row.
use mathlib.Core.Path.{◌≡◌, refl, ap, ◌∙◌}
use mathlib.Core.List.{List, [], ◌∷◌, ◌++◌, append_assoc}
use Prim.Native.Nat.{ℕ, ◌*◌}
use native.Mathlib.Omega.{arith}
use lib.ListN.{length}
use Rattle.dump_ranges.specs.Ranges.{Range, range, listed}

listed_append : (rs qs : List Range) → listed (rs ++ qs) ≡ listed rs ++ listed qs
unfolding listed
listed_append [] qs = refl
listed_append (r ∷ rs) qs = ap (λ (l : List ℕ). r.start ∷ r.length ∷ l) (listed_append rs qs)

pub listed_length : (rs : List Range) → length (listed rs) ≡ 2 * length rs
unfolding listed
listed_length [] = refl
listed_length (r ∷ rs) = let e = listed_length rs in omega arith

pub listed_more : (rs : List Range) (list : List ℕ) (s n : ℕ) → listed (rs ++ (range s n ∷ [])) ++ list ≡ listed rs ++ (s ∷ n ∷ list)
unfolding listed
listed_more rs list s n = ap (λ (t : List ℕ). t ++ list) (listed_append rs (range s n ∷ [])) ∙ append_assoc (listed rs) (s ∷ n ∷ []) list

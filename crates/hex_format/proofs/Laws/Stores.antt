-- Laws of a list that a loop writes from its front.
use mathlib.Core.Path.{◌≡◌, refl, sym, ap, ◌∙◌}
use mathlib.Core.List.{List, [], ◌∷◌, ◌++◌, append_assoc}
use Prim.Native.Nat.{ℕ, zero, suc, ◌+◌, ◌-◌, ◌≤◌, ◌<◌}
use native.Mathlib.Omega.{arith}
use native.Mathlib.Numerals.{add-one}
use borrow.Rule.Slice.PartMut.{put_mid, Post-is}
use lib.Seq.{sets, sets-eq}
use lib.ListN.{length, get_or, take, drop, set}

stored : (d o : List ℕ) (i : ℕ) → i < length d → i < length o → set (take i o ++ drop i d) i (get_or o i 0) ≡ take (suc i) o ++ drop (suc i) d
stored [] o i h k = absurd (omega arith)
stored (x ∷ d) [] i h k = absurd (omega arith)
stored (x ∷ d) (y ∷ o) zero h k = refl
stored (x ∷ d) (y ∷ o) (suc i) h k = ap (λ t. y ∷ t) (stored d o i (omega arith) (omega arith))

pub store_more : (d o : List ℕ) (i : ℕ) → i < length d → i < length o → set (take i o ++ drop i d) i (get_or o i 0) ≡ take (i + 1) o ++ drop (i + 1) d
store_more d o i h k = rw (add-one i) (stored d o i h k)

pub store_all : (d o : List ℕ) → length o ≡ length d → take (length d) o ++ drop (length d) d ≡ o
store_all [] [] e = refl
store_all [] (y ∷ o) e = absurd (omega arith)
store_all (x ∷ d) [] e = absurd (omega arith)
store_all (x ∷ d) (y ∷ o) e = ap (λ t. y ∷ t) (store_all d o (omega arith))

-- a part put back is a run of stores
pub put_is : (a n : ℕ) (f o : List ℕ) → a + n ≤ length f → length o ≡ n → put_mid a (a + n - a) f o ≡ sets f a o
put_is a n f o h e =
    let l : a ≤ a + n = omega arith in
    ap (λ (z : List ℕ). take a f ++ (o ++ z)) (Post-is a (a + n) f l)
    ∙ sym (append_assoc (take a f) o (drop (a + n) f))
    ∙ ap (λ (k : ℕ). (take a f ++ o) ++ drop (a + k) f) (sym e)
    ∙ sym (sets-eq o f a (rw e h))

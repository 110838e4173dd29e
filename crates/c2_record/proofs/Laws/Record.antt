-- What is read of a record, and when it is taken.
use Rattle.std.proofs.Common.{Option, Some, None}
use mathlib.Core.Path.{◌≡◌, refl, sym, ap, ◌∙◌}
use mathlib.Core.Bool.{true, false}
use mathlib.Core.List.{List, [], ◌∷◌}
use Prim.Native.Nat.{ℕ}
use native.Mathlib.Omega.{arith}
use borrow.Author.Tests.{eqb-true, eq-eqb}
use lib.Dec.{eqb}
use lib.ListN.{length}
use Rattle.laws.proofs.Tests.{both, by_test}
use Rattle.c2_session.specs.declared.Point.{Point}
use Rattle.c2_session.specs.declared.Session.{Session}
use Rattle.c2_range.specs.Range.{in_range}
use Rattle.c2_record.specs.Record.{Unpacked, Held, Refused, laid, packed, fields_read, point_of, session_read, same, checked, taken_apart, unpacked}

pub same_true : (xs ys : List ℕ) → same xs ys ≡ true → xs ≡ ys
unfolding same
same_true [] [] e = refl
same_true [] (y ∷ ys) e = absurd (let z : ◌≡◌ {A = ℕ} 0 1 = cc in omega arith)
same_true (x ∷ xs) [] e = absurd (let z : ◌≡◌ {A = ℕ} 0 1 = cc in omega arith)
same_true (x ∷ xs) (y ∷ ys) e = let p = both (eqb x y) (same xs ys) e in cc (eqb-true x y p.0, same_true xs ys p.1)

same_self : (xs : List ℕ) → same xs xs ≡ true
unfolding same
same_self [] = refl
same_self (x ∷ xs) = rw (eq-eqb x x refl) (same_self xs)

pub same_is : (xs ys : List ℕ) → xs ≡ ys → same xs ys ≡ true
same_is xs ys e = ap (λ (l : List ℕ). same xs l) (sym e) ∙ same_self xs

pub same_not : (xs ys : List ℕ) → (xs ≡ ys → ⊥) → same xs ys ≡ false
same_not xs ys n = by_test (same xs ys) (λ p. absurd (n (same_true xs ys p))) (λ p. p)

pub packed_length : (s : Session) → length (packed s) ≡ 32
unfolding packed laid
packed_length s = refl

-- a session is held by its record alone, and only in range
module _ (s : Session) (r : List ℕ) where
  pub is_held : in_range s ≡ true → packed s ≡ r → Held s ≡ checked s r
  unfolding checked
  is_held p q = rw (p, same_is (packed s) r q)

  pub not_its_record : (packed s ≡ r → ⊥) → Refused ≡ checked s r
  unfolding checked
  not_its_record n = by_test (in_range s) (λ p. rw (p, same_not (packed s) r n)) (λ p. rw p)

module _ (r : List ℕ) where
  pub not_32_bytes : (length r ≡ 32 → ⊥) → Refused ≡ unpacked r
  unfolding unpacked
  not_32_bytes n = go (point_of (fields_read r))
    where
      go : (x : Option Point) → Refused ≡ taken_apart x r
      go (Some p) = not_its_record (session_read r p) r (λ e. n (sym (ap length e) ∙ packed_length (session_read r p)))
      go None = refl

  pub no_point : None ≡ point_of (fields_read r) → Refused ≡ unpacked r
  unfolding unpacked
  no_point e = rw (← e)

  pub a_point : (p : Point) (x : Unpacked) → Some p ≡ point_of (fields_read r) → x ≡ checked (session_read r p) r → x ≡ unpacked r
  unfolding unpacked
  a_point p x e h = rw (← e) h

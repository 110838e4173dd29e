-- Pairs of register and value that are accepted, and tidy ones, fact by fact, and back.
use mathlib.Core.Path.{◌≡◌, refl}
use mathlib.Core.Bool.{true, not, ◌&&◌}
use mathlib.Core.Logic.{◌↔◌}
use Prim.Native.Nat.{ℕ, zero, suc, ◌+◌, ◌<◌, ◌≤◌}
use native.Mathlib.Decide.{dec_lt}
use native.Mathlib.Omega.{arith}
use borrow.Author.Tests.{leb-true, eqb-true, eqb-false, not-true, le-leb, lt-ltb, le-ltb, eq-eqb, ne_eqb}
use lib.Dec.{eqb, leb}
use Rattle.laws.proofs.Tests.{both}
use Rattle.settings.specs.declared.Pairs.{Pairs}
use Rattle.settings.specs.Registers.{pair_at, pairs_from, pairs_of, is_register, are_registers, are_pairs, named_or_0, is_tidy}

-- a register that a pair may name
abbrev pub MayName : (fpdat register : ℕ) → Type 0
MayName fpdat r = (3 ≤ r) × (r ≡ fpdat → ⊥)

may_name : (fpdat r : ℕ) → is_register fpdat r ≡ true → MayName fpdat r
may_name fpdat r e =
    let h = both (leb 3 r) (not (eqb r fpdat)) e in
    (leb-true 3 r h.0, eqb-false r fpdat (not-true (eqb r fpdat) h.1))

named_is_register : (fpdat r : ℕ) → MayName fpdat r → is_register fpdat r ≡ true
named_is_register fpdat r h = rw (le-leb 3 r h.0, ne_eqb r fpdat h.1)

-- what the tests of registers say
module _ (fpdat : ℕ) (p : Pairs) where
  -- so many pairs, from that of this number on, each of a register that it may name
  abbrev AllNamed : (number count : ℕ) → Type 0
  AllNamed i n = (k : ℕ) → k < n → MayName fpdat (pair_at p (i + k)).register

  all_named : (i n : ℕ) → are_registers fpdat (pairs_from p i n) ≡ true → AllNamed i n
  unfolding are_registers pairs_from
  all_named i zero e k h = absurd (omega arith)
  all_named i (suc n) e zero h =
      let x = both (is_register fpdat (pair_at p i).register) (are_registers fpdat (pairs_from p (suc i) n)) e in
      let z : i + 0 ≡ i = omega arith in
      rw z (may_name fpdat (pair_at p i).register x.0)
  all_named i (suc n) e (suc k) h =
      let x = both (is_register fpdat (pair_at p i).register) (are_registers fpdat (pairs_from p (suc i) n)) e in
      let z : i + suc k ≡ suc i + k = omega arith in
      rw z (all_named (suc i) n x.1 k (omega arith))

  named_are_registers : (i n : ℕ) → AllNamed i n → are_registers fpdat (pairs_from p i n) ≡ true
  unfolding are_registers pairs_from
  named_are_registers i zero f = refl
  named_are_registers i (suc n) f =
      let z : i + 0 ≡ i = omega arith in
      let later : AllNamed (suc i) n = λ k h. let y : suc i + k ≡ i + suc k = omega arith in rw y (f (suc k) (omega arith)) in
      rw (named_is_register fpdat (pair_at p i).register (rw z at (f 0 (omega arith))), named_are_registers (suc i) n later)

  -- pairs are accepted exactly if there are at most four, each of a register that it may name
  pub pairs_exactly : are_pairs fpdat p ≡ true ↔ (p.count ≤ 4) × ((i : ℕ) → i < p.count → MayName fpdat (pair_at p i).register)
  unfolding are_pairs
  pairs_exactly =
      let z : (i : ℕ) → 0 + i ≡ i = λ i. omega arith in (
        λ e.
            let x = both (leb p.count 4) (are_registers fpdat (pairs_of p)) e in
            (leb-true p.count 4 x.0, λ i h. rw (z i) at (all_named 0 p.count x.1 i h)),
        λ x. rw (le-leb p.count 4 x.0, named_are_registers 0 p.count (λ i h. rw (z i) (x.1 i h))),
      )

-- a fact of each number below 4
each_of_4 : (F : ℕ → Type 0) → F 0 → F 1 → F 2 → F 3 → (i : ℕ) → i < 4 → F i
each_of_4 F a b c d zero h = a
each_of_4 F a b c d (suc zero) h = b
each_of_4 F a b c d (suc (suc zero)) h = c
each_of_4 F a b c d (suc (suc (suc zero))) h = d
each_of_4 F a b c d (suc (suc (suc (suc i)))) h = absurd (omega arith)

-- what the tests of entries that are not named say
module _ (p : Pairs) where
  -- the entry of this number is 0, if it is not named
  abbrev NamedOr0 : ℕ → Type 0
  NamedOr0 i = p.count ≤ i → ((pair_at p i).register ≡ 0) × ((pair_at p i).value ≡ 0)

  is_0 : (i : ℕ) → named_or_0 p i ≡ true → NamedOr0 i
  is_0 i e h =
      let z : eqb (pair_at p i).register 0 && eqb (pair_at p i).value 0 ≡ true = rw (le-ltb i p.count h) at e in
      let x = both (eqb (pair_at p i).register 0) (eqb (pair_at p i).value 0) z in
      (eqb-true (pair_at p i).register 0 x.0, eqb-true (pair_at p i).value 0 x.1)

  is_named_or_0 : (i : ℕ) → NamedOr0 i → named_or_0 p i ≡ true
  is_named_or_0 i f = go (dec_lt i p.count)
    where
      go : Dec (i < p.count) → named_or_0 p i ≡ true
      go (yes y) = rw (lt-ltb i p.count y)
      go (no y) =
          let x = f (omega arith) in
          rw (le-ltb i p.count (omega arith), eq-eqb (pair_at p i).register 0 x.0, eq-eqb (pair_at p i).value 0 x.1)

  -- pairs are tidy exactly if each of the four entries that is not named is 0
  pub tidy_exactly : is_tidy p ≡ true ↔ ((i : ℕ) → p.count ≤ i → i < 4 → ((pair_at p i).register ≡ 0) × ((pair_at p i).value ≡ 0))
  unfolding is_tidy
  tidy_exactly = (
    λ e i h l.
        let a = both (named_or_0 p 0) (named_or_0 p 1 && (named_or_0 p 2 && named_or_0 p 3)) e in
        let b = both (named_or_0 p 1) (named_or_0 p 2 && named_or_0 p 3) a.1 in
        let c = both (named_or_0 p 2) (named_or_0 p 3) b.1 in
        each_of_4 NamedOr0 (is_0 0 a.0) (is_0 1 b.0) (is_0 2 c.0) (is_0 3 c.1) i l h,
    λ f.
        let x : (i : ℕ) → i < 4 → named_or_0 p i ≡ true = λ i l. is_named_or_0 i (λ h. f i h l) in
        rw (x 0 (omega arith), x 1 (omega arith), x 2 (omega arith), x 3 (omega arith)),
  )

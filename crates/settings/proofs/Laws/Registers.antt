-- Laws of pairs of register and value.
use mathlib.Core.Path.{◌≡◌, refl, sym, ap, ◌∙◌}
use mathlib.Core.Bool.{Bool, true, false, cond, ◌&&◌, ◌||◌}
use mathlib.Core.List.{List, [], ◌∷◌}
use Rattle.std.specs.Prelude.{take}
use Rattle.std.specs.List.{list_all}
use Prim.Native.Nat.{ℕ, zero, suc, ◌+◌, ◌≤◌, ◌<◌}
use native.Mathlib.Nat.{not-suc-le-zero}
use native.Mathlib.Omega.{arith}
use native.Mathlib.Decide.{dec_le}
use borrow.Author.Tests.{lt-leb, leb-true}
use lib.Dec.{eqb, ltb, leb}
use lib.ListN.{length, get_or}
use Rattle.laws.proofs.Tests.{both}
use Rattle.settings.specs.declared.Pairs.{Pairs}
use Rattle.settings.specs.Registers.{Pair, pair_at, pairs_from, pairs_of, is_register, are_registers, are_pairs, named, tidy, is_tidy}

pub pairs_facts : (fpdat : ℕ) (p : Pairs) → are_pairs fpdat p ≡ true → (p.count ≤ 4) × (are_registers fpdat (pairs_of p) ≡ true)
unfolding are_pairs
pairs_facts fpdat p e = let h = both (leb p.count 4) (are_registers fpdat (pairs_of p)) e in (leb-true p.count 4 h.0, h.1)

and_true : (b : Bool) → b && true ≡ b
and_true true = refl
and_true false = refl

-- the register of an entry, if it is named, is one that a pair may name
abbrev pub fine : (fpdat count : ℕ) → List ℕ → ℕ → Bool
fine fpdat n rs i = cond (ltb i n) (is_register fpdat (get_or rs i 0)) true

-- at most four pairs, tested entry by entry
pub entry_by_entry : (fpdat : ℕ) (p : Pairs) (n : ℕ) → n ≤ 4
    → are_registers fpdat (pairs_from p 0 n)
    ≡ (fine fpdat n p.registers 0 && (fine fpdat n p.registers 1 && (fine fpdat n p.registers 2 && fine fpdat n p.registers 3)))
unfolding are_registers pairs_from
entry_by_entry fpdat p zero h = refl
entry_by_entry fpdat p (suc zero) h = refl
entry_by_entry fpdat p (suc (suc zero)) h = refl
entry_by_entry fpdat p (suc (suc (suc zero))) h = refl
entry_by_entry fpdat p (suc (suc (suc (suc zero)))) h =
    let r : ℕ → Bool = λ i. is_register fpdat (get_or p.registers i 0) in
    ap (λ (t : Bool). r 0 && (r 1 && (r 2 && t))) (and_true (r 3))
entry_by_entry fpdat p (suc (suc (suc (suc (suc n))))) h = absurd (omega arith)

-- four entries, one by one
pub four_entries : (xs : List ℕ) → length xs ≡ 4 → xs ≡ (get_or xs 0 0 ∷ get_or xs 1 0 ∷ get_or xs 2 0 ∷ get_or xs 3 0 ∷ [])
four_entries [] l = absurd (omega (arith, l))
four_entries (a ∷ []) l = absurd (omega (arith, l))
four_entries (a ∷ b ∷ []) l = absurd (omega (arith, l))
four_entries (a ∷ b ∷ c ∷ []) l = absurd (omega (arith, l))
four_entries (a ∷ b ∷ c ∷ d ∷ []) l = refl
four_entries (a ∷ b ∷ c ∷ d ∷ e ∷ xs) l = absurd (omega (arith, l))

-- at most four pairs, by the registers of those that are named
pub registers_named : (fpdat : ℕ) (p : Pairs) → p.count ≤ 4 → length p.registers ≡ 4
    → are_registers fpdat (pairs_of p) ≡ list_all (is_register fpdat) (take p.count p.registers)
unfolding are_registers pairs_from
registers_named fpdat p h l = ap (λ (rs : List ℕ). are_registers fpdat (pairs_from (of rs) 0 p.count)) e ∙ go p.count h ∙ ap (λ (rs : List ℕ). list_all (is_register fpdat) (take p.count rs)) (sym e)
  where
    of : List ℕ → Pairs
    of rs = record { count = p.count; registers = rs; values = p.values }

    e : p.registers ≡ (get_or p.registers 0 0 ∷ get_or p.registers 1 0 ∷ get_or p.registers 2 0 ∷ get_or p.registers 3 0 ∷ [])
    e = four_entries p.registers l

    one : List ℕ
    one = get_or p.registers 0 0 ∷ get_or p.registers 1 0 ∷ get_or p.registers 2 0 ∷ get_or p.registers 3 0 ∷ []

    go : (n : ℕ) → n ≤ 4 → are_registers fpdat (pairs_from (of one) 0 n) ≡ list_all (is_register fpdat) (take n one)
    go zero h = refl
    go (suc zero) h = refl
    go (suc (suc zero)) h = refl
    go (suc (suc (suc zero))) h = refl
    go (suc (suc (suc (suc zero)))) h = refl
    go (suc (suc (suc (suc (suc n))))) h = absurd (omega arith)

-- what a session keeps of pairs has the same pairs
pub tidy_same : (p : Pairs) (n : ℕ) → n ≤ 4
    → pairs_from (record { count = n; registers = named n p.registers; values = named n p.values }) 0 n ≡ pairs_from p 0 n
unfolding pairs_from
tidy_same p zero h = refl
tidy_same p (suc zero) h = refl
tidy_same p (suc (suc zero)) h = refl
tidy_same p (suc (suc (suc zero))) h = refl
tidy_same p (suc (suc (suc (suc zero)))) h = refl
tidy_same p (suc (suc (suc (suc (suc n))))) h = absurd (omega arith)

pub tidy_pairs : (p : Pairs) → p.count ≤ 4 → pairs_of (tidy p) ≡ pairs_of p
unfolding tidy
tidy_pairs p h = tidy_same p p.count h

pub tidy_accepted : (fpdat : ℕ) (p : Pairs) → are_pairs fpdat (tidy p) ≡ are_pairs fpdat p
unfolding are_pairs tidy
tidy_accepted fpdat p = go (dec_le p.count 4)
  where
    go : Dec (p.count ≤ 4) → leb p.count 4 && are_registers fpdat (pairs_of (tidy p)) ≡ (leb p.count 4 && are_registers fpdat (pairs_of p))
    go (yes y) = rw (tidy_pairs p y)
    go (no y) = rw (lt-leb p.count 4 (omega arith))

pub length_pairs : (p : Pairs) (i n : ℕ) → length (pairs_from p i n) ≡ n
unfolding pairs_from
length_pairs p i zero = refl
length_pairs p i (suc n) = ap suc (length_pairs p (suc i) n)

pub pairs_at : (p : Pairs) (i n k : ℕ) (d : Pair) → k < n → get_or (pairs_from p i n) k d ≡ pair_at p (i + k)
unfolding pairs_from
pairs_at p i zero k d h = absurd (not-suc-le-zero h)
pairs_at p i (suc n) zero d h = let e : i + 0 ≡ i = omega arith in rw e
pairs_at p i (suc n) (suc k) d h = pairs_at p (suc i) n k d (omega arith) ∙ ap (pair_at p) (omega arith)

-- what a session keeps of pairs has 0 in the entries that are not named
named_tidy : (b : Bool) (x y : ℕ) → b || (eqb (cond b x 0) 0 && eqb (cond b y 0) 0) ≡ true
named_tidy true x y = refl
named_tidy false x y = refl

pub tidy_is_tidy : (p : Pairs) → is_tidy (tidy p) ≡ true
unfolding is_tidy tidy
tidy_is_tidy p =
    let t : (i : ℕ) → ltb i p.count || (eqb (cond (ltb i p.count) (get_or p.registers i 0) 0) 0 && eqb (cond (ltb i p.count) (get_or p.values i 0) 0) 0) ≡ true
    = λ i. named_tidy (ltb i p.count) (get_or p.registers i 0) (get_or p.values i 0) in
    rw (t 0, t 1, t 2, t 3)

-- Laws of what is set so far: cells that are set and unset, the first address set, the address past the last
-- one, the bytes of cells.
use mathlib.Core.Path.{◌≡◌, refl, sym, ap, ◌∙◌}
use mathlib.Core.Bool.{Bool, true, false, cond, ◌&&◌}
use mathlib.Core.List.{List, [], ◌∷◌}
use Prim.Native.Nat.{ℕ, zero, suc, ◌+◌, ◌-◌, ◌≤◌, ◌<◌}
use native.Mathlib.Omega.{arith}
use native.Mathlib.Decide.{dec_le, dec_lt}
use borrow.Author.Tests.{lt-ltb, eq-eqb, ne_eqb, eqb-true}
use lib.Dec.{eqb}
use lib.ListN.{length, get_or, take, drop, set, replicate, length-set, length-drop, length-take}
use lib.Seq.{sets, get_or-set_same, get_or-set_other, get_or-take, get_or-drop, length-take-le}
use Rattle.laws.proofs.Tests.{both, by_test}
use Rattle.laws.specs.Bytes.{Bytes}
use Rattle.hex_format.specs.Reading.{unset, all_unset, first_set, past_set, cell_byte, bytes}

-- the cell of an address; past the flash nothing is set
abbrev pub cell : List ℕ → ℕ → ℕ
cell cells k = get_or cells k unset

-- a run of cells of which none is set
pub unset_at : (s : List ℕ) (k : ℕ) → all_unset s ≡ true → cell s k ≡ unset
unfolding all_unset
unset_at [] k e = refl
unset_at (a ∷ s) zero e = eqb-true a unset (both (eqb a unset) (all_unset s) e).0
unset_at (a ∷ s) (suc k) e = unset_at s k (both (eqb a unset) (all_unset s) e).1

pub unset_all : (s : List ℕ) → ((k : ℕ) → k < length s → cell s k ≡ unset) → all_unset s ≡ true
unfolding all_unset
unset_all [] f = refl
unset_all (a ∷ s) f = rw (eq-eqb a unset (f 0 (omega arith))) (unset_all s (λ k h. f (suc k) (omega arith)))

and_right : (t u : Bool) → u ≡ false → t && u ≡ false
and_right true u e = e
and_right false u e = refl

pub some_set : (s : List ℕ) (k : ℕ) → (cell s k ≡ unset → ⊥) → all_unset s ≡ false
unfolding all_unset
some_set [] k n = absurd (n refl)
some_set (x ∷ s) zero n = rw (ne_eqb x unset n)
some_set (x ∷ s) (suc k) n = and_right (eqb x unset) (all_unset s) (some_set s k n)

module _ (a n : ℕ) (s : List ℕ) where
  pub run_unset : a + n ≤ length s → ((k : ℕ) → a ≤ k → k < a + n → cell s k ≡ unset) → all_unset (take n (drop a s)) ≡ true
  run_unset h f =
      unset_all (take n (drop a s))
      (λ k p. let l = length-take n (drop a s) in
      let q : k < n = omega (arith, length-take-le n (drop a s) (rw (length-drop a s) (omega arith))) in
      get_or-take n (drop a s) k unset q ∙ get_or-drop a s k unset ∙ f (a + k) (omega arith) (omega arith))

  run_at : (k : ℕ) → a ≤ k → k < a + n → cell (take n (drop a s)) (k - a) ≡ cell s k
  run_at k g h =
      get_or-take n (drop a s) (k - a) unset (omega arith) ∙ get_or-drop a s (k - a) unset ∙ ap (λ x. cell s x) (omega arith)

  pub run_unset_at : all_unset (take n (drop a s)) ≡ true → (k : ℕ) → a ≤ k → k < a + n → cell s k ≡ unset
  run_unset_at e k g h = sym (run_at k g h) ∙ unset_at (take n (drop a s)) (k - a) e

  pub run_set : (k : ℕ) → a ≤ k → k < a + n → (cell s k ≡ unset → ⊥) → all_unset (take n (drop a s)) ≡ false
  run_set k g h f = some_set (take n (drop a s)) (k - a) (λ e. f (sym (run_at k g h) ∙ e))

-- a run of stores: before it, in it, behind it
module _ {A : Type 0} (d : A) where
  pub sets_before : (vs l : List A) (i k : ℕ) → k < i → get_or (sets l i vs) k d ≡ get_or l k d
  sets_before [] l i k h = refl
  sets_before (v ∷ vs) l i k h = sets_before vs (set l i v) (suc i) k (omega arith) ∙ get_or-set_other l i k v d (λ e. omega arith)

  pub sets_in : (vs l : List A) (i j : ℕ) → j < length vs → i + length vs ≤ length l → get_or (sets l i vs) (i + j) d ≡ get_or vs j d
  sets_in [] l i j h k = absurd (omega arith)
  sets_in (v ∷ vs) l i zero h k =
      let e : i + 0 ≡ i = omega arith in
      rw e (sets_before vs (set l i v) (suc i) i (omega arith) ∙ get_or-set_same l i v d (omega arith))
  sets_in (v ∷ vs) l i (suc j) h k =
      let e : i + suc j ≡ suc i + j = omega arith in
      rw e (sets_in vs (set l i v) (suc i) j (omega arith) (rw (length-set l i v) (omega arith)))

  pub sets_after : (vs l : List A) (i k : ℕ) → i + length vs ≤ k → get_or (sets l i vs) k d ≡ get_or l k d
  sets_after [] l i k h = refl
  sets_after (v ∷ vs) l i k h = sets_after vs (set l i v) (suc i) k (omega arith) ∙ get_or-set_other l i k v d (λ e. omega arith)

-- bytes are below `unset`
pub byte_below : (s : List ℕ) (j d : ℕ) → Bytes s → j < length s → get_or s j d < 256
byte_below [] j d h k = absurd (omega arith)
byte_below (b ∷ s) zero d h k = h.0
byte_below (b ∷ s) (suc j) d h k = byte_below s j d h.1 (omega arith)

-- data at an address, in cells that have room for it
module _ (cells : List ℕ) (a : ℕ) (vs : List ℕ) (fits : a + length vs ≤ length cells) (all : Bytes vs) where
  pub stored : (k : ℕ) → a ≤ k → k < a + length vs → cell (sets cells a vs) k ≡ get_or vs (k - a) unset
  stored k g h = let e : a + (k - a) ≡ k = omega arith in rw e at (sets_in unset vs cells a (k - a) (omega arith) fits)

  pub stored_set : (k : ℕ) → a ≤ k → k < a + length vs → cell (sets cells a vs) k ≡ unset → ⊥
  stored_set k g h e = let f = byte_below vs (k - a) unset all (omega arith) in let s = stored k g h in omega arith

  pub kept : (k : ℕ) → (a ≤ k → k < a + length vs → ⊥) → cell (sets cells a vs) k ≡ cell cells k
  kept k n = go (dec_lt k a)
    where
      go : Dec (k < a) → cell (sets cells a vs) k ≡ cell cells k
      go (yes y) = sets_before unset vs cells a k y
      go (no y) = rest (dec_le (a + length vs) k)
        where
          rest : Dec (a + length vs ≤ k) → cell (sets cells a vs) k ≡ cell cells k
          rest (yes x) = sets_after unset vs cells a k x
          rest (no x) = absurd (n (omega arith) (omega arith))

-- The first address that is set: what lies before it is not set, and there is no other such address.
pub first_before : (s : List ℕ) (k : ℕ) → k < first_set s → cell s k ≡ unset
unfolding first_set
first_before [] k h = refl
first_before (a ∷ s) zero h =
    by_test (eqb a unset) (λ e. eqb-true a unset e) (λ e. absurd (let f : 0 < 0 = rw e at h in omega arith))
first_before (a ∷ s) (suc k) h =
    by_test (eqb a unset)
    (λ e. first_before s k (let f : suc k < suc (first_set s) = rw e at h in omega arith))
    (λ e. absurd (let f : suc k < 0 = rw e at h in omega arith))

pub first_is : (s : List ℕ) (i : ℕ) → ((k : ℕ) → k < i → cell s k ≡ unset) → (cell s i ≡ unset → ⊥) → i ≡ first_set s
unfolding first_set
first_is [] i f e = absurd (e refl)
first_is (a ∷ s) zero f e = rw (ne_eqb a unset e)
first_is (a ∷ s) (suc i) f e = rw (eq-eqb a unset (f 0 (omega arith))) (ap suc (first_is s i (λ k p. f (suc k) (omega arith)) e))

pub first_there : (s : List ℕ) → all_unset s ≡ false → cell s (first_set s) ≡ unset → ⊥
unfolding first_set all_unset
first_there [] e = λ z. let y : ◌≡◌ {A = ℕ} 0 1 = cc in omega arith
first_there (a ∷ s) e =
    by_test (eqb a unset) (λ t. rw t (first_there s (rw t at e)))
    (λ t. rw t (λ z. differ (sym t ∙ eq-eqb a unset z)))
  where
    differ : ◌≡◌ {A = Bool} false true → ⊥
    differ q = let x : ◌≡◌ {A = ℕ} 0 1 = cc in omega arith

pub first_length : (s : List ℕ) → all_unset s ≡ true → first_set s ≡ length s
unfolding first_set all_unset
first_length [] e = refl
first_length (a ∷ s) e = let b = both (eqb a unset) (all_unset s) e in rw b.0 (ap suc (first_length s b.1))

-- The address past the last one that is set: behind it nothing is set.
pub past_after : (s : List ℕ) (k : ℕ) → past_set s ≤ k → cell s k ≡ unset
unfolding past_set
past_after [] k h = refl
past_after (a ∷ s) zero h =
    by_test (all_unset (a ∷ s)) (λ e. unset_at (a ∷ s) 0 e) (λ e. absurd (let f : suc (past_set s) ≤ 0 = rw e at h in omega arith))
past_after (a ∷ s) (suc k) h =
    by_test (all_unset (a ∷ s)) (λ e. unset_at (a ∷ s) (suc k) e)
    (λ e. past_after s k (let f : suc (past_set s) ≤ suc k = rw e at h in omega arith))

pub past_zero : (s : List ℕ) → all_unset s ≡ true → 0 ≡ past_set s
unfolding past_set
past_zero [] e = refl
past_zero (a ∷ s) e = rw e

pub past_is : (s : List ℕ) (k : ℕ) → ((i : ℕ) → k < i → cell s i ≡ unset) → (cell s k ≡ unset → ⊥) → suc k ≡ past_set s
unfolding past_set
past_is [] k f n = absurd (n refl)
past_is (a ∷ s) zero f n = rw (some_set (a ∷ s) 0 n) (ap suc (past_zero s (unset_all s (λ k h. f (suc k) (omega arith)))))
past_is (a ∷ s) (suc k) f n = rw (some_set (a ∷ s) (suc k) n) (ap suc (past_is s k (λ i h. f (suc i) (omega arith)) n))

pub past_there : (s : List ℕ) → all_unset s ≡ false → (0 < past_set s) × (cell s (past_set s - 1) ≡ unset → ⊥)
unfolding past_set
past_there [] e = absurd (none e)
  where
    none : all_unset [] ≡ false → ⊥
    none e = let z : ◌≡◌ {A = Bool} true false = sym (unset_all [] (λ k h. absurd (omega arith))) ∙ e in let y : ◌≡◌ {A = ℕ} 0 1 = cc in omega arith
past_there (a ∷ s) e =
    let z : suc (past_set s) - 1 ≡ past_set s = omega arith in
    rw e (omega arith, rw z (by_test (all_unset s) (λ t. head t (past_zero s t)) (λ t. tail (past_set s) (past_there s t))))
  where
    head : all_unset s ≡ true → 0 ≡ past_set s → cell (a ∷ s) (past_set s) ≡ unset → ⊥
    head t z = rw (← z) (λ q. let y : all_unset (a ∷ s) ≡ true = unset_all (a ∷ s) (λ k h. all k q t) in
        let x : ◌≡◌ {A = Bool} true false = sym y ∙ e in let w : ◌≡◌ {A = ℕ} 0 1 = cc in omega arith)
      where
        all : (k : ℕ) → a ≡ unset → all_unset s ≡ true → cell (a ∷ s) k ≡ unset
        all zero q t = q
        all (suc k) q t = unset_at s k t

    tail : (p : ℕ) → (0 < p) × (cell s (p - 1) ≡ unset → ⊥) → cell (a ∷ s) p ≡ unset → ⊥
    tail zero h q = absurd (omega (arith, h.0))
    tail (suc p) h q = let z : suc p - 1 ≡ p = omega arith in h.1 (rw z q)

pub past_within : (s : List ℕ) → past_set s ≤ length s
unfolding past_set
past_within [] = omega arith
past_within (a ∷ s) = pick (all_unset (a ∷ s)) (past_within s)
  where
    pick : (u : Bool) → past_set s ≤ length s → cond u 0 (suc (past_set s)) ≤ suc (length s)
    pick true h = omega arith
    pick false h = omega arith

-- a cell that is set lies from the first on, and below the one past the last
pub set_from : (s : List ℕ) (k : ℕ) → (cell s k ≡ unset → ⊥) → first_set s ≤ k
set_from s k n = go (dec_le (first_set s) k)
  where
    go : Dec (first_set s ≤ k) → first_set s ≤ k
    go (yes y) = y
    go (no y) = absurd (n (first_before s k (omega arith)))

pub set_below : (s : List ℕ) (k : ℕ) → (cell s k ≡ unset → ⊥) → k < past_set s
set_below s k n = go (dec_le (past_set s) k)
  where
    go : Dec (past_set s ≤ k) → k < past_set s
    go (yes y) = absurd (n (past_after s k y))
    go (no y) = omega arith

-- cells of a fresh flash
pub unset_fresh : (n : ℕ) → all_unset (replicate n unset) ≡ true
unfolding all_unset
unset_fresh zero = refl
unset_fresh (suc n) = unset_fresh n

pub first_fresh : (n : ℕ) → n ≡ first_set (replicate n unset)
unfolding first_set
first_fresh zero = refl
first_fresh (suc n) = ap suc (first_fresh n)

pub past_fresh : (n : ℕ) → 0 ≡ past_set (replicate n unset)
past_fresh n = past_zero (replicate n unset) (unset_fresh n)

-- the bytes of cells
pub bytes_length : (s : List ℕ) → length (bytes s) ≡ length s
unfolding bytes
bytes_length [] = refl
bytes_length (a ∷ s) = ap suc (bytes_length s)

pub bytes_at : (s : List ℕ) (i : ℕ) → i < length s → get_or (bytes s) i 0xff ≡ cell_byte (cell s i)
unfolding bytes
bytes_at [] i h = absurd (omega arith)
bytes_at (a ∷ s) zero h = refl
bytes_at (a ∷ s) (suc i) h = bytes_at s i (omega arith)

pub byte_is : (b : ℕ) → b < 256 → cell_byte b ≡ b
unfolding cell_byte
byte_is b h = rw (lt-ltb b 256 h)

pub bytes_are : (s : List ℕ) → Bytes s → bytes s ≡ s
unfolding bytes
bytes_are [] h = refl
bytes_are (b ∷ s) h = rw (byte_is b h.0, bytes_are s h.1)

-- the bytes of a window of cells
module _ (cells : List ℕ) (start n : ℕ) (fits : start + n ≤ length cells) where
  pub window_long : length (bytes (take n (drop start cells))) ≡ n
  window_long = bytes_length (take n (drop start cells)) ∙ length-take-le n (drop start cells) (rw (length-drop start cells) (omega arith))

  pub window_at : (i : ℕ) → i < n → get_or (bytes (take n (drop start cells))) i 0xff ≡ cell_byte (cell cells (start + i))
  window_at i h =
      let l = length-take-le n (drop start cells) (rw (length-drop start cells) (omega arith)) in
      bytes_at (take n (drop start cells)) i (omega arith)
      ∙ ap cell_byte (get_or-take n (drop start cells) i unset h ∙ get_or-drop start cells i unset)

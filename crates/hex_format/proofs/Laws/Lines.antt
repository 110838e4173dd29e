-- Laws of a line by itself.
use mathlib.Core.Path.{◌≡◌, refl, ap, ◌∙◌}
use mathlib.Core.Logic.{◌⊎◌, inl, inr}
use mathlib.Core.Bool.{Bool, true, false, cond, ◌&&◌, ◌||◌}
use mathlib.Core.List.{List}
use Prim.Native.Nat.{ℕ, ◌+◌, ◌*◌, ◌%◌, ◌≤◌, ◌<◌}
use native.Mathlib.Omega.{arith}
use native.Mathlib.Decide.{dec_le}
use borrow.Author.Tests.{ne_eqb, eqb-true, leb-true}
use lib.Dec.{leb, eqb}
use lib.ListN.{length, get_or, drop_of_length-le}
use Rattle.laws.proofs.Tests.{both, by_test}
use Rattle.std.specs.Prelude.{Ok, Err}
use Rattle.numbers.specs.declared.Refusal.{Refusal}
use Rattle.numbers.specs.declared.Refusal.TheVariants.{BadLine, BadChecksum, BadHexRecord}
use Rattle.hex_format.specs.declared.Record.TheVariants.{Data, Last}
use Rattle.hex_format.specs.Digits.{all_digits}
use Rattle.hex_format.specs.Lines.{colon, is_end, count, digits, is_line, adds_up, kind, address, Line, kinded, judged_line}

-- the sum kept to its low byte at each step is the sum's low byte
pub low_byte : (s o t : ℕ) → ((s + o) % 256 + t) % 256 ≡ (s + (o + t)) % 256
low_byte s o t = omega arith

-- a line that is too short for its own count has no record's shape
no_end : (a b : Bool) → false ≡ a && (b && false)
no_end true true = refl
no_end true false = refl
no_end false b = refl

short_line : (l : List ℕ) → length l ≤ 2 * count l + 11 → false ≡ is_line l
unfolding is_line is_end
short_line l h = rw (drop_of_length-le l {i = 2 * count l + 11} h) (no_end (eqb (get_or l 0 0) colon) (all_digits (digits l)))

pub long_line : (l : List ℕ) → is_line l ≡ true → 2 * count l + 11 < length l
long_line l e = go (dec_le (length l) (2 * count l + 11))
  where
    go : Dec (length l ≤ 2 * count l + 11) → 2 * count l + 11 < length l
    go (yes y) = absurd (let z : false ≡ true = short_line l y ∙ e in let w : ◌≡◌ {A = ℕ} 0 1 = cc in omega arith)
    go (no y) = omega arith

-- a line with data, taken apart
first_of : (t : Bool) (x : Line) (k : Refusal) (a n : ℕ) → cond t x (Err k) ≡ Ok (Data a n) → (t ≡ true) × (x ≡ Ok (Data a n))
first_of true x k a n e = (refl, e)
first_of false x k a n e = absurd (let z : ◌≡◌ {A = ℕ} 0 1 = cc in omega arith)

first_kind : (t u : Bool) (x : Line) (a n : ℕ) → cond t x (cond u (Ok Last) (Err BadHexRecord)) ≡ Ok (Data a n) → (t ≡ true) × (x ≡ Ok (Data a n))
first_kind true u x a n e = (refl, e)
first_kind false true x a n e = absurd (let z : ◌≡◌ {A = ℕ} 0 1 = cc in omega arith)
first_kind false false x a n e = absurd (let z : ◌≡◌ {A = ℕ} 0 1 = cc in omega arith)

fits : (n m flash : ℕ) → eqb n 0 || leb m flash ≡ true → (n ≡ 0 → ⊥) → m ≤ flash
fits n m flash e h = leb-true m flash (rw (ne_eqb n 0 h) at e)

pub record Held (flash : ℕ) (l : List ℕ) (a n : ℕ) : Type 0 where
  pub shape : is_line l ≡ true
  pub many : count l ≡ n
  pub place : address l ≡ a
  pub room : (n ≡ 0 → ⊥) → a + n ≤ flash

pub held : (flash : ℕ) (l : List ℕ) (a n : ℕ) → judged_line flash l ≡ Ok (Data a n) → Held flash l a n
unfolding judged_line kinded
held flash l a n e =
    let p = first_of (is_line l) (cond (adds_up l) (kinded flash (kind l) (count l) (address l)) (Err BadChecksum)) BadLine a n e in
    let q = first_of (adds_up l) (kinded flash (kind l) (count l) (address l)) BadChecksum a n p.1 in
    let r = first_kind (eqb (kind l) 0) (eqb (kind l) 1 && (eqb (count l) 0 && eqb (address l) 0)) _ a n q.1 in
    let s = first_of (eqb (count l) 0 || leb (address l + count l) flash) (Ok (Data (address l) (count l))) BadHexRecord a n r.1 in
    let d : Ok (Data (address l) (count l)) ≡ Ok (Data a n) = s.1 in
    let m : count l ≡ n = cc in
    let w : address l ≡ a = cc in
    record {
      shape = p.0;
      many = m;
      place = w;
      room = rw (m, w) at (fits (count l) (address l + count l) flash s.0);
    }

-- the end record, taken apart
last_first : (t : Bool) (x : Line) (k : Refusal) → cond t x (Err k) ≡ Ok Last → (t ≡ true) × (x ≡ Ok Last)
last_first true x k e = (refl, e)
last_first false x k e = absurd (let z : ◌≡◌ {A = ℕ} 0 1 = cc in omega arith)

last_kind : (t v u : Bool) (a n : ℕ) → cond t (cond v (Ok (Data a n)) (Err BadHexRecord)) (cond u (Ok Last) (Err BadHexRecord)) ≡ Ok Last → u ≡ true
last_kind true true u a n e = absurd (let z : ◌≡◌ {A = ℕ} 0 1 = cc in omega arith)
last_kind true false u a n e = absurd (let z : ◌≡◌ {A = ℕ} 0 1 = cc in omega arith)
last_kind false v true a n e = refl
last_kind false v false a n e = absurd (let z : ◌≡◌ {A = ℕ} 0 1 = cc in omega arith)

pub record Closes (l : List ℕ) : Type 0 where
  pub shape : is_line l ≡ true
  pub none : count l ≡ 0

pub closes : (flash : ℕ) (l : List ℕ) → judged_line flash l ≡ Ok Last → Closes l
unfolding judged_line kinded
closes flash l e =
    let p = last_first (is_line l) (cond (adds_up l) (kinded flash (kind l) (count l) (address l)) (Err BadChecksum)) BadLine e in
    let q = last_first (adds_up l) (kinded flash (kind l) (count l) (address l)) BadChecksum p.1 in
    let r = last_kind (eqb (kind l) 0) (eqb (count l) 0 || leb (address l + count l) flash) (eqb (kind l) 1 && (eqb (count l) 0 && eqb (address l) 0)) (address l) (count l) q.1 in
    let s = both (eqb (kind l) 1) (eqb (count l) 0 && eqb (address l) 0) r in
    let t = both (eqb (count l) 0) (eqb (address l) 0) s.1 in
    record { shape = p.0; none = eqb-true (count l) 0 t.0 }

-- a right line: its sum, and what it is by type, length and address
pub record Right (flash : ℕ) (l : List ℕ) (x : Line) : Type 0 where
  pub shape : is_line l ≡ true
  pub sums : adds_up l ≡ true
  pub is : kinded flash (kind l) (count l) (address l) ≡ x

pub right_data : (flash : ℕ) (l : List ℕ) (a n : ℕ) → judged_line flash l ≡ Ok (Data a n) → Right flash l (Ok (Data a n))
unfolding judged_line
right_data flash l a n e =
    let p = first_of (is_line l) (cond (adds_up l) (kinded flash (kind l) (count l) (address l)) (Err BadChecksum)) BadLine a n e in
    let q = first_of (adds_up l) (kinded flash (kind l) (count l) (address l)) BadChecksum a n p.1 in
    record { shape = p.0; sums = q.0; is = q.1 }

pub right_last : (flash : ℕ) (l : List ℕ) → judged_line flash l ≡ Ok Last → Right flash l (Ok Last)
unfolding judged_line
right_last flash l e =
    let p = last_first (is_line l) (cond (adds_up l) (kinded flash (kind l) (count l) (address l)) (Err BadChecksum)) BadLine e in
    let q = last_first (adds_up l) (kinded flash (kind l) (count l) (address l)) BadChecksum p.1 in
    record { shape = p.0; sums = q.0; is = q.1 }

pub data_kind : (flash k n a b m : ℕ) → kinded flash k n a ≡ Ok (Data b m) → k ≡ 0
unfolding kinded
data_kind flash k n a b m e =
    eqb-true k 0 (first_kind (eqb k 0) (eqb k 1 && (eqb n 0 && eqb a 0)) (cond (eqb n 0 || leb (a + n) flash) (Ok (Data a n)) (Err BadHexRecord)) b m e).0

bad_kind : (flash k n a : ℕ) (m : Refusal) → kinded flash k n a ≡ Err m → m ≡ BadHexRecord
unfolding kinded
bad_kind flash k n a m e = go (eqb k 0) (eqb n 0 || leb (a + n) flash) (eqb k 1 && (eqb n 0 && eqb a 0)) e
  where
    go : (t u v : Bool) → cond t (cond u (Ok (Data a n)) (Err BadHexRecord)) (cond v (Ok Last) (Err BadHexRecord)) ≡ Err m → m ≡ BadHexRecord
    go true true v f = absurd (let z : ◌≡◌ {A = ℕ} 0 1 = cc in omega arith)
    go true false v f = cc
    go false u true f = absurd (let z : ◌≡◌ {A = ℕ} 0 1 = cc in omega arith)
    go false u false f = cc

-- a line that is refused by itself: by what, and why
pub bad_cases : (flash : ℕ) (l : List ℕ) (k : Refusal) → judged_line flash l ≡ Err k
    → ((k ≡ BadLine) × (is_line l ≡ false))
    ⊎ ((k ≡ BadChecksum) × (is_line l ≡ true) × (adds_up l ≡ false))
    ⊎ ((k ≡ BadHexRecord) × (is_line l ≡ true) × (adds_up l ≡ true) × (kinded flash (kind l) (count l) (address l) ≡ Err BadHexRecord))
unfolding judged_line
bad_cases flash l k e = by_test (is_line l) (λ t. sums t (rw t at e)) (λ t. inl (number BadLine (rw t at e), t))
  where
    number : (j : Refusal) → ◌≡◌ {A = Line} (Err j) (Err k) → k ≡ j
    number j p = cc

    kinds : is_line l ≡ true → adds_up l ≡ true → kinded flash (kind l) (count l) (address l) ≡ Err k → k ≡ BadHexRecord
        → ((k ≡ BadLine) × (is_line l ≡ false))
        ⊎ ((k ≡ BadChecksum) × (is_line l ≡ true) × (adds_up l ≡ false))
        ⊎ ((k ≡ BadHexRecord) × (is_line l ≡ true) × (adds_up l ≡ true) × (kinded flash (kind l) (count l) (address l) ≡ Err BadHexRecord))
    kinds t u f q = inr (inr (q, t, u, f ∙ ap Err q))

    sums : is_line l ≡ true → cond (adds_up l) (kinded flash (kind l) (count l) (address l)) (Err BadChecksum) ≡ Err k
        → ((k ≡ BadLine) × (is_line l ≡ false))
        ⊎ ((k ≡ BadChecksum) × (is_line l ≡ true) × (adds_up l ≡ false))
        ⊎ ((k ≡ BadHexRecord) × (is_line l ≡ true) × (adds_up l ≡ true) × (kinded flash (kind l) (count l) (address l) ≡ Err BadHexRecord))
    sums t f =
        by_test (adds_up l)
        (λ u. kinds t u (rw u at f) (bad_kind flash (kind l) (count l) (address l) k (rw u at f)))
        (λ u. inr (inl (number BadChecksum (rw u at f), t, u)))

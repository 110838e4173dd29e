-- Laws of a line at the front of a file: what the code finds there is the file's first line.
use Rattle.std.proofs.Common.{◌≡◌, ℕ, zero, suc, ◌+◌, ◌-◌, ◌*◌, ◌%◌, ◌<◌, ◌≤◌, Bool, true, false, cond, ◌&&◌, eqb, ltb, List, [], ◌∷◌, ◌++◌, length, get_or, take, drop, sym, refl, ap, ◌∙◌, arith, length-drop, take-append-drop, drop_of_length-le, length-take-le, get_or-drop, take_all, get_or-take, ltb-true, eq-eqb, ne_eqb, eqb-true}
use native.Mathlib.Decide.{dec_lt}
use lib.ListN.{get_or-append}
use lib.Seq.{take-append-le, drop-append-le}
use Rattle.laws.proofs.Tests.{both, by_test}
use Rattle.std.specs.Prelude.{Err}
use Rattle.numbers.specs.declared.Refusal.TheVariants.{BadLine, BadChecksum}
use Rattle.hex_format.specs.Digits.{digit, all_digits, octets}
use Rattle.hex_format.specs.Lines.{colon, lf, cr, is_end, count, digits, is_line, sum, adds_up, address, kind, data_of, kinded, judged_line}
use Rattle.hex_format.specs.Reading.{joined_line, lines}
use Rattle.hex_format.proofs.Laws.Lines.{long_line}
use Rattle.hex_line.specs.Code.Shape.{first_line, line_end, ended_by, shaped, judgement, judgement_at}

-- a file's first line is cut off its front
pub lines_first : (b : ℕ) (s : List ℕ) → lines (b ∷ s) ≡ first_line (b ∷ s) ∷ lines (drop (length (first_line (b ∷ s))) (b ∷ s))
unfolding lines joined_line first_line
lines_first b [] = by_test (eqb b lf) (λ t. rw t) (λ t. rw t)
lines_first b (d ∷ s) = by_test (eqb b lf) (λ t. rw t) (λ t. rw (t, lines_first d s))

-- the line of a file whose first LF is at k
first_at : (s : List ℕ) (k : ℕ) → ((i : ℕ) → i < k → get_or s i 0 ≡ lf → ⊥) → k < length s → get_or s k 0 ≡ lf → first_line s ≡ take (suc k) s
unfolding first_line
first_at [] k f h e = absurd (omega arith)
first_at (b ∷ s) zero f h e = rw (eq-eqb b lf e)
first_at (b ∷ s) (suc k) f h e = rw (ne_eqb b lf (f 0 (omega arith))) (ap (λ t. b ∷ t) (first_at s k (λ i p. f (suc i) (omega arith)) (omega arith) e))

-- a first line is a front of its file
pub rest : List ℕ → List ℕ
rest s = drop (length (first_line s)) s

pub first_front : (s : List ℕ) → s ≡ first_line s ++ rest s
unfolding first_line rest
first_front [] = refl
first_front (b ∷ s) = by_test (eqb b lf) (λ t. rw t) (λ t. rw t (ap (λ x. b ∷ x) (first_front s)))

-- two lists with the same front have the same fields there
module _ (s l r : List ℕ) (e : s ≡ l ++ r) where
  same_at : (k : ℕ) → k < length l → get_or l k 0 ≡ get_or s k 0
  same_at k h = sym (ap (λ t. get_or t k 0) e ∙ get_or-append l r 0 k h)

  same_count : 11 < length l → count l ≡ count s
  unfolding count
  same_count h = rw (same_at 1 (omega arith), same_at 2 (omega arith))

  same_address : 11 < length l → address l ≡ address s
  unfolding address
  same_address h = rw (same_at 3 (omega arith), same_at 4 (omega arith), same_at 5 (omega arith), same_at 6 (omega arith))

  same_kind : 11 < length l → kind l ≡ kind s
  unfolding kind
  same_kind h = rw (same_at 7 (omega arith), same_at 8 (omega arith))

  same_part : (k n : ℕ) → k + n ≤ length l → take n (drop k l) ≡ take n (drop k s)
  same_part k n h =
      sym
      (ap (λ t. take n (drop k t)) e
      ∙ ap (take n) (drop-append-le k l r (omega arith))
      ∙ take-append-le n (drop k l) r (rw (length-drop k l) (omega arith)))

-- the line ends at the front of what follows the digits
end_is : (t r : List ℕ) → is_end t ≡ true → line_end (t ++ r) ≡ length t
unfolding is_end line_end
end_is [] r e = absurd (let z : ◌≡◌ {A = ℕ} 0 1 = cc in omega arith)
end_is (a ∷ []) r e = rw e
end_is (a ∷ b ∷ []) r e =
    let p = both (eqb a cr) (eqb b lf) e in
    let q = eqb-true a cr p.0 in
    rw (q, p.1)
end_is (a ∷ b ∷ d ∷ t) r e = absurd (let z : ◌≡◌ {A = ℕ} 0 1 = cc in omega arith)

-- what a line end that was found says of its characters
pub record Ending (t : List ℕ) (k : ℕ) : Type 0 where
  pub within : k < length t
  pub lf_at : get_or t k 0 ≡ lf
  pub before : (i : ℕ) → i < k → get_or t i 0 ≡ lf → ⊥
  pub ends : (l : List ℕ) → length l ≡ suc k → ((i : ℕ) → i < suc k → get_or l i 0 ≡ get_or t i 0) → is_end l ≡ true

ending_one : (a : ℕ) (t : List ℕ) → eqb a lf ≡ true → Ending (a ∷ t) 0
unfolding is_end
ending_one a t e =
    record {
      within = omega arith;
      lf_at = eqb-true a lf e;
      before = λ i h. absurd (omega arith);
      ends = λ l. one l;
    }
  where
    one : (l : List ℕ) → length l ≡ 1 → ((i : ℕ) → i < 1 → get_or l i 0 ≡ get_or (a ∷ t) i 0) → is_end l ≡ true
    one [] p f = absurd (omega arith)
    one (x ∷ []) p f = let q : x ≡ a = f 0 (omega arith) in rw q e
    one (x ∷ y ∷ l) p f = absurd (omega arith)

ending_two : (a b : ℕ) (t : List ℕ) → eqb a cr && eqb b lf ≡ true → Ending (a ∷ b ∷ t) 1
unfolding is_end
ending_two a b t e =
    let p = both (eqb a cr) (eqb b lf) e in
    let c : a ≡ 13 = eqb-true a cr p.0 in
    record {
      within = omega arith;
      lf_at = eqb-true b lf p.1;
      before = λ i h. low i h c;
      ends = λ l. two l;
    }
  where
    low : (i : ℕ) → i < 1 → a ≡ 13 → get_or (a ∷ b ∷ t) i 0 ≡ lf → ⊥
    low zero h c q = omega arith
    low (suc i) h c q = omega arith

    two : (l : List ℕ) → length l ≡ 2 → ((i : ℕ) → i < 2 → get_or l i 0 ≡ get_or (a ∷ b ∷ t) i 0) → is_end l ≡ true
    two [] p f = absurd (omega arith)
    two (x ∷ []) p f = absurd (omega arith)
    two (x ∷ y ∷ []) p f =
        let q : x ≡ a = f 0 (omega arith) in
        let r : y ≡ b = f 1 (omega arith) in
        rw (q, r) e
    two (x ∷ y ∷ z ∷ l) p f = absurd (omega arith)

ending : (t : List ℕ) (k : ℕ) → line_end t ≡ suc k → Ending t k
unfolding line_end
ending [] k e = absurd (omega arith)
ending (a ∷ []) k e = by_test (eqb a lf) (λ p. one p (rw p at e)) (λ p. absurd (none (eqb a cr) (rw p at e)))
  where
    one : eqb a lf ≡ true → 1 ≡ suc k → Ending (a ∷ []) k
    one p f = let q : k ≡ 0 = omega arith in rw q (ending_one a [] p)

    none : (u : Bool) → cond (u && false) 2 0 ≡ suc k → ⊥
    none true f = omega arith
    none false f = omega arith
ending (a ∷ b ∷ t) k e = by_test (eqb a lf) (λ p. one p (rw p at e)) (λ p. two (eqb a cr && eqb b lf) refl (rw p at e))
  where
    one : eqb a lf ≡ true → 1 ≡ suc k → Ending (a ∷ b ∷ t) k
    one p f = let q : k ≡ 0 = omega arith in rw q (ending_one a (b ∷ t) p)

    two : (u : Bool) → eqb a cr && eqb b lf ≡ u → cond u 2 0 ≡ suc k → Ending (a ∷ b ∷ t) k
    two true p f = let q : k ≡ 1 = omega arith in rw q (ending_two a b t p)
    two false p f = absurd (omega arith)

-- no digit is an LF
digit_plain : (a : ℕ) → digit a < 16 → a ≡ lf → ⊥
unfolding digit
digit_plain a h e = let f : digit lf < 16 = rw e at h in omega arith

digits_at : (t : List ℕ) (i : ℕ) → all_digits t ≡ true → i < length t → digit (get_or t i 0) < 16
unfolding all_digits
digits_at [] i e h = absurd (omega arith)
digits_at (a ∷ t) zero e h = ltb-true (digit a) 16 (both (ltb (digit a) 16) (all_digits t) e).0
digits_at (a ∷ t) (suc i) e h = digits_at t i (both (ltb (digit a) 16) (all_digits t) e).1 (omega arith)

-- a colon, the digits and a line end at the front are the first line
module _ (s : List ℕ) (k : ℕ) (c : get_or s 0 0 ≡ colon) (d : all_digits (digits s) ≡ true) (e : line_end (drop (2 * count s + 11) s) ≡ suc k) where
  found : Ending (drop (2 * count s + 11) s) k
  found = ending (drop (2 * count s + 11) s) k e

  long : 2 * count s + 11 + k < length s
  long = let w = found.within in let h = length-drop (2 * count s + 11) s in omega arith

  digits_long : length (digits s) ≡ 2 * count s + 10
  digits_long = let w = long in length-take-le (2 * count s + 10) (drop 1 s) (rw (length-drop 1 s) (omega arith))

  plain : (i : ℕ) → i < 2 * count s + 11 + k → get_or s i 0 ≡ lf → ⊥
  plain zero h p = omega (arith, c)
  plain (suc j) h p = go (dec_lt j (2 * count s + 10))
    where
      go : Dec (j < 2 * count s + 10) → ⊥
      go (yes y) =
          let n = digits_long in
          digit_plain (get_or (digits s) j 0) (digits_at (digits s) j d (omega arith))
          (get_or-take (2 * count s + 10) (drop 1 s) j 0 y ∙ get_or-drop 1 s j 0 ∙ ap (λ x. get_or s x 0) (omega arith) ∙ p)
      go (no y) =
          let i = suc j - (2 * count s + 11) in
          found.before i (omega arith) (get_or-drop (2 * count s + 11) s i 0 ∙ ap (λ x. get_or s x 0) (omega arith) ∙ p)

  pub first_is : first_line s ≡ take (suc (2 * count s + 11 + k)) s
  first_is = first_at s (2 * count s + 11 + k) plain long (sym (get_or-drop (2 * count s + 11) s k 0) ∙ found.lf_at)

  front : s ≡ take (suc (2 * count s + 11 + k)) s ++ drop (suc (2 * count s + 11 + k)) s
  front = sym (take-append-drop (suc (2 * count s + 11 + k)) s)

  front_long : length (take (suc (2 * count s + 11 + k)) s) ≡ suc (2 * count s + 11 + k)
  front_long = let w = long in length-take-le (suc (2 * count s + 11 + k)) s (omega arith)

  front_count : count (take (suc (2 * count s + 11 + k)) s) ≡ count s
  front_count =
      let n = front_long in
      same_count s (take (suc (2 * count s + 11 + k)) s) (drop (suc (2 * count s + 11 + k)) s) front (omega arith)

  front_end : is_end (drop (2 * count s + 11) (take (suc (2 * count s + 11 + k)) s)) ≡ true
  front_end =
      let l = take (suc (2 * count s + 11 + k)) s in
      let n = front_long in
      found.ends (drop (2 * count s + 11) l) (length-drop (2 * count s + 11) l ∙ omega arith)
      (λ i h. get_or-drop (2 * count s + 11) l i 0
      ∙ get_or-take (suc (2 * count s + 11 + k)) s (2 * count s + 11 + i) 0 (omega arith)
      ∙ sym (get_or-drop (2 * count s + 11) s i 0))

  pub front_line : is_line (take (suc (2 * count s + 11 + k)) s) ≡ true
  unfolding is_line
  front_line =
      let n = front_long in
      let l = take (suc (2 * count s + 11 + k)) s in
      let r = drop (suc (2 * count s + 11 + k)) s in
      let g : get_or l 0 0 ≡ colon = same_at s l r front 0 (omega arith) ∙ c in
      let p : all_digits (digits s) ≡ all_digits (take (2 * count s + 10) (drop 1 l)) =
      ap all_digits (sym (same_part s l r front 1 (2 * count s + 10) (omega arith))) in
      rw (front_count, eq-eqb (get_or l 0 0) colon g, sym p ∙ d, front_end)

-- the first line of a record's shape begins with the colon, the digits and the line end
module _ (s : List ℕ) (e : is_line (first_line s) ≡ true) where
  pub first_long : 2 * count (first_line s) + 11 < length (first_line s)
  first_long = long_line (first_line s) e

  pub first_count : count (first_line s) ≡ count s
  first_count = let h = first_long in same_count s (first_line s) (rest s) (first_front s) (omega arith)

  pub first_address : address (first_line s) ≡ address s
  first_address = let h = first_long in same_address s (first_line s) (rest s) (first_front s) (omega arith)

  pub first_kind : kind (first_line s) ≡ kind s
  first_kind = let h = first_long in same_kind s (first_line s) (rest s) (first_front s) (omega arith)

  pub first_digits : digits (first_line s) ≡ digits s
  first_digits =
      let h = first_long in
      let n = first_count in
      ap (λ n. take (2 * n + 10) (drop 1 (first_line s))) n
      ∙ same_part s (first_line s) (rest s) (first_front s) 1 (2 * count s + 10) (omega arith)

  pub first_data : data_of (first_line s) ≡ octets (take (2 * count s) (drop 9 s))
  unfolding data_of
  first_data =
      let h = first_long in
      let n = first_count in
      ap (λ n. octets (take (2 * n) (drop 9 (first_line s)))) n
      ∙ ap octets (same_part s (first_line s) (rest s) (first_front s) 9 (2 * count s) (omega arith))

  parts : (eqb (get_or (first_line s) 0 0) colon ≡ true) × (all_digits (digits (first_line s)) ≡ true)
      × (is_end (drop (2 * count (first_line s) + 11) (first_line s)) ≡ true)
  unfolding is_line
  parts =
      let l = first_line s in
      let p = both (eqb (get_or l 0 0) colon) (all_digits (digits l) && is_end (drop (2 * count l + 11) l)) e in
      let q = both (all_digits (digits l)) (is_end (drop (2 * count l + 11) l)) p.1 in
      (p.0, q.0, q.1)

  pub first_end : line_end (drop (2 * count s + 11) s) ≡ length (first_line s) - (2 * count s + 11)
  first_end =
      let l = first_line s in
      let n = first_count in
      let h = first_long in
      ap line_end (ap (drop (2 * count s + 11)) (first_front s) ∙ drop-append-le (2 * count s + 11) l (rest s) (omega arith))
      ∙ end_is (drop (2 * count s + 11) l) (rest s) (rw n at parts.2)
      ∙ length-drop (2 * count s + 11) l

  pub first_shaped : shaped s ≡ length (first_line s)
  unfolding shaped ended_by
  first_shaped =
      let l = first_line s in
      let n = first_count in
      let h = first_long in
      let z : get_or l 0 0 ≡ get_or s 0 0 = same_at s l (rest s) (first_front s) 0 (omega arith) in
      let c : eqb (get_or s 0 0) colon ≡ true = ap (λ x. eqb x colon) (sym z) ∙ parts.0 in
      let d : all_digits (digits s) ≡ true = ap all_digits (sym first_digits) ∙ parts.1 in
      rw (c, d, first_end) (by_end (2 * count s + 11) (length l) (omega arith))
    where
      by_more : (end k : ℕ) → 0 < k → ended_by end k ≡ end + k
      by_more end zero h = absurd (omega arith)
      by_more end (suc k) h = refl

      by_end : (end n : ℕ) → end < n → ended_by end (n - end) ≡ n
      by_end end n h = by_more end (n - end) (omega arith) ∙ omega arith

-- what is found is the first line, if that has a record's shape
pub shaped_is : (s : List ℕ) → shaped s ≡ cond (is_line (first_line s)) (length (first_line s)) 0
unfolding shaped ended_by
shaped_is s = by_test (is_line (first_line s)) (λ e. rw e (first_shaped s e)) (λ e. rw e (none e))
  where
    step : (k : ℕ) → is_line (first_line s) ≡ false → get_or s 0 0 ≡ colon → all_digits (digits s) ≡ true → line_end (drop (2 * count s + 11) s) ≡ k
        → ended_by (2 * count s + 11) k ≡ 0
    step zero n c d e = refl
    step (suc k) n c d e =
        absurd
        (let t : is_line (first_line s) ≡ true = ap is_line (first_is s k c d e) ∙ front_line s k c d e in
        let z : ◌≡◌ {A = Bool} true false = sym t ∙ n in
        let w : ◌≡◌ {A = ℕ} 0 1 = cc in
        omega arith)

    none : is_line (first_line s) ≡ false → shaped s ≡ 0
    none n =
        by_test (eqb (get_or s 0 0) colon && all_digits (digits s))
        (λ p. let b = both (eqb (get_or s 0 0) colon) (all_digits (digits s)) p in
        rw p (step (line_end (drop (2 * count s + 11) s)) n (eqb-true (get_or s 0 0) colon b.0) b.1 refl))
        (λ p. rw p)

-- the line end, test by test
pub end_none : (s : List ℕ) → length s < 1 → line_end s ≡ 0
unfolding line_end
end_none [] h = refl
end_none (a ∷ s) h = absurd (omega arith)

pub end_lf : (s : List ℕ) → 1 ≤ length s → get_or s 0 0 ≡ lf → line_end s ≡ 1
unfolding line_end
end_lf [] h e = absurd (omega arith)
end_lf (a ∷ s) h e = rw (eq-eqb a lf e)

pub end_small : (s : List ℕ) → line_end s ≤ 2
unfolding line_end
end_small [] = omega arith
end_small (a ∷ s) = pick (eqb a lf) (eqb a cr && eqb (get_or s 0 0) lf)
  where
    pick : (t u : Bool) → cond t 1 (cond u 2 0) ≤ 2
    pick true u = omega arith
    pick false true = omega arith
    pick false false = omega arith

no_lf : (t : Bool) → ◌≡◌ {A = ℕ} (cond (t && false) 2 0) 0
no_lf true = refl
no_lf false = refl

pub end_short : (s : List ℕ) → length s < 2 → (get_or s 0 0 ≡ lf → ⊥) → line_end s ≡ 0
unfolding line_end
end_short [] h e = refl
end_short (a ∷ []) h e = rw (ne_eqb a lf e) (no_lf (eqb a cr))
end_short (a ∷ b ∷ s) h e = absurd (omega arith)

pub end_cr_lf : (s : List ℕ) → 2 ≤ length s → get_or s 0 0 ≡ cr → get_or s 1 0 ≡ lf → line_end s ≡ 2
unfolding line_end
end_cr_lf [] h e f = absurd (omega arith)
end_cr_lf (a ∷ []) h e f = absurd (omega arith)
end_cr_lf (a ∷ b ∷ s) h e f = rw (e, f)

pub end_cr_other : (s : List ℕ) → (get_or s 0 0 ≡ lf → ⊥) → (get_or s 1 0 ≡ lf → ⊥) → line_end s ≡ 0
unfolding line_end
end_cr_other [] e f = refl
end_cr_other (a ∷ []) e f = rw (ne_eqb a lf e) (no_lf (eqb a cr))
end_cr_other (a ∷ b ∷ s) e f = rw (ne_eqb a lf e, ne_eqb b lf f) (no_lf (eqb a cr))

pub end_other : (s : List ℕ) → (get_or s 0 0 ≡ lf → ⊥) → (get_or s 0 0 ≡ cr → ⊥) → line_end s ≡ 0
unfolding line_end
end_other [] e f = refl
end_other (a ∷ s) e f = rw (ne_eqb a lf e, ne_eqb a cr f)

pub ruleset line_ends = (end_none, end_lf, end_short, end_cr_lf, end_cr_other, end_other)

-- the shape, test by test
same_both : (t : Bool) → ◌≡◌ {A = ℕ} 0 (cond t 0 0)
same_both true = refl
same_both false = refl

pub shaped_unended : (s : List ℕ) → line_end (drop (2 * count s + 11) s) ≡ 0 → 0 ≡ shaped s
unfolding shaped ended_by
shaped_unended s e = rw e (same_both (eqb (get_or s 0 0) colon && all_digits (digits s)))

pub shaped_short : (s : List ℕ) → length s ≤ 2 * count s + 11 → 0 ≡ shaped s
unfolding line_end
shaped_short s h = shaped_unended s (ap line_end (drop_of_length-le s {i = 2 * count s + 11} h))

pub shaped_other : (s : List ℕ) → (get_or s 0 0 ≡ colon → ⊥) → 0 ≡ shaped s
unfolding shaped
shaped_other s e = rw (ne_eqb (get_or s 0 0) colon e)

second_false : (t : Bool) → t && false ≡ false
second_false true = refl
second_false false = refl

pub shaped_bad : (s : List ℕ) → all_digits (digits s) ≡ false → 0 ≡ shaped s
unfolding shaped
shaped_bad s h = rw (h, second_false (eqb (get_or s 0 0) colon))

pub shaped_good : (s : List ℕ) (k : ℕ) → get_or s 0 0 ≡ colon → all_digits (digits s) ≡ true → k ≡ line_end (drop (2 * count s + 11) s) → (k ≡ 0 → ⊥)
    → 2 * count s + 11 + k ≡ shaped s
unfolding shaped ended_by
shaped_good s zero c h e n = absurd (n refl)
shaped_good s (suc k) c h e n =
    rw (eq-eqb (get_or s 0 0) colon c, h) (ap (ended_by (2 * count s + 11)) e)

-- a line's parts as the code cuts them
pub digits_part : (s : List ℕ) (n : ℕ) → n ≡ count s → take (2 * n + 11 - 1) (drop 1 s) ≡ digits s
digits_part s n e = let p : 2 * n + 11 - 1 ≡ 2 * count s + 10 = omega arith in rw p

pub rest_part : (s : List ℕ) (n : ℕ) → n ≡ count s → take (length s - (2 * n + 11)) (drop (2 * n + 11) s) ≡ drop (2 * count s + 11) s
rest_part s n e =
    rw (e) (take_all (length s - (2 * count s + 11)) (drop (2 * count s + 11) s) (rw (length-drop (2 * count s + 11) s) (omega arith)))

-- the judgement of the first line, by its shape and sum
is_shaped : (s : List ℕ) → (shaped s ≡ 0 → ⊥) → is_line (first_line s) ≡ true
is_shaped s n = by_test (is_line (first_line s)) (λ e. e) (λ e. absurd (n (shaped_is s ∙ rw e)))

pub judge_shape : (flash : ℕ) (s : List ℕ) → shaped s ≡ 0 → judgement (Err BadLine) 0 ≡ judgement_at flash s
unfolding judgement_at judged_line
judge_shape flash s z =
    let n : is_line (first_line s) ≡ false =
    by_test (is_line (first_line s)) (λ e. absurd (let f = first_shaped s e in let g = first_long s e in omega arith)) (λ e. e) in
    rw n

module _ (flash : ℕ) (s : List ℕ) (n : shaped s ≡ 0 → ⊥) where
  pub judge_sum : (sum (octets (digits s)) % 256 ≡ 0 → ⊥) → judgement (Err BadChecksum) (shaped s) ≡ judgement_at flash s
  unfolding judgement_at judged_line adds_up
  judge_sum z =
      let e = is_shaped s n in
      rw (e, first_digits s e, ne_eqb (sum (octets (digits s)) % 256) 0 z, first_shaped s e)

  pub judge_kind : sum (octets (digits s)) % 256 ≡ 0 → judgement (kinded flash (kind s) (count s) (address s)) (shaped s) ≡ judgement_at flash s
  unfolding judgement_at judged_line adds_up
  judge_kind z =
      let e = is_shaped s n in
      rw (e, first_digits s e, z, first_kind s e, first_count s e, first_address s e, first_shaped s e)

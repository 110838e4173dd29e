-- The claim of a file whose lines are all right: which number comes after them, by what they end and set.
use mathlib.Core.Path.{◌≡◌, refl, sym, ap, ◌∙◌}
use mathlib.Core.Bool.{Bool, true, false, cond}
use mathlib.Core.List.{List, [], ◌∷◌, ◌++◌, append_assoc, append-nil}
use Prim.Native.Nat.{ℕ, zero, suc, ◌+◌, ◌-◌, ◌*◌, ◌/◌, ◌<◌}
use native.Mathlib.Omega.{arith}
use borrow.Author.Tests.{eqb-true, eqb-false, ltb-true, ltb-false}
use lib.Dec.{eqb, ltb}
use lib.ListN.{length, take, drop, replicate}
use Rattle.laws.proofs.Tests.{by_test}
use Rattle.settings.specs.declared.Settings.{Settings}
use Rattle.settings.specs.Accepted.{settings_refusal}
use Rattle.hex_format.specs.Reading.{lines, unset, all_unset, first_set, past_set, bytes, line_taken, LinesTaken, lines_taken, Answer, copied, cut_out, read_answer, hex_read}
use Rattle.hex_format.specs.Claims.{Set, Ended, FaultAt, Touched, touched_bytes, Decided, AnsweredExactly}
use Rattle.hex_format.proofs.Laws.Cells.{cell, unset_at, some_set, first_there, past_there, set_from, set_below}
use Rattle.hex_format.proofs.Laws.Steps.{step_on, step_stop}
use Rattle.hex_format.proofs.Laws.Histories.{History, history_none, history_more}
use Rattle.hex_format.proofs.Laws.Claims.{parts, file_judges, walk, is_answered, long}

-- a walk over lines of which none is faulty: their history, and whether the end record has been
pub record Through (flash : ℕ) (ls : List (List ℕ)) (w : LinesTaken) : Type 0 where
  pub ended : Bool
  pub history : History flash ls ended w.cells
  pub number : w.number ≡ cond ended 0 24

through : (flash n : ℕ) (before ls : List (List ℕ)) (ended : Bool) (cells : List ℕ) → History flash before ended cells
    → (lines_taken n ended cells ls).line ≡ 0 → Through flash (before ++ ls) (lines_taken n ended cells ls)
unfolding lines_taken
through flash n before [] ended cells h e = rw (append-nil before) (record { ended = ended; history = h; number = refl })
through flash n before (l ∷ ls) ended cells h e =
    by_test (eqb (line_taken ended cells l).number 0)
    (goes (λ z q. through flash (n + 1) (before ++ (l ∷ [])) ls (line_taken ended cells l).ended (line_taken ended cells l).cells (history_more flash before ended cells l h z) q))
    stops
  where
    goes : ((line_taken ended cells l).number ≡ 0 → (lines_taken (n + 1) (line_taken ended cells l).ended (line_taken ended cells l).cells ls).line ≡ 0
        → Through flash ((before ++ (l ∷ [])) ++ ls) (lines_taken (n + 1) (line_taken ended cells l).ended (line_taken ended cells l).cells ls))
        → eqb (line_taken ended cells l).number 0 ≡ true → Through flash (before ++ (l ∷ ls)) (lines_taken n ended cells (l ∷ ls))
    goes k p =
        let t = line_taken ended cells l in
        let z = eqb-true t.number 0 p in
        let on = step_on n ended t.ended cells t.cells l ls (parts t z) in
        rw on (rw (append_assoc before (l ∷ []) ls) at (k z (sym (ap (λ (w : LinesTaken). w.line) on) ∙ e)))

    stops : eqb (line_taken ended cells l).number 0 ≡ false → Through flash (before ++ (l ∷ ls)) (lines_taken n ended cells (l ∷ ls))
    stops p =
        let t = line_taken ended cells l in
        let stop = step_stop n t.number ended t.ended cells t.cells l ls refl (eqb-false t.number 0 p) in
        absurd (let y = ap (λ (w : LinesTaken). w.line) stop in omega (arith, e, y))

module _ (s : Settings) (room : ℕ) (file : List ℕ) (ok : settings_refusal s ≡ 0)
    (right : (j m : ℕ) → j < length (lines file) → FaultAt s file j m → ⊥) where
  abbrev flash : ℕ
  flash = s.size * s.count

  abbrev F : List ℕ
  F = (walk s file).cells

  abbrev a : Answer
  a = hex_read s room file

  no_line : (n : ℕ) → (walk s file).line ≡ n → (walk s file).line ≡ 0
  no_line zero e = e
  no_line (suc i) e = let j = file_judges flash file in absurd (right i (walk s file).number (j.at i e) (j.fault i e))

  all : Through flash (lines file) (walk s file)
  all = through flash 0 [] (lines file) false (replicate flash unset) (history_none flash) (no_line (walk s file).line refl)

  h : History flash (lines file) all.ended F
  h = all.history

  is_set : (k b : ℕ) → Set flash file k b → cell F k ≡ unset → ⊥
  is_set k b c z = let e = h.holds c.i k b c.covers in let f = h.byte c.i k b c.covers in omega (arith, e, f)

  set_there : (k : ℕ) → (cell F k ≡ unset → ⊥) → Set flash file k (cell F k)
  set_there k f = let m = h.covered k f in record { i = m.i; covers = m.covers }

  touched : all_unset F ≡ false → Touched flash file
  touched some =
      let p = past_there F some in
      record {
        least = first_set F;
        least_byte = cell F (first_set F);
        least_set = set_there (first_set F) (first_there F some);
        greatest = past_set F - 1;
        greatest_byte = cell F (past_set F - 1);
        greatest_set = set_there (past_set F - 1) p.1;
        between = λ k b c.
            let x = set_from F k (is_set k b c) in
            let y = set_below F k (is_set k b c) in
            (x, omega arith);
      }

  touches : (k b : ℕ) → Set flash file k b → Touched flash file
  touches k b c = touched (some_set F k (is_set k b c))

  -- the image's length, as the definition has it
  abbrev n : ℕ
  n = (past_set F - 1) / s.size * s.size + s.size - first_set F / s.size * s.size

  same_span : all_unset F ≡ false → (t : Touched flash file) → touched_bytes s.size t.least t.greatest ≡ n
  same_span some t =
      let p = past_there F some in
      let x = set_from F t.least (is_set t.least t.least_byte t.least_set) in
      let y = set_below F t.greatest (is_set t.greatest t.greatest_byte t.greatest_set) in
      let u = t.between (first_set F) (cell F (first_set F)) (set_there (first_set F) (first_there F some)) in
      let v = t.between (past_set F - 1) (cell F (past_set F - 1)) (set_there (past_set F - 1) p.1) in
      let low : t.least ≡ first_set F = omega (arith, u.0, x) in
      let high : t.greatest ≡ past_set F - 1 = omega (arith, v.1, y) in
      λ i. touched_bytes s.size (low i) (high i)

  -- no end record
  unended : all.ended ≡ false → Decided s room file (hex_read s room file)
  unfolding read_answer
  unended e =
      let w : (walk s file).number ≡ 24 = all.number ∙ ap (λ (b : Bool). cond b 0 24) e in
      let f = h.unended e in
      let z : a.number ≡ 24 = ap (λ (x : Answer). x.number) (is_answered s room file ok) ∙ rw w in
      record {
        missing_end = (λ _. f, λ _. z);
        none_set = λ d. absurd (f d);
        touches = touches;
        too_small = λ d. absurd (f d);
        file_accepted = λ d. absurd (f d);
        image_bytes = λ q. absurd (omega (arith, q, z));
      }

  module _ (e : all.ended ≡ true) where
    d : Ended flash (lines file)
    d = h.ends e

    cut : hex_read s room file ≡ cut_out s.size room F
    unfolding read_answer
    cut = let w : (walk s file).number ≡ 0 = all.number ∙ ap (λ (b : Bool). cond b 0 24) e in is_answered s room file ok ∙ rw w

    nothing : all_unset F ≡ true → Decided s room file (hex_read s room file)
    unfolding cut_out
    nothing u =
        let z : a.number ≡ 25 = ap (λ (x : Answer). x.number) cut ∙ rw u in
        let q : (k b : ℕ) → Set flash file k b → ⊥ = λ k b c. is_set k b c (unset_at F k u) in
        record {
          missing_end = (λ y. absurd (omega (arith, y, z)), λ f. absurd (f d));
          none_set = λ _. (λ _. q, λ _. z);
          touches = touches;
          too_small = λ _ t. absurd (q t.least t.least_byte t.least_set);
          file_accepted = λ _ t. absurd (q t.least t.least_byte t.least_set);
          image_bytes = λ y. absurd (omega (arith, y, z));
        }

    small : all_unset F ≡ false → ltb room n ≡ true → Decided s room file (hex_read s room file)
    unfolding cut_out copied
    small u l =
        let z : a.number ≡ 26 = ap (λ (x : Answer). x.number) cut ∙ rw (u, l) in
        let r = ltb-true room n l in
        record {
          missing_end = (λ y. absurd (omega (arith, y, z)), λ f. absurd (f d));
          none_set = λ _. (λ y. absurd (omega (arith, y, z)), λ q. absurd (q _ _ (set_there (first_set F) (first_there F u))));
          touches = touches;
          too_small = λ _ t. (λ _. rw (same_span u t) r, λ _. z);
          file_accepted = λ _ t. (λ y. absurd (omega (arith, y, z)), λ y. absurd (let x = same_span u t in omega (arith, r, y, x)));
          image_bytes = λ y. absurd (omega (arith, y, z));
        }

    taken_in : all_unset F ≡ false → ltb room n ≡ false → Decided s room file (hex_read s room file)
    unfolding cut_out copied
    taken_in u l =
        let z : a.number ≡ 0 = ap (λ (x : Answer). x.number) cut ∙ rw (u, l) in
        let im : a.image ≡ bytes (take n (drop (first_set F / s.size * s.size) F)) = ap (λ (x : Answer). x.image) cut ∙ rw (u, l) in
        let w : (walk s file).number ≡ 0 = all.number ∙ ap (λ (b : Bool). cond b 0 24) e in
        let r = ltb-false room n l in
        record {
          missing_end = (λ y. absurd (omega (arith, y, z)), λ f. absurd (f d));
          none_set = λ _. (λ y. absurd (omega (arith, y, z)), λ q. absurd (q _ _ (set_there (first_set F) (first_there F u))));
          touches = touches;
          too_small = λ _ t. (λ y. absurd (omega (arith, y, z)), λ y. absurd (let x = same_span u t in omega (arith, r, y, x)));
          file_accepted = λ _ t. (λ _. rw (same_span u t) r, λ _. z);
          image_bytes = λ _ t. ap length im ∙ long s file ok w u ∙ sym (same_span u t);
        }

  decided : Decided s room file (hex_read s room file)
  decided =
      by_test all.ended
      (λ e. by_test (all_unset F) (nothing e) (λ u. by_test (ltb room n) (small e u) (taken_in e u)))
      unended

pub answered_exactly_holds : AnsweredExactly
answered_exactly_holds s room file ok right = decided s room file ok right

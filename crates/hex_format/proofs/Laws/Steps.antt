-- Laws of the fold over a file's lines: one line more, the end, and what an accepted line was.
use mathlib.Core.Path.{◌≡◌, refl, sym, ap, ◌∙◌}
use mathlib.Core.Bool.{Bool, true, false, cond}
use mathlib.Core.List.{List, [], ◌∷◌}
use mathlib.Core.Logic.{◌⊎◌, inl, inr, ⊎_elim}
use Prim.Native.Nat.{ℕ, ◌+◌, ◌*◌, ◌≤◌}
use native.Mathlib.Omega.{arith}
use native.Mathlib.Decide.{dec_le}
use borrow.Author.Tests.{ne_eqb, eqb-true, eq-eqb}
use lib.Dec.{eqb}
use lib.ListN.{length, take, drop, length-drop}
use lib.Seq.{sets, length-sets, length-take-le}
use Rattle.std.specs.Prelude.{Ok, Err}
use Rattle.numbers.proofs.Refused.{refused}
use Rattle.hex_format.specs.declared.Record.TheVariants.{Data, Last}
use Rattle.laws.specs.Bytes.{Bytes}
use Rattle.hex_format.specs.Lines.{count, is_line, address, data_of, Line, judged_line}
use Rattle.hex_format.specs.Reading.{unset, all_unset, LineTaken, took, placed, taken_as, line_taken, LinesTaken, ended_with, lines_taken}
use Rattle.hex_format.proofs.Laws.Digits.{octets_length, octets_bytes}
use Rattle.hex_format.proofs.Laws.Lines.{held, long_line}
use Rattle.hex_format.proofs.Laws.Cells.{cell, kept, run_unset_at}

-- a walk's step, and where it stops
abbrev after : ℕ → List (List ℕ) → LineTaken → LinesTaken
after before ls t =
    elim (eqb t.number 0) [
      | true ↦ lines_taken (before + 1) t.ended t.cells ls
      | false ↦ ended_with t.number (before + 1) t.cells
    ]

pub step_on : (before : ℕ) (ended next : Bool) (cells later l : List ℕ) (ls : List (List ℕ)) → line_taken ended cells l ≡ took 0 next later
    → lines_taken before ended cells (l ∷ ls) ≡ lines_taken (before + 1) next later ls
unfolding lines_taken
step_on before ended next cells later l ls e = ap (after before ls) e

pub step_stop : (before number : ℕ) (ended next : Bool) (cells later l : List ℕ) (ls : List (List ℕ)) → line_taken ended cells l ≡ took number next later
    → (number ≡ 0 → ⊥) → lines_taken before ended cells (l ∷ ls) ≡ ended_with number (before + 1) later
unfolding lines_taken
step_stop before number ended next cells later l ls e n =
    ap (λ (t : LineTaken). elim (eqb t.number 0) [
      | true ↦ lines_taken (before + 1) t.ended t.cells ls
      | false ↦ ended_with t.number (before + 1) t.cells
    ]) e
    ∙ rw (ne_eqb number 0 n)

-- What an accepted line was: data where nothing was set, or the end record; no end record before it.
pub record Stored (cells l : List ℕ) (t : LineTaken) : Type 0 where
  pub a : ℕ
  pub n : ℕ
  pub line : judged_line (length cells) l ≡ Ok (Data a n)
  pub free : all_unset (take n (drop a cells)) ≡ true
  pub gives : t ≡ took 0 false (sets cells a (data_of l))

pub record Ended (cells l : List ℕ) (t : LineTaken) : Type 0 where
  pub line : judged_line (length cells) l ≡ Ok Last
  pub gives : t ≡ took 0 true cells

pub accepted : (ended : Bool) (cells l : List ℕ) → (line_taken ended cells l).number ≡ 0
    → (ended ≡ false) × (Stored cells l (line_taken ended cells l) ⊎ Ended cells l (line_taken ended cells l))
unfolding line_taken taken_as placed
accepted ended cells l e = go (judged_line (length cells) l) refl e
  where
    data_line : (ended : Bool) (a n : ℕ) (u : Bool) → judged_line (length cells) l ≡ Ok (Data a n) → all_unset (take n (drop a cells)) ≡ u
        → (cond u (cond ended (took 24 ended cells) (took 0 ended (sets cells a (data_of l)))) (took 23 ended cells)).number ≡ 0
        → (ended ≡ false) × Stored cells l (cond u (cond ended (took 24 ended cells) (took 0 ended (sets cells a (data_of l)))) (took 23 ended cells))
    data_line true a n true j f z = absurd (omega arith)
    data_line false a n true j f z = (refl, record { a = a; n = n; line = j; free = f; gives = refl })
    data_line ended a n false j f z = absurd (omega arith)

    last_line : (ended : Bool) → judged_line (length cells) l ≡ Ok Last → ◌≡◌ {A = ℕ} (cond ended 24 0) 0
        → (ended ≡ false) × Ended cells l (took (cond ended 24 0) true cells)
    last_line true j z = absurd (omega arith)
    last_line false j z = (refl, record { line = j; gives = refl })

    go : (j : Line) → judged_line (length cells) l ≡ j → (taken_as ended cells l j).number ≡ 0
        → (ended ≡ false) × (Stored cells l (taken_as ended cells l j) ⊎ Ended cells l (taken_as ended cells l j))
    go (Err k) p z = absurd (let h = refused k in omega arith)
    go (Ok (Data a n)) p z =
        let r = data_line ended a n (all_unset (take n (drop a cells))) p refl z in
        (r.0, inl r.1)
    go (Ok Last) p z = let r = last_line ended p z in (r.0, inr r.1)

-- the data of a record: as many bytes as it counts, in the flash
pub record Placed (cells l : List ℕ) (a n : ℕ) : Type 0 where
  pub shape : is_line l ≡ true
  pub many : count l ≡ n
  pub place : address l ≡ a
  pub long : length (data_of l) ≡ n
  pub bytes : Bytes (data_of l)
  pub room : (n ≡ 0 → ⊥) → a + n ≤ length cells

pub in_place : (cells l : List ℕ) (a n : ℕ) → judged_line (length cells) l ≡ Ok (Data a n) → Placed cells l a n
unfolding data_of
in_place cells l a n e =
    let h = held (length cells) l a n e in
    let w = long_line l h.shape in
    let m = h.many in
    record {
      shape = h.shape;
      many = m;
      place = h.place;
      long =
          octets_length (take (2 * count l) (drop 9 l)) n
          (length-take-le (2 * count l) (drop 9 l) (rw (length-drop 9 l) (omega arith)) ∙ ap (λ x. 2 * x) m);
      bytes = octets_bytes (take (2 * count l) (drop 9 l));
      room = h.room;
    }

-- a walk that gives no number names no line
pub no_line : (before : ℕ) (ended : Bool) (cells : List ℕ) (ls : List (List ℕ)) → (lines_taken before ended cells ls).number ≡ 0 → (lines_taken before ended cells ls).line ≡ 0
unfolding lines_taken
no_line before ended cells [] z = refl
no_line before ended cells (l ∷ ls) z = go (line_taken ended cells l) (no_line (before + 1) (line_taken ended cells l).ended (line_taken ended cells l).cells ls) z
  where
    stop : (t : LineTaken) (u : Bool) → eqb t.number 0 ≡ u → ((lines_taken (before + 1) t.ended t.cells ls).number ≡ 0 → (lines_taken (before + 1) t.ended t.cells ls).line ≡ 0)
        → (elim u as (λ (x : Bool). LinesTaken) [ true ↦ lines_taken (before + 1) t.ended t.cells ls | false ↦ ended_with t.number (before + 1) t.cells ]).number ≡ 0
        → (elim u as (λ (x : Bool). LinesTaken) [ true ↦ lines_taken (before + 1) t.ended t.cells ls | false ↦ ended_with t.number (before + 1) t.cells ]).line ≡ 0
    stop t true p k z = k z
    stop t false p k z = absurd (let y : ◌≡◌ {A = Bool} true false = sym (eq-eqb t.number 0 z) ∙ p in let x : ◌≡◌ {A = ℕ} 0 1 = cc in omega arith)

    go : (t : LineTaken) → ((lines_taken (before + 1) t.ended t.cells ls).number ≡ 0 → (lines_taken (before + 1) t.ended t.cells ls).line ≡ 0)
        → (after before ls t).number ≡ 0 → (after before ls t).line ≡ 0
    go t k z = stop t (eqb t.number 0) refl k z

pub walk_zero : (before : ℕ) (ended : Bool) (cells : List ℕ) (ls : List (List ℕ)) → (lines_taken before ended cells ls).number ≡ 0
    → lines_taken before ended cells ls ≡ ended_with 0 0 (lines_taken before ended cells ls).cells
walk_zero before ended cells ls z = same (lines_taken before ended cells ls) z (no_line before ended cells ls z)
  where
    same : (w : LinesTaken) → w.number ≡ 0 → w.line ≡ 0 → w ≡ ended_with 0 0 w.cells
    same w p q = ap (λ n. ended_with n w.line w.cells) p ∙ ap (λ n. ended_with 0 n w.cells) q

-- a file that is accepted to its end: each line is, and the cells at the end
module _ (before : ℕ) (ended : Bool) (cells l : List ℕ) (ls : List (List ℕ)) (final : List ℕ)
    (e : lines_taken before ended cells (l ∷ ls) ≡ ended_with 0 0 final) where
  pub walk_accepts : (line_taken ended cells l).number ≡ 0
  unfolding lines_taken
  walk_accepts = go (line_taken ended cells l) e
    where
      stop : (t : LineTaken) (u : Bool) → eqb t.number 0 ≡ u
          → elim u [ true ↦ lines_taken (before + 1) t.ended t.cells ls | false ↦ ended_with t.number (before + 1) t.cells ] ≡ ended_with 0 0 final
          → t.number ≡ 0
      stop t true p f = eqb-true t.number 0 p
      stop t false p f = absurd (let z : before + 1 ≡ 0 = ap (λ (w : LinesTaken). w.line) f in omega arith)

      go : (t : LineTaken) → after before ls t ≡ ended_with 0 0 final → t.number ≡ 0
      go t f = stop t (eqb t.number 0) refl f

  pub walk_rest : (next : Bool) (later : List ℕ) → line_taken ended cells l ≡ took 0 next later → lines_taken (before + 1) next later ls ≡ ended_with 0 0 final
  walk_rest next later t = sym (step_on before ended next cells later l ls t) ∙ e

-- what is set stays set to the end of an accepted file
pub stays : (before : ℕ) (ended : Bool) (cells : List ℕ) (ls : List (List ℕ)) (final : List ℕ) → lines_taken before ended cells ls ≡ ended_with 0 0 final
    → (length final ≡ length cells) × ((k : ℕ) → (cell cells k ≡ unset → ⊥) → cell final k ≡ unset → ⊥)
unfolding lines_taken
stays before ended cells [] final e =
    let q : cells ≡ final = ap (λ (w : LinesTaken). w.cells) e in
    (rw q, λ k n. rw q at n)
stays before ended cells (l ∷ ls) final e =
    let z = walk_accepts before ended cells l ls final e in
    let a = accepted ended cells l z in
    ⊎_elim
    (λ (s : Stored cells l (line_taken ended cells l)).
    let r = stays (before + 1) false (sets cells s.a (data_of l)) ls final (walk_rest before ended cells l ls final e false (sets cells s.a (data_of l)) s.gives) in
    let p = in_place cells l s.a s.n s.line in
    (r.0 ∙ length-sets cells s.a (data_of l), λ k n. r.1 k (still s p k n)))
    (λ (s : Ended cells l (line_taken ended cells l)).
    stays (before + 1) true cells ls final (walk_rest before ended cells l ls final e true cells s.gives))
    a.1
  where
    none : (d : List ℕ) (a k : ℕ) → length d ≡ 0 → cell (sets cells a d) k ≡ cell cells k
    none [] a k h = refl
    none (x ∷ d) a k h = absurd (omega arith)

    still : (s : Stored cells l (line_taken ended cells l)) → Placed cells l s.a s.n → (k : ℕ) → (cell cells k ≡ unset → ⊥)
        → cell (sets cells s.a (data_of l)) k ≡ unset → ⊥
    still s p k n q = go (dec_le s.n 0)
      where
        go : Dec (s.n ≤ 0) → ⊥
        go (yes y) = n (sym (none (data_of l) s.a k (p.long ∙ omega arith)) ∙ q)
        go (no y) =
            let f : s.a + length (data_of l) ≤ length cells = rw p.long (p.room (λ z. y (omega arith))) in
            n (sym (kept cells s.a (data_of l) f p.bytes k (λ g h. n (run_unset_at s.a s.n cells s.free k g (rw p.long at h)))) ∙ q)

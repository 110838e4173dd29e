-- Laws of the pass that judges the lines: the map stands for the cells.
use mathlib.Core.Path.{◌≡◌, refl, sym, ap, ◌∙◌}
use mathlib.Core.Bool.{Bool, true, false, cond}
use mathlib.Core.List.{List, [], ◌∷◌}
use mathlib.Core.Logic.{⊎_elim}
use Prim.Native.Nat.{ℕ, suc, ◌+◌, ◌-◌, ◌≤◌, ◌<◌}
use native.Mathlib.Omega.{arith}
use native.Mathlib.Decide.{dec_le, dec_lt}
use borrow.Author.Tests.{eq-eqb, ne_eqb, eqb-true}
use lib.Dec.{eqb}
use lib.ListN.{length, get_or, take, drop, replicate, length-drop, length-append, length-replicate, drop_of_length-le}
use lib.Seq.{sets, length-sets, take_all, drop-cons, drop-drop}
use Rattle.laws.proofs.Tests.{by_test}
use Rattle.std.specs.Prelude.{Result, Ok, Err, min, max, IsErrAnd}
use Rattle.numbers.specs.Numbers.{refusal_number}
use Rattle.numbers.specs.declared.Refusal.{Refusal}
use Rattle.numbers.specs.declared.Refusal.TheVariants.{SetTwice, NoEndRecord}
use Rattle.numbers.proofs.Refused.{refused}
use Rattle.hex_format.specs.declared.Record.TheVariants.{Data, Last}
use Rattle.laws.specs.Bytes.{Bytes}
use Rattle.hex_format.specs.Lines.{is_line, Line, judged_line, data_of}
use Rattle.hex_format.specs.Reading.{lines, unset, all_unset, first_set, past_set, LineTaken, took, placed, taken_as, line_taken, ended_with, lines_taken}
use Rattle.hex_format.proofs.Laws.Lines.{held, closes, long_line}
use Rattle.hex_format.proofs.Laws.Cells.{cell, unset_at, unset_fresh, first_fresh, past_fresh, run_unset, run_set, stored_set, kept, first_before, first_is, first_there, first_length, past_after, past_is, past_there, past_zero}
use Rattle.hex_format.proofs.Laws.Steps.{step_on, step_stop, accepted, Stored, Ended, in_place}
use Rattle.hex_line.specs.Code.Shape.{first_line, judgement, Judgement, judgement_at}
use Rattle.hex_line.proofs.Laws.Shape.{lines_first, first_front, rest}
use Rattle.hex_read.specs.declared.walk.Taken.{Taken}
use Rattle.hex_read.specs.Code.Map.{marked_at, Run, Clash}
use Rattle.hex_read.specs.Code.Walk.{MapFollows, Within, TakesOn, Takes, TakesLine, Walks}
use Rattle.hex_read.proofs.Laws.Marking.{clear_marked}

-- a cell's mark
mark_free : (x : ℕ) → ◌≡◌ {A = ℕ} (cond (eqb x unset) 0 1) 0 → x ≡ unset
mark_free x e = by_test (eqb x unset) (λ t. eqb-true x unset t) (λ t. absurd (let f : ◌≡◌ {A = ℕ} 1 0 = rw t at e in omega arith))

mark_taken : (x : ℕ) → (◌≡◌ {A = ℕ} (cond (eqb x unset) 0 1) 0 → ⊥) → x ≡ unset → ⊥
mark_taken x n e = n (rw (eq-eqb x unset e))

-- a clear map stands for a flash with nothing set
pub follows_fresh : (n flash : ℕ) → MapFollows (replicate n 0) flash 0 (replicate flash unset)
follows_fresh n flash =
    record {
      marks = λ k h. clear_marked n k ∙ rw (eq-eqb (cell (replicate flash unset) k) unset (unset_at (replicate flash unset) k (unset_fresh flash)));
      first = first_fresh flash;
      past = past_fresh flash;
    }

-- data marked where nothing was set
module _ (old new : List ℕ) (low high : ℕ) (cells : List ℕ) (f : MapFollows old low high cells) (a : ℕ) (vs : List ℕ)
    (r : Run old new a (length vs)) (fits : a + length vs ≤ length cells) (all : Bytes vs) (some : 0 < length vs) where
  free : (k : ℕ) → a ≤ k → k < a + length vs → cell cells k ≡ unset
  free k g h = mark_free (cell cells k) (sym (f.marks k (omega arith)) ∙ r.free k g h)

  new_marks : (k : ℕ) → k < length (sets cells a vs) → marked_at new k ≡ cond (eqb (cell (sets cells a vs) k) unset) 0 1
  new_marks k h = go (dec_le a k) (dec_lt k (a + length vs))
    where
      within : k < length cells
      within = let l = length-sets cells a vs in omega arith

      outside : (a ≤ k → k < a + length vs → ⊥) → marked_at new k ≡ cond (eqb (cell (sets cells a vs) k) unset) 0 1
      outside n = r.outside k n ∙ f.marks k within ∙ ap (λ x. cond (eqb x unset) 0 1) (sym (kept cells a vs fits all k n))

      go : Dec (a ≤ k) → Dec (k < a + length vs) → marked_at new k ≡ cond (eqb (cell (sets cells a vs) k) unset) 0 1
      go (yes y) (yes z) = r.inside k y z ∙ rw (ne_eqb (cell (sets cells a vs) k) unset (stored_set cells a vs fits all k y z))
      go (yes y) (no z) = outside (λ g h. z h)
      go (no y) z = outside (λ g h. y g)

  new_first : min low a ≡ first_set (sets cells a vs)
  new_first = go (dec_le low a)
    where
      e : low ≡ first_set cells
      e = f.first

      there : low < a → cell cells low ≡ unset → ⊥
      there h =
          rw e
          (first_there cells
          (by_test (all_unset cells) (λ t. absurd (let l = first_length cells t in omega (arith, f.first))) (λ t. t)))

      before : (k : ℕ) → k < low → k < a → cell (sets cells a vs) k ≡ unset
      before k h g = kept cells a vs fits all k (λ i j. omega arith) ∙ first_before cells k (omega (arith, f.first))

      at_low : Dec (low < a) → low ≤ a → cell (sets cells a vs) low ≡ unset → ⊥
      at_low (yes y) h z = there y (sym (kept cells a vs fits all low (λ i j. omega arith)) ∙ z)
      at_low (no y) h z = stored_set cells a vs fits all low (omega arith) (omega arith) z

      go : Dec (low ≤ a) → min low a ≡ first_set (sets cells a vs)
      go (yes y) =
          let m : min low a ≡ low = omega arith in
          m ∙ first_is (sets cells a vs) low (λ k h. before k h (omega arith)) (at_low (dec_lt low a) y)
      go (no y) =
          let m : min low a ≡ a = omega arith in
          m ∙ first_is (sets cells a vs) a (λ k h. before k (omega arith) h) (stored_set cells a vs fits all a (omega arith) (omega arith))

  new_past : max high (a + length vs) ≡ past_set (sets cells a vs)
  new_past = go (dec_le high (a + length vs))
    where
      behind : (i : ℕ) → a + length vs ≤ i → high ≤ i → cell (sets cells a vs) i ≡ unset
      behind i h g = kept cells a vs fits all i (λ x y. omega arith) ∙ past_after cells i (omega (arith, f.past))

      somewhere : 0 < high → all_unset cells ≡ false
      somewhere h = by_test (all_unset cells) (λ t. absurd (let z = past_zero cells t in omega (arith, f.past))) (λ t. t)

      there : 0 < high → cell cells (high - 1) ≡ unset → ⊥
      there h = rw f.past (past_there cells (somewhere h)).1

      go : Dec (high ≤ a + length vs) → max high (a + length vs) ≡ past_set (sets cells a vs)
      go (yes y) =
          let k = a + length vs - 1 in
          let m : max high (a + length vs) ≡ suc k = omega arith in
          m
          ∙ past_is (sets cells a vs) k (λ i h. behind i (omega arith) (omega arith))
          (stored_set cells a vs fits all k (omega arith) (omega arith))
      go (no y) =
          let k = high - 1 in
          let m : max high (a + length vs) ≡ suc k = omega arith in
          m
          ∙ past_is (sets cells a vs) k (λ i h. behind i (omega arith) (omega arith))
          (λ z. there (omega arith) (sym (kept cells a vs fits all k (λ u v. omega arith)) ∙ z))

  pub follows_data : MapFollows new (min low a) (max high (a + length vs)) (sets cells a vs)
  follows_data = record { marks = new_marks; first = new_first; past = new_past }

-- what comes of a line that is right but for its place
unfoldable pub late : (ended : Bool) → Taken → Result Taken Refusal
late true s = Err NoEndRecord
late false s = Ok s

pub late_true : (map : List ℕ) (ended : Bool) (s : Taken) (t : LineTaken) → ended ≡ true → Takes map (late ended s) t → 24 ≡ t.number
unfolding late
late_true map true s t e k = k
late_true map false s t e k = absurd (let y : ◌≡◌ {A = ℕ} 0 1 = cc in omega arith)

pub late_false : (map : List ℕ) (ended : Bool) (s : Taken) (t : LineTaken) → ended ≡ false → Takes map (late ended s) t → TakesOn map s t
unfolding late
late_false map false s t e k = k
late_false map true s t e k = absurd (let y : ◌≡◌ {A = ℕ} 0 1 = cc in omega arith)

-- a refusal that is handed on
pub takes_err : (map : List ℕ) (r : Result Taken Refusal) (e : Refusal) (t : LineTaken) → IsErrAnd r (λ y. y ≡ e)
    → refusal_number e ≡ t.number → Takes map r t
takes_err map (Ok s) e t p k = absurd p
takes_err map (Err y) e t p k = ap refusal_number p ∙ k

-- a line that has been judged: refused by itself, without data, the end record
pub bad_takes : (map : List ℕ) (e : Refusal) (s : Taken) → TakesLine map map (Err e) s (Err e)
unfolding line_taken taken_as
bad_takes map e s cells l q f = rw (← q) refl

pub none_takes : (map : List ℕ) (a : ℕ) (s : Taken) → TakesLine map map (Ok (Data a 0)) s (late s.ended s)
unfolding line_taken taken_as placed all_unset late
none_takes map a s cells l e f =
    let p = in_place cells l a 0 (sym e) in
    rw (← e) (go s.ended (empty (data_of l) p.long))
  where
    empty : (d : List ℕ) → length d ≡ 0 → sets cells a d ≡ cells
    empty [] h = refl
    empty (x ∷ d) h = absurd (omega arith)

    go : (ended : Bool) → sets cells a (data_of l) ≡ cells
        → Takes map (late ended (record { ended = ended; low = s.low; high = s.high }))
        (cond ended (took 24 ended cells) (took 0 ended (sets cells a (data_of l))))
    go true z = refl
    go false z = rw z (record { right = refl; same_end = refl; follows = f })

pub last_takes : (map : List ℕ) (s : Taken)
    → TakesLine map map (Ok Last) s (late s.ended (record { ended = true; low = s.low; high = s.high }))
unfolding line_taken taken_as late
last_takes map s cells l e f = rw (← e) (go s.ended)
  where
    go : (ended : Bool) → Takes map (late ended (record { ended = true; low = s.low; high = s.high })) (took (cond ended 24 0) true cells)
    go true = refl
    go false = record { right = refl; same_end = refl; follows = f }

-- a record with data: marked, or an address of it was marked before
pub data_runs : (old new : List ℕ) (a n : ℕ) (s : Taken) → (n ≡ 0 → ⊥) → Run old new a n
    → TakesLine old new (Ok (Data a n)) s (late s.ended (record { ended = s.ended; low = min s.low a; high = max s.high (a + n) }))
unfolding line_taken taken_as placed late
data_runs old new a n s some r cells l e f =
    let p = in_place cells l a n (sym e) in
    let vs = data_of l in
    let t : Run old new a (length vs) = rw p.long r in
    let q : a + length vs ≤ length cells = rw p.long (p.room some) in
    let g : 0 < length vs = omega (arith, p.long) in
    let u : all_unset (take n (drop a cells)) ≡ true =
    run_unset a n cells (p.room some) (λ k i j. free old new s.low s.high cells f a vs t q p.bytes g k i (rw p.long j)) in
    let d = follows_data old new s.low s.high cells f a vs t q p.bytes g in
    rw (← e, u) (go s.ended (rw p.long at d))
  where
    go : (ended : Bool) → MapFollows new (min s.low a) (max s.high (a + n)) (sets cells a (data_of l))
        → Takes new (late ended (record { ended = ended; low = min s.low a; high = max s.high (a + n) }))
        (cond ended (took 24 ended cells) (took 0 ended (sets cells a (data_of l))))
    go true d = refl
    go false d = record { right = refl; same_end = refl; follows = d }

pub data_clashes : (old new : List ℕ) (a n : ℕ) (s : Taken) → (n ≡ 0 → ⊥) → Clash old a n → TakesLine old new (Ok (Data a n)) s (Err SetTwice)
unfolding line_taken taken_as placed
data_clashes old new a n s some x cells l e f =
    let p = in_place cells l a n (sym e) in
    let c : cell cells x.k ≡ unset → ⊥ =
    mark_taken (cell cells x.k) (λ z. x.set (f.marks x.k (omega (arith, x.below, p.room some)) ∙ z)) in
    let u : all_unset (take n (drop a cells)) ≡ false = run_set a n cells x.k x.from x.below c in
    rw (← e, u) refl

-- the file from a place on, as the code cuts it
pub tail_is : (at : ℕ) (f : List ℕ) → take (length f - at) (drop at f) ≡ drop at f
tail_is at f = take_all (length f - at) (drop at f) (rw (length-drop at f) (omega arith))

-- its first line
pub cuts : (at : ℕ) (f : List ℕ) → at < length f → lines (drop at f) ≡ first_line (drop at f) ∷ lines (drop (at + length (first_line (drop at f))) f)
cuts at f h =
    let e = drop-cons f at 0 h in
    ap lines e
    ∙ lines_first (get_or f at 0) (drop (suc at) f)
    ∙ ap (λ s. first_line s ∷ lines (drop (length (first_line s)) s)) (sym e)
    ∙ ap (λ s. first_line (drop at f) ∷ lines s) (drop-drop (length (first_line (drop at f))) at f)

pub first_within : (s : List ℕ) → length (first_line s) ≤ length s
first_within s = let e = ap length (first_front s) ∙ length-append (first_line s) (rest s) in omega arith

-- an accepted line has a record's shape
pub accepted_shape : (ended : Bool) (cells l : List ℕ) → (line_taken ended cells l).number ≡ 0 → is_line l ≡ true
accepted_shape ended cells l z =
    ⊎_elim
    (λ (s : Stored cells l (line_taken ended cells l)). (held (length cells) l s.a s.n s.line).shape)
    (λ (s : Ended cells l (line_taken ended cells l)). (closes (length cells) l s.line).shape)
    (accepted ended cells l z).1

accepted_size : (ended : Bool) (cells l : List ℕ) → (line_taken ended cells l).number ≡ 0 → length (line_taken ended cells l).cells ≡ length cells
accepted_size ended cells l z =
    ⊎_elim
    (λ (s : Stored cells l (line_taken ended cells l)). ap (λ (t : LineTaken). length t.cells) s.gives ∙ length-sets cells s.a (data_of l))
    (λ (s : Ended cells l (line_taken ended cells l)). ap (λ (t : LineTaken). length t.cells) s.gives)
    (accepted ended cells l z).1

-- with the file read to a place, the code's state stands for that of the fold
pub record Walking (map file : List ℕ) (flash at line : ℕ) (s : Taken) : Type 0 where
  pub within : at ≤ length file
  pub counted : line ≤ at
  pub cells : List ℕ
  pub size : length cells ≡ flash
  pub follows : MapFollows map s.low s.high cells
  pub goes : lines_taken 0 false (replicate flash unset) (lines file) ≡ lines_taken line s.ended cells (lines (drop at file))

pub walk_starts : (n flash : ℕ) (file map : List ℕ) → map ≡ replicate n 0
    → Walking map file flash 0 0 (record { ended = false; low = flash; high = 0 })
walk_starts n flash file map e =
    record {
      within = omega arith;
      counted = omega arith;
      cells = replicate flash unset;
      size = length-replicate {A = ℕ} flash unset;
      follows = rw e (follows_fresh n flash);
      goes = refl;
    }

pub judged_within : (flash : ℕ) (s : List ℕ) (line : Line) (bytes most : ℕ) → judgement line bytes ≡ judgement_at flash s → flash ≤ most → Within line most
unfolding judgement_at
judged_within flash s line bytes most j h a n e some =
    let p : line ≡ judged_line flash (first_line s) = ap (λ (x : Judgement). x.line) j in
    let r = (held flash (first_line s) a n (sym p ∙ e)).room some in
    omega arith

module _ (map file : List ℕ) (flash at line : ℕ) (s : Taken) (w : Walking map file flash at line s) (h : at < length file)
    (found : Line) (bytes : ℕ) (j : judgement found bytes ≡ judgement_at flash (drop at file)) (new : List ℕ) where
  abbrev l : List ℕ
  l = first_line (drop at file)

  abbrev t : LineTaken
  t = line_taken s.ended w.cells (first_line (drop at file))

  is_judged : found ≡ judged_line (length w.cells) l
  unfolding judgement_at
  is_judged = ap (λ (x : Judgement). x.line) j ∙ ap (λ n. judged_line n l) (sym w.size)

  cut : lines (drop at file) ≡ l ∷ lines (drop (at + length l) file)
  cut = cuts at file h

  numbered : (n : ℕ) → n ≡ t.number → t ≡ took n t.ended t.cells
  numbered n e = rw e

  pub walk_stops : (e : Refusal) → TakesLine map new found s (Err e)
      → Walks (refusal_number e) (line + 1) 0 0 (lines_taken 0 false (replicate flash unset) (lines file))
  walk_stops e k =
      let z = refused e in
      let n : refusal_number e ≡ t.number = k w.cells l is_judged w.follows in
      let f : lines_taken 0 false (replicate flash unset) (lines file) ≡ ended_with (refusal_number e) (line + 1) t.cells =
      w.goes
      ∙ ap (lines_taken line s.ended w.cells) cut
      ∙ step_stop line (refusal_number e) s.ended t.ended w.cells t.cells l (lines (drop (at + length l) file)) (numbered (refusal_number e) n)
      (λ q. omega arith) in
      rw f (record { same_number = refl; same_line = refl; first = λ q. absurd (omega arith); past = λ q. absurd (omega arith) })

  module _ (next : Taken) (k : TakesLine map new found s (Ok next)) where
    takes : TakesOn new next t
    takes = k w.cells l is_judged w.follows

    pub goes_by : bytes ≡ length l
    unfolding judgement_at
    goes_by = ap (λ (x : Judgement). x.bytes) j ∙ rw (accepted_shape s.ended w.cells l takes.right)

    pub by_some : 11 < length l
    by_some = let s = long_line l (accepted_shape s.ended w.cells l takes.right) in omega arith

    pub by_within : at + bytes ≤ length file
    by_within =
        let b = goes_by in
        let f = first_within (drop at file) in
        let d = length-drop at file in
        omega arith

    pub walk_on : Walking new file flash (at + bytes) (line + 1) next
    walk_on =
        let b = goes_by in
        let m = by_some in
        record {
          within = by_within;
          counted = let c = w.counted in omega arith;
          cells = t.cells;
          size = accepted_size s.ended w.cells l takes.right ∙ w.size;
          follows = takes.follows;
          goes =
              w.goes
              ∙ ap (lines_taken line s.ended w.cells) cut
              ∙ step_on line s.ended next.ended w.cells t.cells l (lines (drop (at + length l) file))
              (numbered 0 (sym takes.right) ∙ ap (λ n. took 0 n t.cells) (sym takes.same_end))
              ∙ ap (λ n. lines_taken (line + 1) next.ended t.cells (lines (drop (at + n) file))) (sym b);
        }

module _ (map file : List ℕ) (flash at line : ℕ) (s : Taken) (w : Walking map file flash at line s) (h : length file ≤ at) where
  ends : lines_taken 0 false (replicate flash unset) (lines file) ≡ ended_with (cond s.ended 0 24) 0 w.cells
  unfolding lines_taken lines
  ends = w.goes ∙ ap (λ x. lines_taken line s.ended w.cells (lines x)) (drop_of_length-le file {i = at} h)

  pub walk_ends : s.ended ≡ true → Walks 0 0 s.low s.high (lines_taken 0 false (replicate flash unset) (lines file))
  walk_ends t =
      let e : lines_taken 0 false (replicate flash unset) (lines file) ≡ ended_with 0 0 w.cells =
      ends ∙ ap (λ (b : Bool). ended_with (cond b 0 24) 0 w.cells) t in
      rw e (record { same_number = refl; same_line = refl; first = λ z. w.follows.first; past = λ z. w.follows.past })

  -- without an end record
  pub walk_unended : s.ended ≡ false → Walks 24 0 0 0 (lines_taken 0 false (replicate flash unset) (lines file))
  walk_unended t =
      let e : lines_taken 0 false (replicate flash unset) (lines file) ≡ ended_with 24 0 w.cells =
      ends ∙ ap (λ (b : Bool). ended_with (cond b 0 24) 0 w.cells) t in
      rw e (record { same_number = refl; same_line = refl; first = λ z. absurd (omega arith); past = λ z. absurd (omega arith) })

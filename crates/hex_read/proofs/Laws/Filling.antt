-- Laws of the pass that fills the image.
use mathlib.Core.Path.{◌≡◌, refl, sym, ap, ◌∙◌}
use mathlib.Core.Bool.{Bool, true, false}
use mathlib.Core.List.{List, [], ◌∷◌}
use mathlib.Core.Logic.{⊎_elim}
use Prim.Native.Nat.{ℕ, zero, suc, ◌+◌, ◌-◌, ◌*◌, ◌≤◌, ◌<◌}
use native.Mathlib.Omega.{arith}
use native.Mathlib.Decide.{dec_le, dec_lt}
use lib.ListN.{length, get_or, take, drop, replicate, length-drop, length-replicate, get_or-replicate, drop_of_length-le}
use lib.Seq.{sets, length-sets, ext_get_or}
use Rattle.std.specs.Prelude.{Option, None, Some, MatchOption, unwrap_or}
use Rattle.laws.specs.Bytes.{Bytes}
use Rattle.hex_format.specs.Digits.{octets}
use Rattle.hex_format.specs.Lines.{is_line, count, address, data_of}
use Rattle.hex_format.specs.Reading.{lines, unset, cell_byte, bytes, LineTaken, line_taken, LinesTaken, ended_with, lines_taken}
use Rattle.hex_format.proofs.Laws.Lines.{closes}
use Rattle.hex_format.proofs.Laws.Cells.{cell, sets_before, sets_in, sets_after, stored_set, window_long, window_at, byte_is, byte_below, unset_at, unset_fresh}
use Rattle.hex_format.proofs.Laws.Steps.{accepted, Stored, Ended, Placed, in_place, walk_accepts, walk_rest, stays, walk_zero}
use Rattle.hex_line.specs.Code.Shape.{first_line, line_end}
use Rattle.hex_line.proofs.Laws.Shape.{first_long, first_count, first_address, first_data, first_end}
use Rattle.hex_read.specs.Code.Fill.{final, Window, filled}
use Rattle.hex_read.proofs.Laws.Judging.{tail_is, cuts, first_within, accepted_shape}

-- the length of a record's line, by its line end
module _ (s : List ℕ) (e : is_line (first_line s) ≡ true) where
  pub front_long : 2 * count s + 11 < length (first_line s)
  front_long = let c = first_count s e in let h = first_long s e in omega arith

  pub front_within : 2 * count s + 11 < length s
  front_within = let h = front_long in let w = first_within s in omega arith

  -- the digits and the line end that the code finds behind them are the line
  pub front_end : (n : ℕ) (o : Option ℕ) → n ≡ count s
      → (let r = take (length s - (2 * n + 11)) (drop (2 * n + 11) s) in MatchOption o (line_end r ≡ 0) (λ k. (k ≡ line_end r) × (0 < k)))
      → 2 * n + 11 + unwrap_or o 0 ≡ length (first_line s)
  front_end n None c p =
      let h = front_long in
      let f = first_end s e in
      let q : line_end (drop (2 * count s + 11) s) ≡ 0 = rw (tail_is (2 * n + 11) s, c) at p in
      omega arith
  front_end n (Some k) c p =
      let h = front_long in
      let f = first_end s e in
      let q : k ≡ line_end (drop (2 * count s + 11) s) = rw (tail_is (2 * n + 11) s, c) at p.0 in
      omega arith

-- the window of a fresh flash, and of cells with data stored
pub window_fresh : (flash start n : ℕ) → start + n ≤ flash → replicate n 0xff ≡ bytes (take n (drop start (replicate flash unset)))
unfolding cell_byte
window_fresh flash start n h =
    let l = length-replicate {A = ℕ} flash unset in
    let w : length (bytes (take n (drop start (replicate flash unset)))) ≡ n = window_long (replicate flash unset) start n (omega arith) in
    let r = length-replicate {A = ℕ} n 0xff in
    ext_get_or 0xff (replicate n 0xff) (bytes (take n (drop start (replicate flash unset)))) (r ∙ sym w)
    (λ i k. get_or-replicate n i 0xff 0xff (omega arith)
    ∙ ap cell_byte (sym (unset_at (replicate flash unset) (start + i) (unset_fresh flash)))
    ∙ sym (window_at (replicate flash unset) start n (omega arith) i (omega arith)))

pub window_sets : (cells : List ℕ) (start n a : ℕ) (vs : List ℕ) → start + n ≤ length cells → start ≤ a → a + length vs ≤ start + n → Bytes vs
    → sets (bytes (take n (drop start cells))) (a - start) vs ≡ bytes (take n (drop start (sets cells a vs)))
window_sets cells start n a vs fits from below all =
    let s = length-sets cells a vs in
    let o = bytes (take n (drop start cells)) in
    let w = window_long cells start n fits in
    let v = window_long (sets cells a vs) start n (omega arith) in
    let l = length-sets o (a - start) vs in
    ext_get_or 0xff (sets o (a - start) vs) (bytes (take n (drop start (sets cells a vs)))) (omega arith)
    (λ i h. at i (omega arith) (dec_lt i (a - start)) (dec_lt i (a - start + length vs)) ∙ sym (window_at (sets cells a vs) start n (omega arith) i (omega arith)))
  where
    at : (i : ℕ) → i < n → Dec (i < a - start) → Dec (i < a - start + length vs)
        → get_or (sets (bytes (take n (drop start cells))) (a - start) vs) i 0xff ≡ cell_byte (cell (sets cells a vs) (start + i))
    at i h (yes y) z =
        sets_before 0xff vs (bytes (take n (drop start cells))) (a - start) i y
        ∙ window_at cells start n fits i h
        ∙ ap cell_byte (sym (sets_before unset vs cells a (start + i) (omega arith)))
    at i h (no y) (yes z) =
        let j = i - (a - start) in
        let w = window_long cells start n fits in
        let e : a - start + j ≡ i = omega arith in
        let f : a + j ≡ start + i = omega arith in
        let p = sets_in 0xff vs (bytes (take n (drop start cells))) (a - start) j (omega arith) (omega arith) in
        let q = sets_in unset vs cells a j (omega arith) (omega arith) in
        (rw e at p)
        ∙ same vs j (omega arith)
        ∙ sym (byte_is (get_or vs j unset) (byte_below vs j unset all (omega arith)))
        ∙ ap cell_byte (sym (rw f at q))
      where
        same : (vs : List ℕ) (j : ℕ) → j < length vs → get_or vs j 0xff ≡ get_or vs j unset
        same [] j h = absurd (omega arith)
        same (v ∷ vs) zero h = refl
        same (v ∷ vs) (suc j) h = same vs j (omega arith)
    at i h (no y) (no z) =
        sets_after 0xff vs (bytes (take n (drop start cells))) (a - start) i (omega arith)
        ∙ window_at cells start n fits i h
        ∙ ap cell_byte (sym (sets_after unset vs cells a (start + i) (omega arith)))

-- with the file read to a place, the image has the bytes set so far
pub record Filling (file last : List ℕ) (start n : ℕ) (image : List ℕ) (at : ℕ) : Type 0 where
  pub within : at ≤ length file
  pub line : ℕ
  pub ended : Bool
  pub cells : List ℕ
  pub size : start + n ≤ length cells
  pub goes : lines_taken line ended cells (lines (drop at file)) ≡ ended_with 0 0 last
  pub holds : image ≡ bytes (take n (drop start cells))

pub fill_starts : (file : List ℕ) (start n flash : ℕ) (image : List ℕ) → Window file start n flash → image ≡ replicate n 0xff
    → Filling file (final flash file) start n image 0
unfolding final
fill_starts file start n flash image w e =
    record {
      within = omega arith;
      line = 0;
      ended = false;
      cells = replicate flash unset;
      size = rw (length-replicate {A = ℕ} flash unset) w.inside;
      goes = walk_zero 0 false (replicate flash unset) (lines file) w.right;
      holds = e ∙ window_fresh flash start n w.inside;
    }

none_set : (d : List ℕ) (o : List ℕ) (a : ℕ) → length d ≡ 0 → sets o a d ≡ o
none_set [] o a h = refl
none_set (x ∷ d) o a h = absurd (omega arith)

module _ (file : List ℕ) (start n flash : ℕ) (image : List ℕ) (at : ℕ) (w : Window file start n flash)
    (f : Filling file (final flash file) start n image at) (h : at < length file) where
  abbrev s : List ℕ
  s = drop at file

  abbrev l : List ℕ
  l = first_line (drop at file)

  abbrev t : LineTaken
  t = line_taken f.ended f.cells (first_line (drop at file))

  here : lines_taken f.line f.ended f.cells (l ∷ lines (drop (at + length l) file)) ≡ ended_with 0 0 (final flash file)
  here = ap (lines_taken f.line f.ended f.cells) (sym (cuts at file h)) ∙ f.goes

  right : t.number ≡ 0
  right = walk_accepts f.line f.ended f.cells l (lines (drop (at + length l) file)) (final flash file) here

  pub fill_shape : is_line (first_line (drop at file)) ≡ true
  fill_shape = accepted_shape f.ended f.cells l right

  -- what a record with data sets lies in the window
  module _ (d : Stored f.cells l t) (some : d.n ≡ 0 → ⊥) where
    p : Placed f.cells l d.a d.n
    p = in_place f.cells l d.a d.n d.line

    room : d.a + length (data_of l) ≤ length f.cells
    room = rw p.long (p.room some)

    in_final : (k : ℕ) → d.a ≤ k → k < d.a + d.n → cell (final flash file) k ≡ unset → ⊥
    in_final k g j =
        (stays (f.line + 1) false (sets f.cells d.a (data_of l)) (lines (drop (at + length l) file)) (final flash file)
        (walk_rest f.line f.ended f.cells l (lines (drop (at + length l) file)) (final flash file) here false (sets f.cells d.a (data_of l)) d.gives)
        ).1 k (stored_set f.cells d.a (data_of l) room p.bytes k g (rw p.long j))

    from : start ≤ d.a
    from = w.from d.a (in_final d.a (omega arith) (omega (arith, some)))

    below : d.a + d.n ≤ start + n
    below =
        let k = d.a + d.n - 1 in
        let q : 0 < d.n = omega (arith, some) in
        let b = w.below k (in_final k (omega arith) (omega arith)) in
        omega arith

  pub fill_room : (count s ≡ 0 → ⊥) → (start ≤ address s) × (address s + count s ≤ start + n)
  fill_room some =
      ⊎_elim
      (λ (d : Stored f.cells l t).
      let p = in_place f.cells l d.a d.n d.line in
      let c : count s ≡ d.n = sym (first_count s fill_shape) ∙ p.many in
      let a : address s ≡ d.a = sym (first_address s fill_shape) ∙ p.place in
      let q : d.n ≡ 0 → ⊥ = λ z. some (c ∙ z) in
      rw (c, a) (from d q, below d q))
      (λ (d : Ended f.cells l t). absurd (some (sym (first_count s fill_shape) ∙ (closes (length f.cells) l d.line).none)))
      (accepted f.ended f.cells l right).1

  pub fill_on : Filling file (final flash file) start n (sets image (address (drop at file) - start) (octets (take (2 * count (drop at file)) (drop 9 (drop at file))))) (at + length l)
  unfolding octets
  fill_on =
      ⊎_elim
      (λ (d : Stored f.cells l t).
      let p = in_place f.cells l d.a d.n d.line in
      record {
        within = let q = first_within s in let r = length-drop at file in omega arith;
        line = f.line + 1;
        ended = false;
        cells = sets f.cells d.a (data_of l);
        size = rw (length-sets f.cells d.a (data_of l)) f.size;
        goes = walk_rest f.line f.ended f.cells l (lines (drop (at + length l) file)) (final flash file) here false (sets f.cells d.a (data_of l)) d.gives;
        holds =
            ap (λ x. sets image (x - start) (octets (take (2 * count s) (drop 9 s)))) (sym (first_address s fill_shape) ∙ p.place)
            ∙ ap (λ x. sets image (d.a - start) x) (sym (first_data s fill_shape))
            ∙ ap (λ x. sets x (d.a - start) (data_of l)) f.holds
            ∙ put d p (dec_le d.n 0);
      })
      (λ (d : Ended f.cells l t).
      record {
        within = let q = first_within s in let r = length-drop at file in omega arith;
        line = f.line + 1;
        ended = true;
        cells = f.cells;
        size = f.size;
        goes = walk_rest f.line f.ended f.cells l (lines (drop (at + length l) file)) (final flash file) here true f.cells d.gives;
        holds =
            ap (λ x. sets image (address s - start) (octets (take (2 * x) (drop 9 s))))
            (sym (first_count s fill_shape) ∙ (closes (length f.cells) l d.line).none)
            ∙ f.holds;
      })
      (accepted f.ended f.cells l right).1
    where
      put : (d : Stored f.cells l t) → Placed f.cells l d.a d.n → Dec (d.n ≤ 0)
          → sets (bytes (take n (drop start f.cells))) (d.a - start) (data_of l) ≡ bytes (take n (drop start (sets f.cells d.a (data_of l))))
      put d p (yes y) =
          let z : length (data_of l) ≡ 0 = p.long ∙ omega arith in
          none_set (data_of l) (bytes (take n (drop start f.cells))) (d.a - start) z
          ∙ ap (λ x. bytes (take n (drop start x))) (sym (none_set (data_of l) f.cells d.a z))
      put d p (no y) =
          let q : d.n ≡ 0 → ⊥ = λ z. y (omega arith) in
          window_sets f.cells start n d.a (data_of l) f.size (from d q) (rw p.long (below d q)) p.bytes

pub fill_ends : (file : List ℕ) (start n flash : ℕ) (image : List ℕ) (at : ℕ) → Filling file (final flash file) start n image at → length file ≤ at
    → image ≡ filled flash start n file
unfolding filled lines_taken lines
fill_ends file start n flash image at f h =
    let e : lines_taken f.line f.ended f.cells [] ≡ ended_with 0 0 (final flash file) =
    ap (λ s. lines_taken f.line f.ended f.cells (lines s)) (sym (drop_of_length-le file {i = at} h)) ∙ f.goes in
    f.holds ∙ ap (λ x. bytes (take n (drop start x))) (ap (λ (v : LinesTaken). v.cells) e)

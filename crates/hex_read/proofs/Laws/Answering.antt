-- Laws of the answer: the pages from the first touched one to the last, or a number.
use mathlib.Core.Path.{◌≡◌, refl, sym, ap, ◌∙◌}
use mathlib.Core.Bool.{true, false}
use mathlib.Core.List.{List, [], ◌++◌}
use Prim.Native.Nat.{ℕ, ◌+◌, ◌-◌, ◌*◌, ◌/◌, ◌≤◌, ◌<◌}
use native.Mathlib.Omega.{arith}
use borrow.Author.Tests.{lt-ltb, le-ltb, ne_eqb}
use lib.ListN.{length, take, drop, replicate, length-drop, length-replicate}
use lib.Seq.{length-take-le}
use Rattle.laws.proofs.Tests.{by_test}
use Rattle.std.specs.Prelude.{Result, Ok, Err, IsErrAnd, unwrap_or}
use Rattle.numbers.specs.Numbers.{refusal_number}
use Rattle.hex_format.specs.Reading.{lines, unset, all_unset, first_set, bytes, LinesTaken, lines_taken, reading_done, image_in_buffer, copied, cut_out, read_answer}
use Rattle.hex_format.proofs.Laws.Cells.{first_there, past_there, past_zero, past_within, set_from, set_below, bytes_length}
use Rattle.hex_format.proofs.Laws.Steps.{stays, walk_zero}
use Rattle.hex_format.proofs.Laws.Pages.{page_start, page_end, page_within, page_number}
use Rattle.hex_read.specs.declared.walk.Fault.{Fault}
use Rattle.hex_read.specs.declared.read.Filled.{Filled}
use Rattle.hex_read.specs.Code.Walk.{Walks}
use Rattle.hex_read.specs.Code.Read.{reading_of}
use Rattle.hex_read.specs.Code.Fill.{final, Window}

module _ (size room number line low high : ℕ) (old : List ℕ) (w : LinesTaken) (e : Walks number line low high w) where
  pub answer_stops : (number ≡ 0 → ⊥) → reading_done number line 0 0 old ≡ image_in_buffer (read_answer size room w) old
  unfolding read_answer image_in_buffer
  answer_stops n = rw (← e.same_number, ← e.same_line, ne_eqb number 0 n)

  module _ (z : number ≡ 0) where
    ok : w.number ≡ 0
    ok = sym e.same_number ∙ z

    pub answer_none : high ≡ 0 → reading_done 25 0 0 0 old ≡ image_in_buffer (read_answer size room w) old
    unfolding read_answer cut_out image_in_buffer
    answer_none h =
        let u : all_unset w.cells ≡ true =
        by_test (all_unset w.cells) (λ t. t) (λ t. absurd (let p = (past_there w.cells t).0 in omega (arith, e.past z))) in
        rw (ok, u)

    module _ (some : high ≡ 0 → ⊥) where
      touched : all_unset w.cells ≡ false
      touched = by_test (all_unset w.cells) (λ t. absurd (let p = past_zero w.cells t in some (e.past z ∙ sym p))) (λ t. t)

      pub in_order : low < high
      in_order =
          let f = set_below w.cells (first_set w.cells) (first_there w.cells touched) in
          omega (arith, e.first z, e.past z)

      pub past_end : high ≤ length w.cells
      past_end = omega (arith, e.past z, past_within w.cells)

      pub answer_small : room < (high - 1) / size * size + size - low / size * size → reading_done 26 0 0 0 old ≡ image_in_buffer (read_answer size room w) old
      unfolding read_answer cut_out copied image_in_buffer
      answer_small h =
          rw (ok, touched, ← e.first z, ← e.past z, lt-ltb room ((high - 1) / size * size + size - low / size * size) h)

      pub answer_image : (n : ℕ) → n ≡ (high - 1) / size * size + size - low / size * size → n ≤ room → low / size * size + n ≤ length w.cells
          → reading_done 0 0 (low / size) n (bytes (take n (drop (low / size * size) w.cells)) ++ drop n old) ≡ image_in_buffer (read_answer size room w) old
      unfolding read_answer cut_out copied image_in_buffer
      answer_image n q h g =
          let l : length (bytes (take n (drop (low / size * size) w.cells))) ≡ n =
          bytes_length (take n (drop (low / size * size) w.cells))
          ∙ length-take-le n (drop (low / size * size) w.cells) (rw (length-drop (low / size * size) w.cells) (omega arith)) in
          rw (ok, touched, ← e.first z, ← e.past z, ← q, le-ltb room n h, l)

-- the window of an accepted file
pub final_long : (flash : ℕ) (file : List ℕ) → (lines_taken 0 false (replicate flash unset) (lines file)).number ≡ 0 → length (final flash file) ≡ flash
unfolding final
final_long flash file z =
    (stays 0 false (replicate flash unset) (lines file) (final flash file) (walk_zero 0 false (replicate flash unset) (lines file) z)).0
    ∙ length-replicate {A = ℕ} flash unset

module _ (size count number line low high : ℕ) (file : List ℕ) (e : Walks number line low high (lines_taken 0 false (replicate (size * count) unset) (lines file)))
    (z : number ≡ 0) (some : high ≡ 0 → ⊥) (pos : 0 < size) where
  pub window_cells : length (lines_taken 0 false (replicate (size * count) unset) (lines file)).cells ≡ size * count
  unfolding final
  window_cells = final_long (size * count) file (sym e.same_number ∙ z)

  pub window_order : low < high
  window_order = in_order size 0 number line low high [] (lines_taken 0 false (replicate (size * count) unset) (lines file)) e z some

  pub window_past : high ≤ size * count
  window_past =
      let p = past_end size 0 number line low high [] (lines_taken 0 false (replicate (size * count) unset) (lines file)) e z some in
      let l = window_cells in
      omega arith

  pub window_stop : (high - 1) / size * size + size ≤ size * count
  window_stop = let p = window_past in page_within (high - 1) size count (omega (arith, some))

  pub window_start : low / size * size ≤ (high - 1) / size * size + size
  window_start =
      let o = window_order in
      let s = page_start low size in
      let t = page_end (high - 1) size pos in
      omega arith

  pub window : (n : ℕ) → n ≡ (high - 1) / size * size + size - low / size * size → Window file (low / size * size) n (size * count)
  unfolding final
  window n q =
      let a = window_start in
      let b = window_stop in
      record {
        right = sym e.same_number ∙ z;
        from = λ k s.
            let f = set_from (lines_taken 0 false (replicate (size * count) unset) (lines file)).cells k s in
            let p = page_start low size in
            omega (arith, e.first z);
        below = λ k s.
            let f = set_below (lines_taken 0 false (replicate (size * count) unset) (lines file)).cells k s in
            let p = page_end (high - 1) size pos in
            omega (arith, e.past z);
        inside = omega arith;
      }

-- all that the code's numbers need of the window
pub record Cut (size count low high : ℕ) : Type 0 where
  pub order : low < high
  pub past : high ≤ size * count
  pub stop : (high - 1) / size * size + size ≤ size * count
  pub start : low / size * size ≤ (high - 1) / size * size + size
  pub number : low / size ≤ low

pub cut : (size count low high : ℕ) (file : List ℕ) → Walks 0 0 low high (lines_taken 0 false (replicate (size * count) unset) (lines file))
    → (high ≡ 0 → ⊥) → 0 < size → Cut size count low high
cut size count low high file e some pos = record {
  order = window_order size count 0 0 low high file e refl some pos;
  past = window_past size count 0 0 low high file e refl some pos;
  stop = window_stop size count 0 0 low high file e refl some pos;
  start = window_start size count 0 0 low high file e refl some pos;
  number = page_number low size pos;
}

-- a refusal that is handed on
pub reading_err : (r : Result Filled Fault) (f : Fault) (buffer : List ℕ) → IsErrAnd r (λ y. y ≡ f)
    → reading_of r buffer ≡ reading_done (refusal_number f.refusal) (unwrap_or f.line 0) 0 0 buffer
reading_err (Ok x) f buffer p = absurd p
reading_err (Err y) f buffer p = ap (λ (x : Fault). reading_done (refusal_number x.refusal) (unwrap_or x.line 0) 0 0 buffer) p

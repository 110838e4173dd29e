-- What is written into a record.
use mathlib.Core.Path.{◌≡◌, refl, sym, ap, ◌∙◌}
use mathlib.Core.Bool.{cond}
use mathlib.Core.List.{List, [], ◌∷◌, ◌++◌, append-nil}
use Prim.Native.Nat.{ℕ, zero, suc, ◌+◌, ◌-◌, ◌≤◌, ◌<◌}
use native.Mathlib.Numerals.{add-one}
use native.Mathlib.Omega.{arith}
use lib.Dec.{eqb}
use lib.ListN.{length, take, drop, get_or, set, length-take, length-drop, drop_of_length-le}
use lib.Seq.{take_all, take-suc, drop-cons, set_at, get_or-append-add, get_or-drop, get_or-take, length-take-le, append_snoc}
use borrow.Rule.Slice.PartMut.{put_mid}
use Rattle.radio_job.specs.declared.JobPoint.{JobPoint}
use Rattle.radio_job.specs.Image.{merged}
use Rattle.radio_job.proofs.Laws.Image.{merged_long}
use Rattle.radio_record.specs.Record.{mask_of, point_bytes}
use Rattle.radio_advance.specs.Code.Kept.{merged_held, held_at}

-- The last eight bytes of a record, put in place.
pub put_numbers : (n : ℕ) (q : JobPoint) (h t p : List ℕ) → length h ≡ 520 → t ≡ point_bytes n q → p ≡ t → put_mid 512 8 h p ≡ held_at n q h
unfolding held_at
put_numbers n q h t p l e k =
    let d = length-drop 512 h in
    let b : length (drop 512 h) ≤ 8 = omega arith in
    ap (λ (x : List ℕ). take 512 h ++ (p ++ x)) (drop_of_length-le (drop 512 h) {i = 8} b)
    ∙ ap (λ (x : List ℕ). take 512 h ++ x) (append-nil p ∙ k ∙ e)

-- The old configuration merged byte by byte.
merged_at : (ms ds os : List ℕ) (i : ℕ) → i < length ms → i < length ds → i < length os
    → get_or (merged ms ds os) i 0 ≡ cond (eqb (get_or ms i 0) 0xFF) (get_or ds i 0) (get_or os i 0)
unfolding merged
merged_at ms ds [] i a b c = absurd (let z : i < 0 = c in omega arith)
merged_at ms [] (o ∷ os) i a b c = absurd (let z : i < 0 = b in omega arith)
merged_at [] (d ∷ ds) (o ∷ os) i a b c = absurd (let z : i < 0 = a in omega arith)
merged_at (m ∷ ms) (d ∷ ds) (o ∷ os) zero a b c = refl
merged_at (m ∷ ms) (d ∷ ds) (o ∷ os) (suc i) a b c =
    let x : suc i < suc (length ms) = a in
    let y : suc i < suc (length ds) = b in
    let z : suc i < suc (length os) = c in
    merged_at ms ds os i (omega arith) (omega arith) (omega arith)

store_one : (m d : List ℕ) (i : ℕ) → i < length m → i < length d → set (take i m ++ drop i d) i (get_or m i 0) ≡ take (i + 1) m ++ drop (i + 1) d
store_one m d i a b =
    let t : length (take i m) ≡ i = length-take-le i m (omega arith) in
    ap (λ (x : List ℕ). set (take i m ++ x) i (get_or m i 0)) (drop-cons d i 0 b)
    ∙ set_at (take i m) (get_or d i 0) (drop (suc i) d) (get_or m i 0) i t
    ∙ sym (append_snoc (take i m) (get_or m i 0) (drop (suc i) d))
    ∙ ap (λ (x : List ℕ). x ++ drop (suc i) d) (sym (take-suc m i 0 a))
    ∙ ap (λ (k : ℕ). take k m ++ drop k d) (sym (add-one i))

module _ (h old : List ℕ) (l : length h ≡ 520) (lo : length old ≡ 256) where
  abbrev all : List ℕ
  all = merged (mask_of h) (take 256 h) old

  mask_of_long : length (mask_of h) ≡ 256
  mask_of_long = let a = length-take 256 (drop 256 h) in let b = length-drop 256 h in omega arith

  page_of_long : length (take 256 h) ≡ 256
  page_of_long = let a = length-take 256 h in omega arith

  all_long : length all ≡ 256
  all_long = merged_long 256 (mask_of h) (take 256 h) old mask_of_long page_of_long lo

  -- what is still there behind what was written
  behind : (i k : ℕ) → i ≤ 256 → i ≤ k → get_or (take i all ++ drop i h) k 0 ≡ get_or h k 0
  behind i k a b =
      let w = all_long in
      let t : length (take i all) ≡ i = length-take-le i all (omega arith) in
      let z : k ≡ length (take i all) + (k - i) = omega arith in
      let y : i + (k - i) ≡ k = omega arith in
      ap (λ (x : ℕ). get_or (take i all ++ drop i h) x 0) z ∙ get_or-append-add (take i all) (drop i h) (k - i) 0 ∙ get_or-drop i h (k - i) 0
      ∙ ap (λ (x : ℕ). get_or h x 0) y

  pub merge_more : (now : List ℕ) (i b : ℕ) → i < 256 → now ≡ take i all ++ drop i h
      → b ≡ cond (eqb (get_or now (256 + i) 0) 0xFF) (get_or now i 0) (get_or old i 0) → set now i b ≡ take (i + 1) all ++ drop (i + 1) h
  merge_more now i b a e q =
      let w = all_long in
      let m : get_or now (256 + i) 0 ≡ get_or (mask_of h) i 0 =
      ap (λ (x : List ℕ). get_or x (256 + i) 0) e ∙ behind i (256 + i) (omega arith) (omega arith)
      ∙ sym (get_or-drop 256 h i 0) ∙ sym (get_or-take 256 (drop 256 h) i 0 a) in
      let d : get_or now i 0 ≡ get_or (take 256 h) i 0 =
      ap (λ (x : List ℕ). get_or x i 0) e ∙ behind i i (omega arith) (omega arith) ∙ sym (get_or-take 256 h i 0 a) in
      let x = mask_of_long in
      let y = page_of_long in
      let v : b ≡ get_or all i 0 =
      q ∙ ap (λ (z : ℕ). cond (eqb z 0xFF) (get_or now i 0) (get_or old i 0)) m
      ∙ ap (λ (z : ℕ). cond (eqb (get_or (mask_of h) i 0) 0xFF) z (get_or old i 0)) d
      ∙ sym (merged_at (mask_of h) (take 256 h) old i (omega arith) (omega arith) (omega arith)) in
      ap (λ (z : List ℕ). set z i b) e ∙ ap (λ (z : ℕ). set (take i all ++ drop i h) i z) v ∙ store_one all h i (omega arith) (omega arith)

  pub merge_done : (now : List ℕ) (i : ℕ) → i ≡ 256 → now ≡ take i all ++ drop i h → now ≡ merged_held h old
  unfolding merged_held
  merge_done now i z e =
      let w = all_long in
      e ∙ ap (λ (k : ℕ). take k all ++ drop k h) z ∙ ap (λ (x : List ℕ). x ++ drop 256 h) (take_all 256 all (omega arith))

-- A page of the padded image: bytes of the image, and 0xFF behind them.
use mathlib.Core.Path.{◌≡◌, sym, ap, ◌∙◌}
use mathlib.Core.List.{List, ◌++◌, append-nil}
use Prim.Native.Nat.{ℕ, zero, suc, ◌+◌, ◌*◌, ◌-◌, min, ◌≤◌, ◌<◌}
use native.Mathlib.Omega.{arith}
use lib.Dec.{ltb}
use lib.ListN.{length, take, drop, replicate, length-append, length-drop, length-replicate}
use lib.Seq.{take_all, take-append-le, drop-append-le}
use borrow.Author.Tests.{eq-eqb, ne_eqb, lt-ltb, le-ltb, ltb-true, ltb-false}
use Rattle.laws.proofs.Tests.{by_test}
use Rattle.radio_job.specs.Image.{page_count, padded, image_page}
use Rattle.radio_image.specs.Page.{image_page_put}

-- the buffers that are left as they were
pub other_buffer : (im : List ℕ) (p : ℕ) (out : List ℕ) → (length out ≡ 256 → ⊥) → out ≡ image_page_put im p out
unfolding image_page_put
other_buffer im p out n = rw (ne_eqb (length out) 256 n)

pub other_page : (im : List ℕ) (p : ℕ) (out : List ℕ) → length out ≡ 256 → page_count im ≤ p → out ≡ image_page_put im p out
unfolding image_page_put
other_page im p out l h = rw (eq-eqb (length out) 256 l, le-ltb p (page_count im) h)

drop_replicate : (k n v : ℕ) → drop k (replicate n v) ≡ replicate (n - k) v
drop_replicate zero n v = let z : n - 0 ≡ n = omega arith in rw z
drop_replicate (suc k) zero v = let z : 0 - suc k ≡ 0 = omega arith in rw z
drop_replicate (suc k) (suc n) v = let z : suc n - suc k ≡ n - k = omega arith in rw z (drop_replicate k n v)

module _ (im : List ℕ) (p : ℕ) (h : p < page_count im) where
  abbrev start : ℕ
  start = 256 * p

  abbrev behind : List ℕ
  behind = replicate (256 * page_count im - length im) 0xFF

  split : drop start (padded im) ≡ drop start im ++ behind
  unfolding padded
  split = drop-append-le start im behind (omega arith)

  -- the page is inside the image
  whole_page : 256 ≤ length im - start → image_page im p ≡ take 256 (drop start im)
  unfolding image_page
  whole_page l =
      let d = length-drop start im in
      let k : 256 ≤ length (drop start im) = omega arith in
      ap (λ (t : List ℕ). take 256 t) split ∙ take-append-le 256 (drop start im) behind k

  -- the image ends inside the page
  last_page : length im - start < 256 → image_page im p ≡ drop start im ++ replicate (256 - (length im - start)) 0xFF
  unfolding image_page
  last_page l =
      let d = length-drop start im in
      let j = length-append (drop start im) behind in
      let r = length-replicate {A = ℕ} (256 * page_count im - length im) 0xFF in
      let z : 256 * page_count im - length im ≡ 256 - (length im - start) = omega arith in
      let k : length (drop start im ++ behind) ≤ 256 = omega arith in
      ap (λ (t : List ℕ). take 256 t) split ∙ take_all 256 (drop start im ++ behind) k ∙ ap (λ (n : ℕ). drop start im ++ replicate n 0xFF) z

  -- the bytes up to the page's end, and behind them what was 0xFF
  page_parts : (n : ℕ) → n ≡ min (length im) (start + 256) - start → take n (drop start im) ++ drop n (replicate 256 0xFF) ≡ image_page im p
  page_parts n e =
      let d = length-drop start im in
      by_test (ltb (length im - start) 256)
      (λ t.
      let l = ltb-true (length im - start) 256 t in
      let a : length (drop start im) ≤ n = omega arith in
      let b : 256 - n ≡ 256 - (length im - start) = omega arith in
      ap (λ (x : List ℕ). x ++ drop n (replicate 256 0xFF)) (take_all n (drop start im) a)
      ∙ ap (λ (x : List ℕ). drop start im ++ x) (drop_replicate n 256 0xFF ∙ ap (λ (k : ℕ). replicate k 0xFF) b)
      ∙ sym (last_page l))
      (λ t.
      let l = ltb-false (length im - start) 256 t in
      let a : n ≡ 256 = omega arith in
      ap (λ (k : ℕ). take k (drop start im) ++ drop k (replicate 256 0xFF)) a
      ∙ append-nil (take 256 (drop start im))
      ∙ sym (whole_page l))

  -- the buffer after it was filled and the image's bytes were copied into it
  pub put_is : (out bytes now : List ℕ) (stop : ℕ) → length out ≡ 256 → bytes ≡ replicate (length out) 0xFF
      → stop ≡ min (length im) (p * 256 + 256) → now ≡ take (stop - p * 256) (drop (p * 256) im) → now ++ drop (stop - p * 256) bytes ≡ image_page_put im p out
  unfolding image_page_put
  put_is out bytes now stop l b e q =
      let z : p * 256 ≡ start = omega arith in
      let n = stop - start in
      let src = take n (drop start im) in
      let f : n ≡ min (length im) (start + 256) - start = omega arith in
      let w : bytes ≡ replicate 256 0xFF = b ∙ ap (λ (x : ℕ). replicate x 0xFF) l in
      let v : now ++ drop (stop - p * 256) bytes ≡ src ++ drop n (replicate 256 0xFF) =
      ap (λ (x : List ℕ). x ++ drop (stop - p * 256) bytes) q
      ∙ ap (λ (x : ℕ). take (stop - x) (drop x im) ++ drop (stop - x) bytes) z ∙ ap (λ (x : List ℕ). src ++ drop n x) w in
      rw (eq-eqb (length out) 256 l, lt-ltb p (page_count im) h) (v ∙ page_parts n f)

-- What follows an act in the order is what stands at the next point: `next_act` goes through the order.
use mathlib.Core.Path.{◌≡◌, refl, ap, ◌∙◌}
use mathlib.Core.List.{List, [], ◌∷◌, ◌++◌, append_assoc}
use Prim.Native.Nat.{ℕ, suc, ◌+◌, ◌*◌, ◌/◌, ◌<◌, ◌≤◌}
use native.Mathlib.Numerals.{add-one}
use native.Mathlib.Omega.{arith}
use native.Mathlib.Decide.{dec_lt}
use borrow.Author.Tests.{lt-ltb, le-ltb}
use lib.ListN.{length, drop, drop_of_length-le, length-append}
use lib.Seq.{drop-cons}
use Rattle.c2_wire.specs.Place.{place}
use Rattle.c2_order.specs.Acts.{Act, reset_pulse, Block, put, get, status, erase, block_write, block_read}
use Rattle.settings.specs.Registers.{pairs_of}
use Rattle.settings.proofs.Laws.Registers.{length_pairs, pairs_at}
use Rattle.c2_order.specs.Order.{joined, lead, pair_acts, page_acts}
use Rattle.c2_order.specs.Point.{begin}
use Rattle.c2_acts.specs.declared.Stage.{Stage}
use Rattle.c2_acts.specs.declared.Stage.TheVariants.{Lead, Erase, Write, Read, Close, Register}
use Rattle.c2_session.specs.declared.Session.{Session}
use Rattle.c2_acts.specs.Code.Acts.{acts_in}
use Rattle.c2_session.specs.Code.Next.{act_at, next_write, next_page, next_read, next_register, next_stage, next_act}
use Rattle.c2_range.specs.Range.{pages_in, blocks_in}
use Rattle.c2_position.specs.Position.{page_list, page_at, blocks_at, block_at, stage_acts, pages_from, writes_from, reads_from, registers_from, after_stage, acts_from, at_act, point_position}
use Rattle.c2_position.proofs.Laws.Pages.{length_pages, length_blocks}
use Rattle.c2_range.proofs.Laws.Acts.{length_command, length_puts, length_compares, length_status}
use Rattle.c2_position.proofs.Laws.Position.{Fits, block_is, block_length, act_here, stands}

pub begin_at : (acts : List Act) → begin acts ≡ at_act acts (place 0 0 0)
unfolding begin
begin_at [] = refl
begin_at (a ∷ acts) = refl

module _ (s : Session) (image : List ℕ) (h : Fits s image) where
  page_count : length (page_list s image) ≡ s.pages
  unfolding page_list
  page_count = length_pages s.settings.size s.first s.pages 0 image

  block_count : (i : ℕ) → length (blocks_at s image i) ≡ s.settings.size / 256
  block_count i = length_blocks (s.settings.size / 256) ((page_at s image i).number * s.settings.size) (page_at s image i).offset (page_at s image i).bytes

  -- the acts from a page or a block on are those of that page or block, and then those from the next on
  pub pages_on : (i : ℕ) → i < s.pages → pages_from s image i ≡ acts_from Erase s image i 0 0
  unfolding pages_from writes_from reads_from page_acts joined
  pages_on i g =
      let l : i < length (page_list s image) = rw page_count g in
      rw (drop-cons (page_list s image) i (record { number = 0; offset = 0; bytes = [] }) l) (simp append_assoc)

  pub pages_over : (i : ℕ) → s.pages ≤ i → pages_from s image i ≡ reset_pulse ∷ []
  unfolding pages_from joined
  pages_over i g = rw (drop_of_length-le (page_list s image) {i = i} (rw page_count g))

  pub writes_on : (i j : ℕ) → j < s.settings.size / 256 → writes_from s image i j ≡ stage_acts Write s image i j ++ writes_from s image i (suc j)
  unfolding writes_from joined
  writes_on i j g =
      let l : j < length (blocks_at s image i) = rw (block_count i) g in
      rw (drop-cons (blocks_at s image i) j (record { address = 0; offset = 0; bytes = [] }) l)

  pub writes_over : (i j : ℕ) → s.settings.size / 256 ≤ j → writes_from s image i j ≡ []
  unfolding writes_from joined
  writes_over i j g = rw (drop_of_length-le (blocks_at s image i) {i = j} (rw (block_count i) g))

  pub reads_on : (i j : ℕ) → j < s.settings.size / 256 → reads_from s image i j ≡ stage_acts Read s image i j ++ reads_from s image i (suc j)
  unfolding reads_from joined
  reads_on i j g =
      let l : j < length (blocks_at s image i) = rw (block_count i) g in
      rw (drop-cons (blocks_at s image i) j (record { address = 0; offset = 0; bytes = [] }) l)

  pub reads_over : (i j : ℕ) → s.settings.size / 256 ≤ j → reads_from s image i j ≡ []
  unfolding reads_from joined
  reads_over i j g = rw (drop_of_length-le (blocks_at s image i) {i = j} (rw (block_count i) g))

  pair_count : length (pairs_of s.settings.pairs) ≡ s.settings.pairs.count
  pair_count = length_pairs s.settings.pairs 0 s.settings.pairs.count

  pub registers_on : (i : ℕ) → i < s.settings.pairs.count → registers_from s image i ≡ acts_from Register s image i 0 0
  unfolding registers_from joined
  registers_on i g =
      let l : i < length (pairs_of s.settings.pairs) = rw pair_count g in
      let z : 0 + i ≡ i = omega arith in
      rw (
        drop-cons (pairs_of s.settings.pairs) i (record { register = 0; value = 0 }) l,
        pairs_at s.settings.pairs 0 s.settings.pairs.count i (record { register = 0; value = 0 }) g,
        z,
      ) (simp append_assoc)

  pub registers_over : (i : ℕ) → s.settings.pairs.count ≤ i → registers_from s image i ≡ pages_from s image 0
  unfolding registers_from joined
  registers_over i g = rw (drop_of_length-le (pairs_of s.settings.pairs) {i = i} (rw pair_count g))

  -- how many acts a stage has
  pub stage_length : (g : Stage) (i j : ℕ) → i < pages_in g s.settings.pairs.count s.pages → j < blocks_in g s.settings.size → length (stage_acts g s image i j) ≡ acts_in g
  unfolding lead erase put get status block_write block_read pair_acts
  stage_length Lead i j gi gj = refl
  stage_length Erase i j gi gj = refl
  stage_length Write i j gi gj =
      let b : length (block_at s image i j).bytes ≡ 256 = ap (λ (x : Block). length x.bytes) (block_is s image h i j gi gj) ∙ block_length s image h i j gi gj in
      simp (length-append, length_command, length_puts, length_status, b)
  stage_length Read i j gi gj =
      let b : length (block_at s image i j).bytes ≡ 256 = ap (λ (x : Block). length x.bytes) (block_is s image h i j gi gj) ∙ block_length s image h i j gi gj in
      simp (length-append, length_command, length_compares, length_status, b)
  stage_length Close i j gi gj = refl
  stage_length Register i j gi gj = refl

  -- the acts after the last act of a stage
  blocks_some : 0 < s.settings.size / 256
  blocks_some = omega (arith, h.settings.size, h.settings.some)

  begins_at : (g : Stage) (i j k : ℕ) (acts : List Act) → acts ≡ acts_from g s image i j k → begin acts ≡ at_act (acts_from g s image i j k) (place 0 0 0)
  begins_at g i j k acts e = begin_at acts ∙ ap (λ (x : List Act). at_act x (place 0 0 0)) e

  pub writes_then : (i j : ℕ) → j < s.settings.size / 256
      → writes_from s image i j ++ (reads_from s image i 0 ++ pages_from s image (suc i)) ≡ acts_from Write s image i j 0
  writes_then i j g =
      ap (λ (x : List Act). x ++ (reads_from s image i 0 ++ pages_from s image (suc i))) (writes_on i j g)
      ∙ append_assoc (stage_acts Write s image i j) (writes_from s image i (suc j)) (reads_from s image i 0 ++ pages_from s image (suc i))

  pub reads_then : (i j : ℕ) → j < s.settings.size / 256 → reads_from s image i j ++ pages_from s image (suc i) ≡ acts_from Read s image i j 0
  reads_then i j g =
      ap (λ (x : List Act). x ++ pages_from s image (suc i)) (reads_on i j g)
      ∙ append_assoc (stage_acts Read s image i j) (reads_from s image i (suc j)) (pages_from s image (suc i))

  register_over : (i : ℕ) → begin (registers_from s image i) ≡ point_position s image (next_register s i)
  unfolding point_position next_register
  register_over i = go (dec_lt i s.settings.pairs.count)
    where
      go : Dec (i < s.settings.pairs.count) → begin (registers_from s image i) ≡ point_position s image (next_register s i)
      go (yes y) = rw (lt-ltb i s.settings.pairs.count y) (begins_at Register i 0 0 (registers_from s image i) (registers_on i y))
      go (no y) =
          rw (le-ltb i s.settings.pairs.count (omega arith), registers_over i (omega arith))
          (begins_at Erase 0 0 0 (pages_from s image 0) (pages_on 0 h.some))

  stage_over : (g : Stage) (i j k : ℕ) → i < pages_in g s.settings.pairs.count s.pages → j < blocks_in g s.settings.size
      → begin (after_stage g s image i j) ≡ point_position s image (next_stage g s (act_at g i j k))
  unfolding point_position next_write next_read next_page
  stage_over Lead i j k gi gj = register_over 0
  stage_over Erase i j k gi gj = begins_at Write i 0 0 (after_stage Erase s image i j) (writes_then i 0 blocks_some)
  stage_over Write i j k gi gj = go (dec_lt (j + 1) (s.settings.size / 256))
    where
      go : Dec (j + 1 < s.settings.size / 256) → begin (after_stage Write s image i j) ≡ point_position s image (next_stage Write s (act_at Write i j k))
      go (yes y) =
          rw (lt-ltb (j + 1) (s.settings.size / 256) y, add-one j)
          (begins_at Write i (suc j) 0 (after_stage Write s image i j) (writes_then i (suc j) (omega arith)))
      go (no y) =
          rw (le-ltb (j + 1) (s.settings.size / 256) (omega arith), writes_over i (suc j) (omega arith))
          (begins_at Read i 0 0 (reads_from s image i 0 ++ pages_from s image (suc i)) (reads_then i 0 blocks_some))
  stage_over Read i j k gi gj = go (dec_lt (j + 1) (s.settings.size / 256)) (dec_lt (i + 1) s.pages)
    where
      go : Dec (j + 1 < s.settings.size / 256) → Dec (i + 1 < s.pages)
          → begin (after_stage Read s image i j) ≡ point_position s image (next_stage Read s (act_at Read i j k))
      go (yes y) z =
          rw (lt-ltb (j + 1) (s.settings.size / 256) y, add-one j)
          (begins_at Read i (suc j) 0 (after_stage Read s image i j) (reads_then i (suc j) (omega arith)))
      go (no y) (yes z) =
          rw (le-ltb (j + 1) (s.settings.size / 256) (omega arith), lt-ltb (i + 1) s.pages z, reads_over i (suc j) (omega arith), add-one i)
          (begins_at Erase (suc i) 0 0 (pages_from s image (suc i)) (pages_on (suc i) (omega arith)))
      go (no y) (no z) =
          rw (le-ltb (j + 1) (s.settings.size / 256) (omega arith), le-ltb (i + 1) s.pages (omega arith), reads_over i (suc j) (omega arith))
          (begins_at Close 0 0 0 (pages_from s image (suc i)) (pages_over (suc i) (omega arith)))
  stage_over Close i j k gi gj = begin_at []
  stage_over Register i j k gi gj = rw (add-one i) (register_over (suc i))

  -- what follows an act of a stage (`rest_from`); the acts from it on are that act and these (`acts_here`)
  abbrev pub rest_from : Stage → (page block act : ℕ) → List Act
  rest_from g i j k = drop (suc k) (stage_acts g s image i j) ++ after_stage g s image i j

  pub acts_here : (g : Stage) (i j k : ℕ) → i < pages_in g s.settings.pairs.count s.pages → j < blocks_in g s.settings.size → k < acts_in g
      → acts_from g s image i j k ≡ act_here s image h g (act_at g i j k) ∷ rest_from g i j k
  acts_here g i j k gi gj gk =
      let l : k < length (stage_acts g s image i j) = rw (stage_length g i j gi gj) gk in
      rw (drop-cons (stage_acts g s image i j) k reset_pulse l, stands s image h g i j k reset_pulse gi gj gk)

  -- the next point stands where the order goes on
  pub goes_on : (g : Stage) (i j k : ℕ) → i < pages_in g s.settings.pairs.count s.pages → j < blocks_in g s.settings.size → k < acts_in g
      → begin (rest_from g i j k) ≡ point_position s image (next_act s (act_at g i j k))
  unfolding next_act point_position
  goes_on g i j k gi gj gk = go (dec_lt (k + 1) (acts_in g))
    where
      go : Dec (k + 1 < acts_in g) → begin (rest_from g i j k) ≡ point_position s image (next_act s (act_at g i j k))
      go (yes y) = rw (lt-ltb (k + 1) (acts_in g) y, add-one k) (begin_at (rest_from g i j k))
      go (no y) =
          let e : drop (suc k) (stage_acts g s image i j) ≡ []
          = drop_of_length-le (stage_acts g s image i j) {i = suc k} (rw (stage_length g i j gi gj) (omega arith)) in
          rw (le-ltb (k + 1) (acts_in g) (omega arith), e) (stage_over g i j k gi gj)

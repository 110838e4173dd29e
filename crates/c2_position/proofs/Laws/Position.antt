-- The act at a point of a session, with the byte that it sends or expects: the session's numbers stand for
-- the act of the order.
use mathlib.Core.Path.{◌≡◌, refl, sym, ap, ◌∙◌}
use mathlib.Core.Bool.{Bool, true, false, cond}
use mathlib.Core.List.{List, []}
use Prim.Native.Nat.{ℕ, suc, ◌+◌, ◌*◌, ◌-◌, ◌/◌, ◌%◌, ◌<◌, ◌≤◌}
use native.Mathlib.Nat.{mod-eq_of_lt, mul-le-mul_right, mul-le-mul_left, mul_assoc, mul_comm}
use native.Mathlib.Omega.{arith}
use native.Mathlib.Decide.{dec_lt}
use borrow.Author.Tests.{lt-ltb, le-ltb}
use lib.Dec.{eqb, ltb}
use lib.ListN.{length, get_or, take, drop, length-drop}
use lib.Seq.{get_or-take, get_or-drop, length-take-le}
use Rattle.settings.specs.Registers.{pair_at}
use Rattle.settings.proofs.Laws.Accepted.{Facts}
use Rattle.c2_order.specs.Acts.{Act, Block, length_code}
use Rattle.c2_order.specs.Order.{Page, blocks}
use Rattle.c2_acts.specs.declared.Stage.{Stage}
use Rattle.c2_acts.specs.declared.Stage.TheVariants.{Lead, Erase, Write, Read, Close, Register}
use Rattle.c2_session.specs.declared.At.{At}
use Rattle.c2_session.specs.declared.Session.{Session}
use Rattle.c2_acts.specs.Code.Acts.{task_of, acts_in}
use Rattle.c2_session.specs.Code.Bytes.{page_number, erase_byte, block_byte, image_byte, sent_offset, compared_offset, write_byte, register_byte, stage_byte}
use Rattle.c2_session.specs.Code.Next.{act_at}
use Rattle.c2_range.specs.Range.{pages_in, blocks_in}
use Rattle.c2_position.specs.Position.{page_list, page_at, block_at, stage_acts}
use Rattle.c2_position.proofs.Laws.Pages.{pages_at, blocks_at_number}
use Rattle.c2_range.proofs.Laws.Acts.{task_act, lead_at, erase_at, command_byte, write_act_byte, write_at, read_act_byte, read_at, pair_acts_at}

-- what is known of a session in range and an image of its length
pub record Fits (s : Session) (image : List ℕ) : Type 0 where
  pub settings : Facts s.settings
  pub some : 1 ≤ s.pages
  pub inside : s.first + s.pages ≤ s.settings.count
  pub whole : length image ≡ s.pages * s.settings.size

module _ (s : Session) (image : List ℕ) (h : Fits s image) where
  abbrev pub size : ℕ
  size = s.settings.size

  abbrev pub B : ℕ
  B = h.settings.blocks

  number_is : (i : ℕ) → i < s.pages → (page_at s image i).number ≡ page_number s i
  unfolding page_list
  number_is i g = ap (λ (p : Page). p.number) (pages_at size s.first s.pages 0 i image _ g)

  -- the block at a page and a number is the image's part at its address
  pub block_is : (i j : ℕ) → i < s.pages → j < size / 256
      → block_at s image i j ≡ record { address = page_number s i * size + j * 256; offset = i * size + j * 256; bytes = take 256 (drop (j * 256) (take size (drop (i * size) image))) }
  unfolding page_list
  block_is i j gi gj =
      let p = pages_at size s.first s.pages 0 i image (record { number = 0; offset = 0; bytes = [] }) gi in
      let z : 0 + i * size ≡ i * size = omega arith in
      ap (λ (x : Page). get_or (blocks (size / 256) (x.number * size) x.offset x.bytes) j (record { address = 0; offset = 0; bytes = [] })) p
      ∙ rw z (blocks_at_number (size / 256) (page_number s i * size) (i * size) j (take size (drop (i * size) image)) _ gj)

  -- an image is at most 65,536 bytes
  pub image_small : length image ≤ 65536
  image_small =
      let c : s.settings.size * s.settings.count ≡ s.settings.count * s.settings.size = mul_comm s.settings.size s.settings.count in
      omega (arith, h.whole, h.settings.bytes, mul-le-mul_right {m = s.pages} {n = s.settings.count} s.settings.size (omega (arith, h.inside)))

  -- a page and a block lie inside the image
  pub page_inside : (i : ℕ) → i < s.pages → i * size + size ≤ length image
  page_inside i g = omega (arith, h.whole, mul-le-mul_right {m = suc i} {n = s.pages} size g)

  pub block_inside : (j : ℕ) → j < size / 256 → j * 256 + 256 ≤ size
  block_inside j g = omega (arith, h.settings.size)

  pub block_length : (i j : ℕ) → i < s.pages → j < size / 256 → length (take 256 (drop (j * 256) (take size (drop (i * size) image)))) ≡ 256
  block_length i j gi gj =
      length-take-le 256 (drop (j * 256) (take size (drop (i * size) image)))
      (rw (length-drop, length-take-le size (drop (i * size) image) (rw length-drop (omega (arith, page_inside i gi)))) (omega (arith, block_inside j gj)))

  block_byte_at : (i j n : ℕ) → i < s.pages → j < size / 256 → n < 256
      → get_or (take 256 (drop (j * 256) (take size (drop (i * size) image)))) n 0 ≡ get_or image (i * size + j * 256 + n) 0
  block_byte_at i j n gi gj gn =
      let e : i * size + (j * 256 + n) ≡ i * size + j * 256 + n = omega arith in
      get_or-take 256 (drop (j * 256) (take size (drop (i * size) image))) n 0 gn
      ∙ get_or-drop (j * 256) (take size (drop (i * size) image)) n 0
      ∙ get_or-take size (drop (i * size) image) (j * 256 + n) 0 (omega (arith, block_inside j gj))
      ∙ get_or-drop (i * size) image (j * 256 + n) 0
      ∙ ap (λ (m : ℕ). get_or image m 0) e

  -- the block's address: below 65,536, a multiple of 256, and its high byte as the code finds it
  address_small : (i j : ℕ) → i < s.pages → j < size / 256 → page_number s i * size + j * 256 < 65536
  address_small i j gi gj =
      let c : size * s.settings.count ≡ s.settings.count * size = mul_comm size s.settings.count in
      let m : page_number s (suc i) * size ≤ s.settings.count * size = mul-le-mul_right size (omega (arith, h.inside)) in
      let d : page_number s (suc i) * size ≡ page_number s i * size + size = omega arith in
      omega (arith, h.settings.bytes, block_inside j gj)

  address_whole : (i j : ℕ) → (page_number s i * size + j * 256) % 256 ≡ 0
  address_whole i j =
      let e : page_number s i * size ≡ 256 * (page_number s i * B) = ap (λ (m : ℕ). page_number s i * m) (h.settings.size ∙ mul_comm 256 B)
      ∙ sym (mul_assoc (page_number s i) B 256) ∙ mul_comm (page_number s i * B) 256 in
      rw e (omega arith)

  address_high : (i j : ℕ) → i < s.pages → j < size / 256
      → (page_number s i * size + j * 256) / 256 ≡ (page_number s i * size + j * 256) / 256 % 256
  address_high i j gi gj = let g : page_number s i * size + j * 256 < 65536 = address_small i j gi gj in sym (mod-eq_of_lt (omega arith))

  -- a device has few pages, so that a page's number fits 16 bits
  pages_few : s.settings.count ≤ 128
  pages_few =
      let c : size * s.settings.count ≡ s.settings.count * size = mul_comm size s.settings.count in
      let m : s.settings.count * 512 ≤ s.settings.count * size = mul-le-mul_left s.settings.count (omega (arith, h.settings.size, h.settings.some)) in
      omega (arith, h.settings.bytes)

  pub page_kept : (i : ℕ) → i < s.pages → i % 65536 ≡ i
  page_kept i gi = mod-eq_of_lt (omega (arith, h.inside, pages_few))

  -- the byte that the act at a point sends or compares
  abbrev pub act_byte : Stage → At → ℕ
  act_byte Lead a = stage_byte Lead s a image
  act_byte Erase a = stage_byte Erase s a image
  act_byte Write a = stage_byte Write s a image
  act_byte Read a = cond (ltb a.act 11) (stage_byte Read s a image) (image_byte image (compared_offset s a))
  act_byte Close a = 0
  act_byte Register a = stage_byte Register s a image

  abbrev pub act_here : Stage → At → Act
  act_here g a = task_act (task_of g a.act) (act_byte g a) s.settings.id (compared_offset s a)

  cond_same : {A : Type 0} (t : Bool) (x : A) → cond t x x ≡ x
  cond_same true x = refl
  cond_same false x = refl

  -- the bytes of a block's command are those that the code finds
  command_is : (i j k c : ℕ) → i < s.pages → j < size / 256 → (g : Stage) (bs : List ℕ) → length bs ≡ 256
      → command_byte s.settings.fpdat c (record { address = page_number s i * size + j * 256; offset = i * size + j * 256; bytes = bs }) k
      ≡ block_byte s (act_at g i j k) c
  unfolding block_byte length_code
  command_is i j k c gi gj g bs e =
      let l : length bs % 256 ≡ 0 = rw e in
      rw (page_kept i gi, address_whole i j, ← address_high i j gi gj, l, cond_same {A = ℕ} (eqb k 9) 0, cond_same {A = ℕ} (eqb k 7) 0)

  lead_here : (i j k : ℕ) (d : Act) → k < 8 → get_or (stage_acts Lead s image i j) k d ≡ act_here Lead (act_at Lead i j k)
  lead_here i j k d g = lead_at s.settings k d (compared_offset s (act_at Lead i j k)) g

  erase_here : (i j k : ℕ) (d : Act) → i < s.pages → k < 13 → get_or (stage_acts Erase s image i j) k d ≡ act_here Erase (act_at Erase i j k)
  unfolding erase_byte
  erase_here i j k d gi g =
      let m : page_number s i % 256 ≡ page_number s i = mod-eq_of_lt (omega (arith, h.inside, pages_few)) in
      rw (page_kept i gi, number_is i gi, m) (erase_at s.settings.fpdat (page_number s i) k d s.settings.id (compared_offset s (act_at Erase i j k)) g)

  write_here : (i j k : ℕ) (d : Act) → i < s.pages → j < size / 256 → k < 525 → get_or (stage_acts Write s image i j) k d ≡ act_here Write (act_at Write i j k)
  unfolding write_byte sent_offset
  write_here i j k d gi gj g = rw (block_is i j gi gj) (write_at s.settings.fpdat bb k d s.settings.id o (block_length i j gi gj) g ∙ go (dec_lt k 11) (dec_lt k 523))
    where
      o : ℕ
      o = compared_offset s (act_at Write i j k)

      bs : List ℕ
      bs = take 256 (drop (j * 256) (take size (drop (i * size) image)))

      bb : Block
      bb = record { address = page_number s i * size + j * 256; offset = i * size + j * 256; bytes = bs }

      last : 523 ≤ k → Dec (k < 524) → task_act (task_of Write k) (write_act_byte s.settings.fpdat bb k) s.settings.id o ≡ act_here Write (act_at Write i j k)
      last x (yes y) = let q : k ≡ 523 = omega arith in rw q
      last x (no y) = let q : k ≡ 524 = omega arith in rw q

      go : Dec (k < 11) → Dec (k < 523) → task_act (task_of Write k) (write_act_byte s.settings.fpdat bb k) s.settings.id o ≡ act_here Write (act_at Write i j k)
      go (yes y) z = rw (lt-ltb k 11 y, command_is i j k 7 gi gj Write bs (block_length i j gi gj))
      go (no y) (yes z) =
          let n : ℕ = (k - 11) / 2 in
          let e : get_or (take 256 (drop (j * 256) (take size (drop (i * size) image)))) ((k - 11) / 2) 0
          ≡ image_byte image (i * size + j * 256 + (k - 11) / 2)
          = block_byte_at i j n gi gj (omega arith) in
          rw (le-ltb k 11 (omega arith), page_kept i gi) (ap (λ (x : ℕ). task_act (task_of Write k) x s.settings.id o) e)
      go (no y) (no z) = last (omega arith) (dec_lt k 524)

  read_here : (i j k : ℕ) (d : Act) → i < s.pages → j < size / 256 → k < 525 → get_or (stage_acts Read s image i j) k d ≡ act_here Read (act_at Read i j k)
  unfolding compared_offset
  read_here i j k d gi gj g = rw (block_is i j gi gj) (read_at s.settings.fpdat bb k d s.settings.id (block_length i j gi gj) g ∙ go (dec_lt k 11) (dec_lt k 14))
    where
      bs : List ℕ
      bs = take 256 (drop (j * 256) (take size (drop (i * size) image)))

      bb : Block
      bb = record { address = page_number s i * size + j * 256; offset = i * size + j * 256; bytes = bs }

      o : ℕ
      o = i * size + j * 256 + (k - 14) / 2

      few : 11 ≤ k → Dec (k < 12) → Dec (k < 13) → k < 14
          → task_act (task_of Read k) (read_act_byte s.settings.fpdat bb k) s.settings.id (i * size + j * 256 + (k - 14) / 2) ≡ act_here Read (act_at Read i j k)
      few x (yes y) z w = let q : k ≡ 11 = omega arith in rw q
      few x (no y) (yes z) w = let q : k ≡ 12 = omega arith in rw q
      few x (no y) (no z) w = let q : k ≡ 13 = omega arith in rw q

      go : Dec (k < 11) → Dec (k < 14)
          → task_act (task_of Read k) (read_act_byte s.settings.fpdat bb k) s.settings.id (i * size + j * 256 + (k - 14) / 2) ≡ act_here Read (act_at Read i j k)
      go (yes y) z = rw (lt-ltb k 11 y, page_kept i gi, command_is i j k 6 gi gj Read bs (block_length i j gi gj))
      go (no y) (yes z) = few (omega arith) (dec_lt k 12) (dec_lt k 13) z
      go (no y) (no z) =
          let n : ℕ = (k - 14) / 2 in
          let e : get_or (take 256 (drop (j * 256) (take size (drop (i * size) image)))) ((k - 14) / 2) 0
          ≡ image_byte image (i * size + j * 256 + (k - 14) / 2)
          = block_byte_at i j n gi gj (omega arith) in
          rw (le-ltb k 11 (omega arith), page_kept i gi) (rw (le-ltb k 11 (omega arith)) at (ap (λ (x : ℕ). task_act (task_of Read k) x s.settings.id o) e))

  register_here : (i j k : ℕ) (d : Act) → i < s.settings.pairs.count → k < 2 → get_or (stage_acts Register s image i j) k d ≡ act_here Register (act_at Register i j k)
  unfolding register_byte
  register_here i j k d gi g =
      let m : i % 4 ≡ i = mod-eq_of_lt (omega (arith, h.settings.few_pairs)) in
      rw m (pair_acts_at (pair_at s.settings.pairs i) k d s.settings.id (compared_offset s (act_at Register i j k)) g)

  -- at every point of a stage the session's numbers stand for the act of the order
  pub stands : (g : Stage) (i j k : ℕ) (d : Act) → i < pages_in g s.settings.pairs.count s.pages → j < blocks_in g size → k < acts_in g
      → get_or (stage_acts g s image i j) k d ≡ act_here g (act_at g i j k)
  stands Lead i j k d gi gj gk = lead_here i j k d gk
  stands Erase i j k d gi gj gk = erase_here i j k d gi gk
  stands Write i j k d gi gj gk = write_here i j k d gi gj gk
  stands Read i j k d gi gj gk = read_here i j k d gi gj gk
  stands Close i j k d gi gj gk = let q : k ≡ 0 = omega arith in rw q
  stands Register i j k d gi gj gk = register_here i j k d gi gk

-- What the acts of a stage after one of them cost, and what comes after the stage, as the code counts them.
use mathlib.Core.Path.{◌≡◌, refl, sym, ap, ◌∙◌}
use mathlib.Core.List.{List, [], ◌++◌}
use Prim.Native.Nat.{ℕ, zero, suc, ◌+◌, ◌-◌, ◌*◌, ◌/◌, ◌%◌, ◌<◌}
use native.Mathlib.Omega.{arith}
use native.Mathlib.Decide.{dec_lt}
use borrow.Author.Tests.{eq-eqb, ne_eqb}
use lib.ListN.{length, drop, drop_of_length-le}
use lib.Seq.{drop-cons}
use Rattle.laws.proofs.Below.{upto, same_below}
use Rattle.c2_wire.specs.Place.{longest}
use Rattle.c2_wire.proofs.Laws.Frames.{longest_address_write, longest_address_read, longest_data_write, longest_data_read}
use Rattle.c2_order.specs.Acts.{Act, reset_pulse, Block}
use Rattle.c2_order.specs.Conversation.{Limits}
use Rattle.settings.specs.Registers.{pair_at}
use Rattle.c2_order.specs.Order.{pair_acts}
use Rattle.c2_order.specs.Figure.{cost, costs, byte_cost, block_cost, page_cost, pair_cost}
use Rattle.c2_order.proofs.Laws.Figure.Start.{costs_append, costs_erase, costs_block_write, costs_block_read}
use Rattle.c2_acts.specs.declared.Stage.{Stage}
use Rattle.c2_acts.specs.declared.Stage.TheVariants.{Lead, Erase, Write, Read, Close, Register}
use Rattle.c2_acts.specs.declared.Task.{Task}
use Rattle.c2_acts.specs.declared.Task.TheVariants.{Reset, Pause, Address, Send, Input, Output, Ident, Status, Compare}
use Rattle.c2_session.specs.declared.Session.{Session}
use Rattle.c2_acts.specs.Code.Acts.{task_of, acts_in}
use Rattle.c2_session.specs.Code.Next.{act_at}
use Rattle.c2_range.specs.Range.{pages_in, blocks_in}
use Rattle.c2_position.specs.Position.{page_at, block_at, stage_acts, pages_from, writes_from, reads_from, after_stage, registers_from}
use Rattle.c2_range.proofs.Laws.Acts.{task_act}
use Rattle.c2_position.proofs.Laws.Position.{Fits, block_is, block_length, act_here, stands}
use Rattle.c2_position.proofs.Laws.Onward.{stage_length, pages_on, pages_over, writes_on, writes_over, reads_on, reads_over, registers_on, registers_over}
use Rattle.c2_figure.specs.Code.Left.{task_cost, lead_left, bytes_left, stage_left, after_left}

module _ (l : Limits) where
  -- an act costs what its task does
  pub act_costs : (t : Task) (b id o : ℕ) → cost l (task_act t b id o) ≡ task_cost l t
  unfolding cost longest
  act_costs Reset b id o = refl
  act_costs Pause b id o = refl
  act_costs Address b id o = longest_address_write l.wait b
  act_costs Send b id o = longest_data_write l.wait b
  act_costs Input b id o = ap (λ (n : ℕ). l.reads * n) (longest_address_read l.wait 0)
  act_costs Output b id o = ap (λ (n : ℕ). l.reads * n) (longest_address_read l.wait 0)
  act_costs Ident b id o = longest_data_read l.wait 0
  act_costs Status b id o = longest_data_read l.wait 0
  act_costs Compare b id o = longest_data_read l.wait 0

  -- a frame with a WAIT is 0, a poll 1: the two acts of a byte put or got
  abbrev kind : Task → ℕ
  kind Reset = 2
  kind Pause = 2
  kind Address = 2
  kind Send = 0
  kind Input = 1
  kind Output = 1
  kind Ident = 0
  kind Status = 0
  kind Compare = 0

  of_kind_0 : (t : Task) → kind t ≡ 0 → task_cost l t ≡ 14 + l.wait
  of_kind_0 Reset e = absurd (omega arith)
  of_kind_0 Pause e = absurd (omega arith)
  of_kind_0 Address e = absurd (omega arith)
  of_kind_0 Send e = refl
  of_kind_0 Input e = absurd (omega arith)
  of_kind_0 Output e = absurd (omega arith)
  of_kind_0 Ident e = refl
  of_kind_0 Status e = refl
  of_kind_0 Compare e = refl

  of_kind_1 : (t : Task) → kind t ≡ 1 → task_cost l t ≡ l.reads * 12
  of_kind_1 Reset e = absurd (omega arith)
  of_kind_1 Pause e = absurd (omega arith)
  of_kind_1 Address e = absurd (omega arith)
  of_kind_1 Send e = absurd (omega arith)
  of_kind_1 Input e = refl
  of_kind_1 Output e = refl
  of_kind_1 Ident e = absurd (omega arith)
  of_kind_1 Status e = absurd (omega arith)
  of_kind_1 Compare e = absurd (omega arith)

  pair_costs : (t u : Task) → kind t + kind u ≡ 1 → task_cost l t + task_cost l u ≡ byte_cost l
  pair_costs t u e = go (dec_lt (kind t) 1)
    where
      go : Dec (kind t < 1) → task_cost l t + task_cost l u ≡ byte_cost l
      go (yes y) = omega (arith, of_kind_0 t (omega arith), of_kind_1 u (omega arith))
      go (no y) = omega (arith, of_kind_1 t (omega arith), of_kind_0 u (omega arith))

  -- a command's acts from its second on are pairs
  abbrev Pairs : (f : ℕ → Task) → (n : ℕ) → Type 0
  Pairs f n = upto (λ i. kind (f (2 * i + 1)) + kind (f (2 * i + 2))) n ≡ upto (λ i. 1) n

  paired : (f : ℕ → Task) (n k : ℕ) → Pairs f n → k % 2 ≡ 1 → k < 2 * n → task_cost l (f k) + task_cost l (f (suc k)) ≡ byte_cost l
  paired f n k e o h =
      let p : 2 * (k / 2) + 1 ≡ k = omega arith in
      let q : 2 * (k / 2) + 2 ≡ suc k = omega arith in
      pair_costs (f k) (f (suc k))
      (rw (p, q) at (same_below (λ i. kind (f (2 * i + 1)) + kind (f (2 * i + 2))) (λ i. 1) n e (k / 2) (omega arith)))

  -- what is left of a command after an act: that of the next act, and what is left after that
  bytes_on : (f : ℕ → Task) (n k : ℕ) → Pairs f n → k < 2 * n
      → bytes_left l (2 * n) (f k) k ≡ task_cost l (f (suc k)) + bytes_left l (2 * n) (f (suc k)) (suc k)
  bytes_on f n k e h = go (dec_lt (k % 2) 1)
    where
      go : Dec (k % 2 < 1) → bytes_left l (2 * n) (f k) k ≡ task_cost l (f (suc k)) + bytes_left l (2 * n) (f (suc k)) (suc k)
      go (yes y) =
          let p = paired f n (suc k) e (omega arith) (omega arith) in
          let d : (2 * n - k) / 2 ≡ suc ((2 * n - suc k) / 2) = omega arith in
          rw (ne_eqb (k % 2) 1 (λ z. omega arith), eq-eqb (suc k % 2) 1 (omega arith), d) (omega arith)
      go (no y) =
          let p = paired f n k e (omega arith) h in
          let d : (2 * n - k) / 2 ≡ (2 * n - suc k) / 2 = omega arith in
          rw (eq-eqb (k % 2) 1 (omega arith), ne_eqb (suc k % 2) 1 (λ z. omega arith), d) (omega arith)

  lead_on : (k : ℕ) → k < 7 → lead_left l.wait k ≡ task_cost l (task_of Lead (suc k)) + lead_left l.wait (suc k)
  lead_on zero h = omega arith
  lead_on (suc zero) h = omega arith
  lead_on (suc (suc zero)) h = omega arith
  lead_on (suc (suc (suc zero))) h = omega arith
  lead_on (suc (suc (suc (suc zero)))) h = omega arith
  lead_on (suc (suc (suc (suc (suc zero))))) h = omega arith
  lead_on (suc (suc (suc (suc (suc (suc zero)))))) h = omega arith
  lead_on (suc (suc (suc (suc (suc (suc (suc k))))))) h = absurd (omega arith)

  stage_on : (g : Stage) (k : ℕ) → suc k < acts_in g → stage_left l g k ≡ task_cost l (task_of g (suc k)) + stage_left l g (suc k)
  stage_on Lead k h = lead_on k (omega arith)
  stage_on Erase k h = bytes_on (task_of Erase) 6 k refl (omega arith)
  stage_on Write k h = bytes_on (task_of Write) 262 k refl (omega arith)
  stage_on Read k h = bytes_on (task_of Read) 262 k refl (omega arith)
  stage_on Close k h = absurd (omega arith)
  stage_on Register zero h = omega arith
  stage_on Register (suc k) h = absurd (omega arith)

  stage_ends : (g : Stage) → stage_left l g (acts_in g - 1) ≡ 0
  stage_ends Lead = refl
  stage_ends Erase = omega arith
  stage_ends Write = omega arith
  stage_ends Read = omega arith
  stage_ends Close = refl
  stage_ends Register = refl

  module _ (s : Session) (image : List ℕ) (h : Fits s image) where
    -- the cost of the acts of a stage after one of them
    pub stage_costs : (g : Stage) (i j k : ℕ) → i < pages_in g s.settings.pairs.count s.pages → j < blocks_in g s.settings.size → k < acts_in g
        → costs l (drop (suc k) (stage_acts g s image i j)) ≡ stage_left l g k
    unfolding costs
    stage_costs g i j k gi gj gk = down (acts_in g - 1 - k) k (omega arith)
      where
        down : (m k : ℕ) → suc (k + m) ≡ acts_in g → costs l (drop (suc k) (stage_acts g s image i j)) ≡ stage_left l g k
        down zero k e =
            let q : k ≡ acts_in g - 1 = omega arith in
            let d : drop (suc k) (stage_acts g s image i j) ≡ []
            = drop_of_length-le (stage_acts g s image i j) {i = suc k} (rw (stage_length s image h g i j gi gj) (omega arith)) in
            rw d (rw q (sym (stage_ends g)))
        down (suc m) k e =
            let x : suc k < length (stage_acts g s image i j) = rw (stage_length s image h g i j gi gj) (omega arith) in
            let c : cost l (act_here s image h g (act_at g i j (suc k))) ≡ task_cost l (task_of g (suc k)) = act_costs (task_of g (suc k)) _ _ _ in
            rw (drop-cons (stage_acts g s image i j) (suc k) reset_pulse x, stands s image h g i j (suc k) reset_pulse gi gj (omega arith))
            (omega (arith, c, down m (suc k) (omega arith), stage_on g k (omega arith)))

    -- a block of a page that is there has 256 bytes
    block_whole : (i j : ℕ) → i < s.pages → j < s.settings.size / 256 → length (block_at s image i j).bytes ≡ 256
    block_whole i j gi gj = ap (λ (x : Block). length x.bytes) (block_is s image h i j gi gj) ∙ block_length s image h i j gi gj

    -- the cost of the blocks of a page from a block on
    writes_cost : (m i j : ℕ) → i < s.pages → j + m ≡ s.settings.size / 256 → costs l (writes_from s image i j) ≡ m * block_cost l
    unfolding costs
    writes_cost zero i j gi e = rw (writes_over s image h i j (omega arith)) (omega arith)
    writes_cost (suc m) i j gi e =
        rw (writes_on s image h i j (omega arith))
        (omega (
          arith,
          costs_append l (stage_acts Write s image i j) (writes_from s image i (suc j)),
          costs_block_write l s.settings.fpdat (block_at s image i j) (block_whole i j gi (omega arith)),
          writes_cost m i (suc j) gi (omega arith),
        ))

    reads_cost : (m i j : ℕ) → i < s.pages → j + m ≡ s.settings.size / 256 → costs l (reads_from s image i j) ≡ m * block_cost l
    unfolding costs
    reads_cost zero i j gi e = rw (reads_over s image h i j (omega arith)) (omega arith)
    reads_cost (suc m) i j gi e =
        rw (reads_on s image h i j (omega arith))
        (omega (
          arith,
          costs_append l (stage_acts Read s image i j) (reads_from s image i (suc j)),
          costs_block_read l s.settings.fpdat (block_at s image i j) (block_whole i j gi (omega arith)),
          reads_cost m i (suc j) gi (omega arith),
        ))

    -- the cost of the pages from a page on, and of the last reset
    pages_cost : (m i : ℕ) → i + m ≡ s.pages → costs l (pages_from s image i) ≡ m * page_cost l (s.settings.size / 256) + 1
    unfolding costs
    pages_cost zero i e = rw (pages_over s image h i (omega arith)) (omega (arith, act_costs Reset 0 0 0))
    pages_cost (suc m) i e =
        let n : ℕ = s.settings.size / 256 in
        let E : List Act = stage_acts Erase s image i 0 in
        let R : List Act = reads_from s image i 0 ++ pages_from s image (suc i) in
        rw (pages_on s image h i (omega arith))
        (omega (
          arith,
          costs_append l E (writes_from s image i 0 ++ R),
          costs_append l (writes_from s image i 0) R,
          costs_append l (reads_from s image i 0) (pages_from s image (suc i)),
          costs_erase l s.settings.fpdat (page_at s image i).number,
          writes_cost n i 0 (omega arith) (omega arith),
          reads_cost n i 0 (omega arith) (omega arith),
          pages_cost m (suc i) (omega arith),
        ))

    -- the cost of the pairs from a pair on, of all pages and of the last reset
    registers_cost : (m i : ℕ) → i + m ≡ s.settings.pairs.count → costs l (registers_from s image i) ≡ (s.settings.pairs.count - i) * pair_cost l + (s.pages * page_cost l (s.settings.size / 256) + 1)
    unfolding costs pair_acts
    registers_cost zero i e =
        let z : s.settings.pairs.count - i ≡ 0 = omega arith in
        rw (registers_over s image h i (omega arith), z) (omega (arith, pages_cost s.pages 0 (omega arith)))
    registers_cost (suc m) i e =
        let z : s.settings.pairs.count - i ≡ suc (s.settings.pairs.count - suc i) = omega arith in
        rw (registers_on s image h i (omega arith), z)
        (omega (arith, act_costs Address (pair_at s.settings.pairs i).register 0 0, act_costs Send (pair_at s.settings.pairs i).value 0 0, registers_cost m (suc i) (omega arith)))

    -- the cost of what comes after a stage
    pub after_costs : (g : Stage) (i j : ℕ) → i < pages_in g s.settings.pairs.count s.pages → j < blocks_in g s.settings.size
        → costs l (after_stage g s image i j) ≡ after_left l g s i j
    unfolding costs
    after_costs Lead i j gi gj = registers_cost s.settings.pairs.count 0 (omega arith)
    after_costs Erase i j gi gj =
        let n : ℕ = s.settings.size / 256 in
        omega (
          arith,
          costs_append l (writes_from s image i 0) (reads_from s image i 0 ++ pages_from s image (suc i)),
          costs_append l (reads_from s image i 0) (pages_from s image (suc i)),
          writes_cost n i 0 gi (omega arith),
          reads_cost n i 0 gi (omega arith),
          pages_cost (s.pages - i - 1) (suc i) (omega arith),
        )
    after_costs Write i j gi gj =
        let n : ℕ = s.settings.size / 256 in
        omega (
          arith,
          costs_append l (writes_from s image i (suc j)) (reads_from s image i 0 ++ pages_from s image (suc i)),
          costs_append l (reads_from s image i 0) (pages_from s image (suc i)),
          writes_cost (n - j - 1) i (suc j) gi (omega arith),
          reads_cost n i 0 gi (omega arith),
          pages_cost (s.pages - i - 1) (suc i) (omega arith),
        )
    after_costs Read i j gi gj =
        let n : ℕ = s.settings.size / 256 in
        omega (
          arith,
          costs_append l (reads_from s image i (suc j)) (pages_from s image (suc i)),
          reads_cost (n - j - 1) i (suc j) gi (omega arith),
          pages_cost (s.pages - i - 1) (suc i) (omega arith),
        )
    after_costs Close i j gi gj = refl
    after_costs Register i j gi gj = let e : i + 1 ≡ suc i = omega arith in rw e (registers_cost (s.settings.pairs.count - suc i) (suc i) (omega arith))

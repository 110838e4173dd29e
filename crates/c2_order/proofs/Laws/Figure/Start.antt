-- The figure at the start of a session: the sum of its acts' costs, over the limits, the pages and the blocks
-- of a page.
use mathlib.Core.Path.{◌≡◌, refl, ap, ◌∙◌}
use mathlib.Core.List.{List, [], ◌∷◌, ◌++◌, map}
use Prim.Native.Nat.{ℕ, zero, suc, ◌+◌, ◌*◌, ◌/◌, ◌≤◌}
use native.Mathlib.Omega.{arith}
use native.Mathlib.Nat.{mul-div_cancel}
use lib.ListN.{length, take, drop, length-drop}
use lib.Seq.{length-take-le}
use Rattle.numbers.specs.Numbers.{compare_differs}
use Rattle.c2_wire.specs.Exchange.{Outcome}
use Rattle.c2_wire.specs.Place.{longest}
use Rattle.c2_wire.proofs.Laws.Frames.{longest_address_write, longest_address_read, longest_data_write, longest_data_read}
use Rattle.settings.specs.declared.Settings.{Settings}
use Rattle.settings.specs.declared.Pairs.{Pairs}
use Rattle.settings.specs.Registers.{pairs_from, pairs_of}
use Rattle.c2_order.specs.Acts.{Act, address_write, put, get, status, puts, compares, Block, erase, block_command, block_write, block_read}
use Rattle.c2_order.specs.Order.{Page, pages, rising, blocks, joined, page_blocks, lead, pair_acts, preparation, page_acts, order, session_order}
use Rattle.c2_order.specs.Conversation.{Limits}
use Rattle.c2_order.specs.Figure.{cost, costs, byte_cost, block_cost, pair_cost, page_cost}

pub costs_append : (l : Limits) (xs ys : List Act) → costs l (xs ++ ys) ≡ costs l xs + costs l ys
unfolding costs
costs_append l [] ys = omega arith
costs_append l (x ∷ xs) ys = omega (arith, costs_append l xs ys)

module _ (l : Limits) where
  pub costs_put : (b : ℕ) → costs l (put b) ≡ byte_cost l
  unfolding put costs cost
  costs_put b = rw (longest_data_write l.wait b, longest_address_read l.wait 0) (omega arith)

  pub costs_get : (b : ℕ) (o : Outcome) → costs l (get b o) ≡ byte_cost l
  unfolding get costs cost
  costs_get b o = rw (longest_data_read l.wait 0, longest_address_read l.wait 0) (omega arith)

  pub costs_status : costs l status ≡ byte_cost l
  unfolding status
  costs_status = costs_get _ _

  costs_puts : (bs : List ℕ) → costs l (puts bs) ≡ length bs * byte_cost l
  unfolding puts costs
  costs_puts [] = omega arith
  costs_puts (b ∷ bs) = omega (arith, costs_append l (put b) (puts bs), costs_put b, costs_puts bs)

  costs_compares : (o : ℕ) (bs : List ℕ) → costs l (compares o bs) ≡ length bs * byte_cost l
  unfolding compares costs
  costs_compares o [] = omega arith
  costs_compares o (b ∷ bs) =
      let e : Outcome = record { number = compare_differs; offset = o } in
      omega (arith, costs_append l (get b e) (compares (suc o) bs), costs_get b e, costs_compares (suc o) bs)

  costs_address : (a : ℕ) (acts : List Act) → costs l (address_write a ∷ acts) ≡ 12 + costs l acts
  unfolding costs cost
  costs_address a acts = rw (longest_address_write l.wait a)

  pub costs_erase : (f p : ℕ) → costs l (erase f p) ≡ 12 + 6 * byte_cost l
  unfolding erase
  costs_erase f p = simp (costs_append, costs_address, costs_put, costs_status) (omega arith)

  costs_command : (f c : ℕ) (b : Block) → costs l (block_command f c b) ≡ 12 + 5 * byte_cost l
  unfolding block_command
  costs_command f c b = simp (costs_append, costs_address, costs_put, costs_status) (omega arith)

  pub costs_block_write : (f : ℕ) (b : Block) → length b.bytes ≡ 256 → costs l (block_write f b) ≡ block_cost l
  unfolding block_write
  costs_block_write f b e = simp (costs_append, costs_command, costs_puts, costs_status, e) (omega arith)

  pub costs_block_read : (f : ℕ) (b : Block) → length b.bytes ≡ 256 → costs l (block_read f b) ≡ block_cost l
  unfolding block_read
  costs_block_read f b e = simp (costs_append, costs_command, costs_compares, costs_status, e) (omega arith)

  -- the cost of acts over a list of blocks, each of 256 bytes and each of one cost
  costs_blocks : (acts : Block → List Act) (c : ℕ) → ((b : Block) → length b.bytes ≡ 256 → costs l (acts b) ≡ c)
      → (n a o : ℕ) (bs : List ℕ) → 256 * n ≤ length bs → costs l (joined (map acts (blocks n a o bs))) ≡ n * c
  unfolding blocks joined costs
  costs_blocks acts c h zero a o bs g = omega arith
  costs_blocks acts c h (suc n) a o bs g =
      let b : Block = record { address = a; offset = o; bytes = take 256 bs } in
      omega (
        arith,
        costs_append l (acts b) (joined (map acts (blocks n (a + 256) (o + 256) (drop 256 bs)))),
        h b (length-take-le 256 bs (omega arith)),
        costs_blocks acts c h n (a + 256) (o + 256) (drop 256 bs) (rw length-drop (omega arith)),
      )

  pub costs_pairs : (p : Pairs) (i n : ℕ) → costs l (joined (map pair_acts (pairs_from p i n))) ≡ n * pair_cost l
  unfolding pairs_from joined pair_acts costs cost
  costs_pairs p i zero = omega arith
  costs_pairs p i (suc n) = rw (longest_address_write l.wait _, longest_data_write l.wait _) (omega (arith, costs_pairs p (suc i) n))

  module _ (s : Settings) (B : ℕ) (e : s.size ≡ 256 * B) where
    costs_page : (p : Page) → length p.bytes ≡ s.size → costs l (page_acts s p) ≡ page_cost l B
    unfolding page_acts
    costs_page p h =
        let n : s.size / 256 ≡ B = omega arith in
        let c : ℕ = block_cost l in
        let over : (acts : Block → List Act) → ((b : Block) → length b.bytes ≡ 256 → costs l (acts b) ≡ c)
        → costs l (joined (map acts (page_blocks s p))) ≡ B * c
        = λ acts g. costs_blocks acts c g (s.size / 256) (p.number * s.size) p.offset p.bytes (omega arith) ∙ ap (λ (m : ℕ). m * c) n in
        simp (costs_append, costs_erase)
        (omega (arith, over (block_write s.fpdat) (costs_block_write s.fpdat), over (block_read s.fpdat) (costs_block_read s.fpdat)))

    costs_pages : (ns : List ℕ) (o : ℕ) (bs : List ℕ) → length ns * s.size ≤ length bs
        → costs l (joined (map (page_acts s) (pages s.size o ns bs))) ≡ length ns * page_cost l B
    unfolding pages joined costs
    costs_pages [] o bs h = omega arith
    costs_pages (n ∷ ns) o bs h =
        let p : Page = record { number = n; offset = o; bytes = take s.size bs } in
        omega (
          arith,
          costs_append l (page_acts s p) (joined (map (page_acts s) (pages s.size (o + s.size) ns (drop s.size bs)))),
          costs_page p (length-take-le s.size bs (omega arith)),
          costs_pages ns (o + s.size) (drop s.size bs) (rw length-drop (omega arith)),
        )

    costs_lead : costs l (lead s) ≡ 71 + 4 * l.wait
    unfolding lead costs cost longest
    costs_lead = simp (longest_address_write, longest_data_write, longest_data_read) (omega arith)

    costs_preparation : costs l (preparation s) ≡ 71 + 4 * l.wait + s.pairs.count * pair_cost l
    unfolding preparation
    costs_preparation = omega (arith, costs_append l (lead s) (joined (map pair_acts (pairs_of s.pairs))), costs_lead, costs_pairs s.pairs 0 s.pairs.count)

    length_rising : (first n : ℕ) → length (rising first n) ≡ n
    unfolding rising
    length_rising first zero = refl
    length_rising first (suc n) = ap suc (length_rising (suc first) n)

    -- the figure at the start, for k pages of B blocks
    pub costs_session : (first k : ℕ) (image : List ℕ) → 1 ≤ B → length image ≡ k * s.size
        → costs l (session_order s first image) ≡ 16 + 4 * (14 + l.wait) + s.pairs.count * pair_cost l + k * page_cost l B
    unfolding session_order order costs cost longest
    costs_session first k image one h =
        let n : length image / s.size ≡ k = ap (λ (m : ℕ). m / s.size) h ∙ mul-div_cancel k (omega arith) in
        let few : length (rising first k) * s.size ≤ length image = rw (length_rising first k) (omega arith) in
        let over = costs_pages (rising first k) 0 image few ∙ ap (λ (m : ℕ). m * page_cost l B) (length_rising first k) in
        simp (n, costs_append, costs_preparation) (omega (arith, over))

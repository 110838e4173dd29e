-- A page against the target: it is erased, written block by block and read back. On the way it is the old
-- page, or, from the erase on, the first k bytes of the new one and 0xFF after them; every other byte stays.
use mathlib.Core.Path.{◌≡◌, sym, ap, ◌∙◌}
use mathlib.Core.Bool.{true}
use mathlib.Core.List.{List, [], ◌∷◌, ◌++◌, map, append_assoc}
use Prim.Native.Nat.{ℕ, zero, suc, ◌+◌, ◌*◌, ◌/◌, ◌<◌, ◌≤◌}
use native.Mathlib.Omega.{arith}
use lib.ListN.{length, take, drop, replicate, length-append, length-drop, take-append-drop, drop_of_length-le}
use lib.Seq.{take_at, drop_at, take-add, take_all, take-take, drop-drop, drop-append-le, length-take-le}
use lib.Dec.{leb}
use borrow.Author.Tests.{leb-true, leb-false}
use Rattle.laws.proofs.Tests.{by_test}
use Rattle.laws.specs.Bytes.{Bytes}
use Rattle.c2_wire.proofs.Laws.Bits.{bytes_take, bytes_drop}
use Rattle.c2_wire.specs.Exchange.{Outcome}
use Rattle.c2_order.specs.Acts.{Act, erase, block_write, block_read}
use Rattle.c2_order.specs.Order.{Page, blocks, joined, page_blocks, page_acts}
use Rattle.c2_target.specs.declared.Command.TheVariants.{Ready}
use Rattle.c2_target.specs.declared.Output.TheVariants.{Empty}
use Rattle.c2_target.specs.declared.Met.{Met}
use Rattle.c2_target.specs.declared.Target.{Target}
use Rattle.c2_target.specs.Delays.{Setup}
use Rattle.c2_target.specs.Commands.{erased}
use Rattle.c2_target.specs.Interface.{prepared}
use Rattle.c2_play.proofs.Laws.Interface.{Fit, Kept, Good}
use Rattle.c2_play.proofs.Laws.Covers.{Covers}
use Rattle.c2_play.proofs.Laws.Commands.{erase_good, block_write_good, block_read_good, erased_covers, covers_length}

pub covers_take : (n : ℕ) (os bs : List ℕ) → Covers os bs → Covers (take n os) (take n bs)
unfolding Covers
covers_take zero os bs h = tt
covers_take (suc n) [] [] h = tt
covers_take (suc n) [] (b ∷ bs) h = absurd h
covers_take (suc n) (o ∷ os) [] h = absurd h
covers_take (suc n) (o ∷ os) (b ∷ bs) h = (h.0, covers_take n os bs h.1)

pub covers_drop : (n : ℕ) (os bs : List ℕ) → Covers os bs → Covers (drop n os) (drop n bs)
unfolding Covers
covers_drop zero os bs h = h
covers_drop (suc n) [] [] h = tt
covers_drop (suc n) [] (b ∷ bs) h = absurd h
covers_drop (suc n) (o ∷ os) [] h = absurd h
covers_drop (suc n) (o ∷ os) (b ∷ bs) h = covers_drop n os bs h.1

-- a list and what follows it, cut in two
cut : (m : ℕ) (xs W : List ℕ) → xs ++ W ≡ take m xs ++ (drop m xs ++ W)
cut m xs W = ap (λ (x : List ℕ). x ++ W) (sym (take-append-drop m xs)) ∙ append_assoc (take m xs) (drop m xs) W

-- the first k bytes of a block, within those of the page
mixed_first : (J : List ℕ → Type 0) (A bs os W : List ℕ) (m : ℕ) → m ≤ length os → m ≤ length bs
    → ((k : ℕ) → J (A ++ (take k bs ++ (drop k os ++ W)))) → (k : ℕ) → J (A ++ (take k (take m bs) ++ (drop k (take m os) ++ (drop m os ++ W))))
mixed_first J A bs os W m ho hb j k =
    let wo : length (take m os) ≡ m = length-take-le m os ho in
    let wb : length (take m bs) ≡ m = length-take-le m bs hb in
    by_test (leb k m)
    (λ e.
    let h : k ≤ m = leb-true k m e in
    let rest : drop k (take m os) ++ (drop m os ++ W) ≡ drop k os ++ W =
    sym (append_assoc (drop k (take m os)) (drop m os) W)
    ∙ ap (λ (x : List ℕ). x ++ W) (sym (drop-append-le k (take m os) (drop m os) (omega arith)) ∙ ap (drop k) (take-append-drop m os)) in
    rw (take-take k m bs h, rest) (j k))
    (λ e.
    let h : m < k = leb-false k m e in
    rw (take_all k (take m bs) (omega arith), drop_of_length-le (take m os) {i = k} (omega arith)) (j m))

mixed_rest : (J : List ℕ → Type 0) (A bs os W : List ℕ) (m : ℕ)
    → ((k : ℕ) → J (A ++ (take k bs ++ (drop k os ++ W)))) → (k : ℕ) → J ((A ++ take m bs) ++ (take k (drop m bs) ++ (drop k (drop m os) ++ W)))
mixed_rest J A bs os W m j k =
    let e : A ++ (take (m + k) bs ++ (drop (m + k) os ++ W)) ≡ (A ++ take m bs) ++ (take k (drop m bs) ++ (drop k (drop m os) ++ W)) =
    ap (λ (x : List ℕ). A ++ (x ++ (drop (m + k) os ++ W))) (take-add m k bs)
    ∙ ap (λ (x : List ℕ). A ++ x) (append_assoc (take m bs) (take k (drop m bs)) (drop (m + k) os ++ W))
    ∙ sym (append_assoc A (take m bs) (take k (drop m bs) ++ (drop (m + k) os ++ W)))
    ∙ ap (λ (x : List ℕ). (A ++ take m bs) ++ (take k (drop m bs) ++ (x ++ W))) (sym (drop-drop k m os)) in
    rw e at (j (m + k))

erased_at : (A old W : List ℕ) (size page : ℕ) → length A ≡ page * size → length old ≡ size
    → erased size page (A ++ (old ++ W)) ≡ A ++ (replicate size 0xff ++ W)
unfolding erased
erased_at A old W size page e h =
    rw (take_at A (old ++ W) (page * size) e, ← drop-drop size (page * size) (A ++ (old ++ W)), drop_at A (old ++ W) (page * size) e, drop_at old W size h)

module _ (u : Setup) (l r : ℕ) (fit : Fit u l r) (m : Met) (end : Outcome) (J : List ℕ → Type 0) (Z : Target → List ℕ → Type 0) (kept : Kept J Z)
    (ready : prepared u.wanted m ≡ true) where
  abbrev good : List Act → List ℕ → Type 0
  good acts f = Good u l r fit m end J Z kept acts Ready Empty f

  pub writes_good : (n a o : ℕ) (A bs os W : List ℕ) (acts : List Act) → length A ≡ a → a + 256 * n ≤ 65536 → length bs ≡ 256 * n → Bytes bs
      → Covers os bs → ((k : ℕ) → J (A ++ (take k bs ++ (drop k os ++ W))))
      → good acts (A ++ (bs ++ W))
      → good (joined (map (block_write u.settings.fpdat) (blocks n a o bs)) ++ acts) (A ++ (os ++ W))
  unfolding blocks joined
  writes_good zero a o A [] [] W acts ea ha hb h cs j g = g
  writes_good zero a o A (b ∷ bs) os W acts ea ha hb h cs j g = absurd (omega arith)
  writes_good zero a o A [] (y ∷ os) W acts ea ha hb h cs j g =
      let z : suc (length os) ≡ 0 = covers_length (y ∷ os) [] cs in
      absurd (omega arith)
  writes_good (suc n) a o A bs os W acts ea ha hb h cs j g =
      let w : length (take 256 bs) ≡ 256 = length-take-le 256 bs (omega arith) in
      let same : length os ≡ length bs = covers_length os bs cs in
      let rest : List Act = joined (map (block_write u.settings.fpdat) (blocks n (a + 256) (o + 256) (drop 256 bs))) in
      let split : A ++ (os ++ W) ≡ A ++ (take 256 os ++ (drop 256 os ++ W)) = ap (λ (x : List ℕ). A ++ x) (cut 256 os W) in
      let back : A ++ (bs ++ W) ≡ (A ++ take 256 bs) ++ (drop 256 bs ++ W) =
      ap (λ (x : List ℕ). A ++ x) (cut 256 bs W) ∙ sym (append_assoc A (take 256 bs) (drop 256 bs ++ W)) in
      rw (split, append_assoc (block_write u.settings.fpdat (record { address = a; offset = o; bytes = take 256 bs })) rest acts)
      (block_write_good u l r fit m end J Z kept ready A (take 256 bs) (take 256 os) (drop 256 os ++ W) a o (rest ++ acts) ea (omega arith) (omega arith) (omega arith)
      (bytes_take 256 bs h) (covers_take 256 os bs cs) (mixed_first J A bs os W 256 (omega arith) (omega arith) j)
      (rw (← append_assoc A (take 256 bs) (drop 256 os ++ W))
      (writes_good n (a + 256) (o + 256) (A ++ take 256 bs) (drop 256 bs) (drop 256 os) W acts (rw (length-append, w) (omega arith)) (omega arith)
      (rw length-drop (omega arith)) (bytes_drop 256 bs h) (covers_drop 256 os bs cs) (mixed_rest J A bs os W 256 j)
      (rw back at g))))

  pub reads_good : (n a o : ℕ) (A bs W : List ℕ) (acts : List Act) → length A ≡ a → a + 256 * n ≤ 65536 → length bs ≡ 256 * n → Bytes bs
      → good acts (A ++ (bs ++ W))
      → good (joined (map (block_read u.settings.fpdat) (blocks n a o bs)) ++ acts) (A ++ (bs ++ W))
  unfolding blocks joined
  reads_good zero a o A bs W acts ea ha hb h g = g
  reads_good (suc n) a o A bs W acts ea ha hb h g =
      let w : length (take 256 bs) ≡ 256 = length-take-le 256 bs (omega arith) in
      let rest : List Act = joined (map (block_read u.settings.fpdat) (blocks n (a + 256) (o + 256) (drop 256 bs))) in
      let split : A ++ (bs ++ W) ≡ A ++ (take 256 bs ++ (drop 256 bs ++ W)) = ap (λ (x : List ℕ). A ++ x) (cut 256 bs W) in
      let back : A ++ (bs ++ W) ≡ (A ++ take 256 bs) ++ (drop 256 bs ++ W) = split ∙ sym (append_assoc A (take 256 bs) (drop 256 bs ++ W)) in
      rw (split, append_assoc (block_read u.settings.fpdat (record { address = a; offset = o; bytes = take 256 bs })) rest acts)
      (block_read_good u l r fit m end J Z kept ready A (take 256 bs) (drop 256 bs ++ W) a o (rest ++ acts) ea (omega arith) (omega arith) (omega arith)
      (bytes_take 256 bs h)
      (rw (← append_assoc A (take 256 bs) (drop 256 bs ++ W))
      (reads_good n (a + 256) (o + 256) (A ++ take 256 bs) (drop 256 bs) W acts (rw (length-append, w) (omega arith)) (omega arith)
      (rw length-drop (omega arith)) (bytes_drop 256 bs h)
      (rw back at g))))

  pub page_good : (B : ℕ) → u.settings.size ≡ 256 * B → (p : Page) (A old W : List ℕ) (acts : List Act) → length A ≡ p.number * u.settings.size
      → length old ≡ u.settings.size → p.number < u.settings.count → u.settings.count ≤ 256
      → p.number * u.settings.size + u.settings.size ≤ 65536 → length p.bytes ≡ u.settings.size → Bytes p.bytes
      → J (A ++ (old ++ W)) → ((k : ℕ) → J (A ++ (take k p.bytes ++ (drop k (replicate u.settings.size 0xff) ++ W))))
      → good acts (A ++ (p.bytes ++ W)) → good (page_acts u.settings p ++ acts) (A ++ (old ++ W))
  unfolding page_acts
  page_good B whole p A old W acts ea eo hp hc ha hb h j0 j g =
      let size : ℕ = u.settings.size in
      let em : 256 * (size / 256) ≡ size = omega arith in
      let wr : List Act = joined (map (block_write u.settings.fpdat) (page_blocks u.settings p)) in
      let rd : List Act = joined (map (block_read u.settings.fpdat) (page_blocks u.settings p)) in
      let er : List Act = erase u.settings.fpdat p.number in
      let cs : Covers (replicate size 0xff) p.bytes = rw (← hb) (erased_covers p.bytes h) in
      rw (append_assoc (er ++ wr) rd acts, append_assoc er wr (rd ++ acts))
      (erase_good u l r fit m end J Z kept ready p.number (wr ++ (rd ++ acts)) (A ++ (old ++ W)) (omega arith) hp j0
      (rw (erased_at A old W size p.number ea eo)
      (writes_good (size / 256) (p.number * size) p.offset A p.bytes (replicate size 0xff) W (rd ++ acts) ea (omega arith) (omega arith) h cs j
      (reads_good (size / 256) (p.number * size) p.offset A p.bytes W acts ea (omega arith) (omega arith) h g))))

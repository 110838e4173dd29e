-- The page and the block at a number: their addresses, offsets and bytes.
use mathlib.Core.Path.{◌≡◌, refl, ap, ◌∙◌}
use mathlib.Core.List.{List}
use Prim.Native.Nat.{ℕ, zero, suc, ◌+◌, ◌*◌, ◌<◌}
use native.Mathlib.Nat.{not-suc-le-zero}
use native.Mathlib.Omega.{arith}
use lib.ListN.{length, get_or, take, drop}
use lib.Seq.{drop-drop}
use Rattle.c2_order.specs.Acts.{Block}
use Rattle.c2_order.specs.Order.{Page, pages, rising, blocks}

abbrev page : (number offset : ℕ) → List ℕ → Page
page n o bs = record { number = n; offset = o; bytes = bs }

page_same : {n m o p : ℕ} {bs cs : List ℕ} → n ≡ m → o ≡ p → bs ≡ cs → page n o bs ≡ page m p cs
page_same e f g = λ t. record { number = e t; offset = f t; bytes = g t }

pub pages_at : (size first n o i : ℕ) (image : List ℕ) (d : Page) → i < n
    → get_or (pages size o (rising first n) image) i d ≡ page (first + i) (o + i * size) (take size (drop (i * size) image))
unfolding pages rising
pages_at size first zero o i image d h = absurd (not-suc-le-zero h)
pages_at size first (suc n) o zero image d h =
    let z : 0 * size ≡ 0 = omega arith in
    page_same (omega arith) (omega arith) (rw z)
pages_at size first (suc n) o (suc i) image d h =
    let m : suc i * size ≡ size + i * size = omega arith in
    pages_at size (suc first) n (o + size) i (drop size image) d (omega arith)
    ∙ page_same (omega arith) (omega arith) (rw (drop-drop (i * size) size image, m))

pub length_pages : (size first n o : ℕ) (image : List ℕ) → length (pages size o (rising first n) image) ≡ n
unfolding pages rising
length_pages size first zero o image = refl
length_pages size first (suc n) o image = ap suc (length_pages size (suc first) n (o + size) (drop size image))

abbrev block : (address offset : ℕ) → List ℕ → Block
block a o bs = record { address = a; offset = o; bytes = bs }

block_same : {a b o p : ℕ} {bs cs : List ℕ} → a ≡ b → o ≡ p → bs ≡ cs → block a o bs ≡ block b p cs
block_same e f g = λ t. record { address = e t; offset = f t; bytes = g t }

pub blocks_at_number : (n a o j : ℕ) (bs : List ℕ) (d : Block) → j < n
    → get_or (blocks n a o bs) j d ≡ block (a + j * 256) (o + j * 256) (take 256 (drop (j * 256) bs))
unfolding blocks
blocks_at_number zero a o j bs d h = absurd (not-suc-le-zero h)
blocks_at_number (suc n) a o zero bs d h = block_same (omega arith) (omega arith) refl
blocks_at_number (suc n) a o (suc j) bs d h =
    let m : suc j * 256 ≡ 256 + j * 256 = omega arith in
    blocks_at_number n (a + 256) (o + 256) j (drop 256 bs) d (omega arith)
    ∙ block_same (omega arith) (omega arith) (rw (drop-drop (j * 256) 256 bs, m))

pub length_blocks : (n a o : ℕ) (bs : List ℕ) → length (blocks n a o bs) ≡ n
unfolding blocks
length_blocks zero a o bs = refl
length_blocks (suc n) a o bs = ap suc (length_blocks n (a + 256) (o + 256) (drop 256 bs))

-- What the tests of a state say of its numbers.
use mathlib.Core.Path.{◌≡◌}
use mathlib.Core.Bool.{true, ◌&&◌}
use Prim.Native.Nat.{ℕ, ◌+◌, ◌^◌, ◌<◌, ◌≤◌}
use native.Mathlib.Omega.{arith}
use borrow.Author.Tests.{ltb-true, leb-true}
use lib.Dec.{leb}
use Rattle.laws.proofs.Tests.{both}
use Rattle.c2_wire.proofs.Laws.Bits.{weight_small}
use Rattle.c2_target.specs.Known.{hearing, is_byte, is_count, known_block}
use Rattle.c2_target.proofs.Laws.KnownPoint.{hearing_says}

-- fewer than eight bits heard, and their value is a byte
pub hearing_bytes : (w n v : ℕ) → w ≤ 8 → hearing w n v ≡ true → (n < 8) × (v < 256)
hearing_bytes w n v k e =
    let h = hearing_says w n v e in
    let r : 2 ^ n ≤ 128 = weight_small n (omega (arith, h.0)) in
    (omega (arith, h.0), omega (arith, h.1))

pub byte_says : (b : ℕ) → is_byte b ≡ true → b < 256
unfolding is_byte
byte_says b e = ltb-true b 256 e

-- a block has a byte, and lies in the flash
pub block_says : (end a n : ℕ) → known_block end a n ≡ true → (1 ≤ n) × (a + n ≤ end)
unfolding known_block is_count
block_says end a n e =
    let h = both (leb 1 n && leb n 256) (leb (a + n) end) e in
    (leb-true 1 n (both (leb 1 n) (leb n 256) h.0).0, leb-true (a + n) end h.1)

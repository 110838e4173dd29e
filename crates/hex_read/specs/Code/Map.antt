-- The map of what is set: a bit for each byte of the flash. For the code alone: `follows_fresh` and
-- `follows_data` of Judging in proofs/Laws/ join it to the cells of hex_format.
use Rattle.std.specs.Prelude.{◌≡◌, List, ℕ, ◌+◌, ◌/◌, ◌%◌, ◌^◌, ◌≤◌, ◌<◌, get_or}

unfoldable pub map_bit : (b k : ℕ) → ℕ
map_bit b k = b / 2 ^ k % 2

-- the bit of an address
unfoldable pub marked_at : List ℕ → ℕ → ℕ
marked_at map a = map_bit (get_or map (a / 8) 0) (a % 8)

-- a run of addresses that was free, and is marked
pub record Run (old new : List ℕ) (a n : ℕ) : Type 0 where
  pub free : (k : ℕ) → a ≤ k → k < a + n → marked_at old k ≡ 0
  pub inside : (k : ℕ) → a ≤ k → k < a + n → marked_at new k ≡ 1
  pub outside : (k : ℕ) → (a ≤ k → k < a + n → ⊥) → marked_at new k ≡ marked_at old k

-- an address of the run that was marked before
pub record Clash (old : List ℕ) (a n : ℕ) : Type 0 where
  pub k : ℕ
  pub from : a ≤ k
  pub below : k < a + n
  pub set : marked_at old k ≡ 0 → ⊥

-- The second pass, over a file that was accepted. For the code alone: `answer_image` of Answering in
-- proofs/Laws/ joins `filled` to the answer of hex_format.
use Rattle.std.specs.Prelude.{◌≡◌, false, List, ℕ, ◌+◌, ◌≤◌, ◌<◌, get_or, take, drop, replicate}
use Rattle.hex_format.specs.Reading.{lines, unset, lines_taken, bytes}

-- what is set at the end of a file, in a flash of so many bytes
unfoldable pub final : (flash : ℕ) (file : List ℕ) → List ℕ
final flash file = (lines_taken 0 false (replicate flash unset) (lines file)).cells

-- the file is accepted, and all that it sets lies in the window
pub record Window (file : List ℕ) (start bytes flash : ℕ) : Type 0 where
  pub right : (lines_taken 0 false (replicate flash unset) (lines file)).number ≡ 0
  pub from : (k : ℕ) → (get_or (final flash file) k unset ≡ unset → ⊥) → start ≤ k
  pub below : (k : ℕ) → (get_or (final flash file) k unset ≡ unset → ⊥) → k < start + bytes
  pub inside : start + bytes ≤ flash

-- for some flash
pub record Fillable (file : List ℕ) (start bytes : ℕ) : Type 0 where
  pub flash : ℕ
  pub window : Window file start bytes flash

-- the bytes of the window
unfoldable pub filled : (flash start count : ℕ) (file : List ℕ) → List ℕ
filled flash start count file = bytes (take count (drop start (final flash file)))

-- The first lines of a file, as the loop writes them. For the code alone: `file_is` of Putting in
-- proofs/Laws/ joins them to `data_lines` of hex_format.
use Rattle.std.specs.Prelude.{ℕ, zero, suc, ◌+◌, ◌*◌, List, [], ◌++◌, take, drop}
use Rattle.hex_format.specs.Writing.{data_line}

unfoldable pub firsts : (r a : ℕ) → List ℕ → List ℕ
firsts zero a im = []
firsts (suc r) a im = firsts r a im ++ data_line (a + 16 * r) (take 16 (drop (16 * r) im))

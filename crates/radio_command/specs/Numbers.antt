-- The radio module's own numbers (document 02, i), each given exactly if its comment holds. The others are
-- those of `numbers`.
use Rattle.std.specs.Prelude.{ℕ}

-- a message with a wrong length, head, sum or command
abbrev pub bad_message : ℕ
bad_message = 28

-- mask or data not 256 bytes, a mask byte neither 0x00 nor 0xFF, or one that names bytes 2 or 3
abbrev pub bad_mask : ℕ
bad_mask = 29

-- an image of 0 or above 32,256 bytes
abbrev pub bad_image_length : ℕ
bad_image_length = 30

-- the module answered with an error; its code stands beside
abbrev pub error_answer : ℕ
error_answer = 42

-- a page read back differs from the padded image; the first offset stands beside
abbrev pub page_differs : ℕ
page_differs = 43

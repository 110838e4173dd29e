-- For the code: a frame as a word, its script. `step_by_code` and `follows_by_code` of proofs/Laws/Script
-- join the codes to the strobes of specs/Frames.antt, `word_first` and `word_rest` the word to its codes,
-- `frame_word` its parts, and `table_drives` of proofs/Laws/Table a table to the driven steps.
use Rattle.std.specs.Prelude.{Bool, cond, List, [], ◌∷◌, ◌++◌, map, ℕ, ◌+◌, ◌*◌, ◌-◌, ◌^◌, ltb, leb, eqb, replicate, get_or}
use Rattle.c2_wire.specs.Bits.{bits}
use Rattle.c2_wire.specs.Step.{driven, code}
use Rattle.c2_wire.specs.Place.{passes, takes_bit, waits_on}
use Rattle.c2_wire.specs.declared.Frame.{Frame}
use Rattle.c2_wire.specs.declared.Frame.TheVariants.{AddressWrite, AddressRead, DataWrite, DataRead}
use Rattle.c2_wire.specs.declared.Place.{Place}
use Rattle.c2_wire.specs.declared.Moved.{Moved}
use Rattle.c2_wire.specs.declared.Moved.TheVariants.{Stopped}

-- codes as one word, four bits to a code, the first lowest
unfoldable pub code_word : List ℕ → ℕ
code_word [] = 0
code_word (c ∷ cs) = c + 16 * code_word cs

-- the codes of the strobes that drive a byte: their steps
unfoldable pub driven_codes : (byte : ℕ) → List ℕ
driven_codes a = map (λ b. code (driven b)) (bits 8 a)

-- the codes that a table has for a byte, 256 places apart
unfoldable pub table_codes : List ℕ → (byte : ℕ) → List ℕ
table_codes t a =
    get_or t a 0 ∷ get_or t (a + 256) 0 ∷ get_or t (a + 512) 0 ∷ get_or t (a + 768) 0
    ∷ get_or t (a + 1024) 0 ∷ get_or t (a + 1280) 0 ∷ get_or t (a + 1536) 0 ∷ get_or t (a + 1792) 0 ∷ []

-- the codes of the strobes that sample a byte: 8 and the bit's number
abbrev pub sampled_codes : List ℕ
sampled_codes = 8 ∷ 9 ∷ 10 ∷ 11 ∷ 12 ∷ 13 ∷ 14 ∷ 15 ∷ []

-- the codes of a frame's strobes, sixteen of them: a WAIT is 6, and from the STOP on each is 7
unfoldable pub frame_codes : Frame → (byte : ℕ) → List ℕ
frame_codes AddressWrite a = 0 ∷ 3 ∷ 3 ∷ driven_codes a ++ replicate 5 7
frame_codes AddressRead a = 0 ∷ 2 ∷ 3 ∷ sampled_codes ++ replicate 5 7
frame_codes DataWrite a = 0 ∷ 3 ∷ 2 ∷ 2 ∷ 2 ∷ driven_codes a ++ 6 ∷ 7 ∷ 7 ∷ []
frame_codes DataRead a = 0 ∷ 2 ∷ 2 ∷ 2 ∷ 2 ∷ 6 ∷ sampled_codes ++ 7 ∷ 7 ∷ []

-- a frame's word but for the byte that it writes, and the weight of that byte's codes in it; 0 where it
-- writes none
unfoldable pub frame_around : Frame → ℕ
frame_around AddressWrite = 0x7777700000000330
frame_around AddressRead = 0x77777fedcba98320
frame_around DataWrite = 0x7760000000022230
frame_around DataRead = 0x77fedcba98622220

unfoldable pub byte_weight : Frame → ℕ
byte_weight AddressWrite = 16 ^ 3
byte_weight AddressRead = 0
byte_weight DataWrite = 16 ^ 5
byte_weight DataRead = 0

-- the code by which a strobe is known: past the sixteenth all are alike
unfoldable pub kept : (strobe : ℕ) → ℕ
kept q = cond (ltb q 15) q 15

-- the step of a strobe with this code
unfoldable pub code_step : (code : ℕ) → ℕ
code_step c = cond (ltb c 6) c 0

-- what a reply makes of a place whose strobe has this code
unfoldable pub code_follows : (wait_limit code : ℕ) → Place → Bool → Moved
code_follows l c p b =
    cond (leb 14 p.strobe) (Stopped p.bits)
    (cond (ltb c 4) (passes p) (cond (leb 8 c) (takes_bit (c - 8) p b) (cond (eqb c 6) (waits_on l p b) (Stopped p.bits))))

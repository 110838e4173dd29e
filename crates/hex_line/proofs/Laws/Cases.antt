-- Upper and lower case of a digit: the bit that tells them apart.
use Rattle.std.proofs.Common.{◌≡◌, ℕ, ◌+◌, ◌*◌, ◌/◌, ◌%◌, ◌<◌, ◌≤◌, bit_or, sym, ◌∙◌, arith}
use Rattle.std.proofs.lemmas.Nat.{or_comm, or_lt, or_mod, or_shr, le_or_r}
use Rattle.std.proofs.lemmas.Bool.Decides.{nat_tests}
use Rattle.hex_format.specs.Digits.{digit}

or_none : (n : ℕ) → bit_or n 0 ≡ n
or_none n = or_comm n 0

-- with that bit set
pub lower : (a : ℕ) → bit_or a 32 ≡ a / 64 * 64 + 32 + a % 32
lower a =
    let x = bit_or a 32 in
    let high : x / 64 ≡ a / 64 = or_shr a 32 6 ∙ or_none (a / 64) in
    let low : x % 32 ≡ a % 32 = or_mod a 32 5 ∙ or_none (a % 32) in
    let shifted : x / 32 ≡ bit_or (a / 32) 1 = or_shr a 32 5 in
    let bit : bit_or (a / 32) 1 % 2 ≡ bit_or (a / 32 % 2) 1 = or_mod (a / 32) 1 1 in
    let set : 1 ≤ bit_or (a / 32 % 2) 1 = le_or_r (a / 32 % 2) 1 in
    let one : bit_or (a / 32 % 2) 1 < 2 = or_lt 1 (a / 32 % 2) 1 (omega arith) (omega arith) in
    omega (arith, high, low, shifted, bit, set, one)

pub letter : (a : ℕ) → a < 256 → 10 ≤ (a + 208) % 256 → (bit_or a 32 + 159) % 256 < 6
    → ((bit_or a 32 + 159) % 256 + 10 ≡ digit a) × ((bit_or a 32 + 159) % 256 + 10 < 16)
unfolding digit
letter a h d l = let e = lower a in rw e (grind (arith, nat_tests))

pub other : (a : ℕ) → a < 256 → 10 ≤ (a + 208) % 256 → 6 ≤ (bit_or a 32 + 159) % 256 → digit a ≡ 16
unfolding digit
other a h d l = let e = lower a in let m : 6 ≤ (a / 64 * 64 + 32 + a % 32 + 159) % 256 = rw (sym e) l in grind (arith, nat_tests)

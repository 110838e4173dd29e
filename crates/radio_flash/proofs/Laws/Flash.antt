-- What is set in the flash leaves it as long as it is.
use Rattle.std.proofs.Common.{◌≡◌, List, ◌++◌, ℕ, ◌+◌, ◌*◌, ◌≤◌, ◌<◌, eqb, length, replicate, take, drop, ◌∙◌, arith, length-append, length-take, length-drop, length-set}
use Rattle.std.proofs.lemmas.List.{length-replicate}
use Rattle.laws.proofs.Tests.{by_test}
use Rattle.radio_flash.specs.Flash.{page_set, byte_set, mass_erased}

-- a page that is set, a byte that is set and mass erase leave the flash as long as it is
part_long : (a k b : ℕ) (bs f : List ℕ) → a ≤ b → b ≤ length f → length bs + a ≡ b + k → k ≤ length bs
    → length (take a f ++ (drop k bs ++ drop b f)) ≡ length f
part_long a k b bs f h u w l =
    let x = length-append (take a f) (drop k bs ++ drop b f) in
    let y = length-append (drop k bs) (drop b f) in
    let p = length-take a f in
    let q = length-drop k bs in
    let r = length-drop b f in
    omega arith

pub page_set_long : (p : ℕ) (bs f : List ℕ) → p < 128 → length bs ≡ 256 → length f ≡ 33024 → length (page_set p bs f) ≡ 33024
unfolding page_set
page_set_long p bs f h l w =
    by_test (eqb p 127)
    (λ t. rw t (part_long (256 * p + 4) 4 (256 * p + 256) bs f (omega arith) (omega arith) (omega arith) (omega arith) ∙ w))
    (λ t. rw t (part_long (256 * p + 0) 0 (256 * p + 256) bs f (omega arith) (omega arith) (omega arith) (omega arith) ∙ w))

first_long : (n : ℕ) (f : List ℕ) → n ≤ length f → length (replicate n 0xFF ++ drop n f) ≡ length f
first_long n f h =
    let x = length-append (replicate n 0xFF) (drop n f) in
    let y = length-replicate {A = ℕ} n 0xFF in
    let z = length-drop n f in
    omega arith

pub mass_erased_long : (f : List ℕ) → length f ≡ 33024 → length (mass_erased f) ≡ 33024
unfolding mass_erased
mass_erased_long f w = let h : 32768 ≤ length f = omega arith in first_long 32768 f h ∙ w

pub byte_set_long : (a b : ℕ) (f : List ℕ) → length f ≡ 33024 → length (byte_set a b f) ≡ 33024
unfolding byte_set
byte_set_long a b f w = length-set {A = ℕ} f a b ∙ w

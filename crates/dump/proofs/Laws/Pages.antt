-- Pages of a dump that is whole pages.
use mathlib.Core.Path.{◌≡◌, ap, ◌∙◌}
use mathlib.Core.List.{List}
use Prim.Native.Nat.{ℕ, suc, ◌+◌, ◌-◌, ◌*◌, ◌/◌, ◌%◌, ◌<◌, ◌≤◌}
use native.Mathlib.Nat.{mul-le-mul_right, div-mul-le_self, div-add-mod', suc-mul}
use native.Mathlib.Numerals.{add-one}
use native.Mathlib.Omega.{arith}
use lib.ListN.{take, drop}
use Rattle.dump.specs.Code.Stretch.{Equal}
use Rattle.dump.proofs.Laws.Stretch.{equal_part}

-- a page lies in the dump
pub page_fits : (n size page : ℕ) → page < n / size → page * size + size ≤ n
page_fits n size page h =
    let k : suc page ≤ n / size = h in
    omega (arith, suc-mul page size, mul-le-mul_right size k, div-mul-le_self n size)

-- the pages are all of it
pub all_pages : (n size page : ℕ) → n % size ≡ 0 → n / size ≤ page → n ≤ page * size
all_pages n size page e h = omega (arith, div-add-mod' n size, mul-le-mul_right size h)

-- one page more that is the same as a whole
pub page_same : (a b : List ℕ) (page size : ℕ) → Equal a b 0 (page * size)
    → take (page * size + size - page * size) (drop (page * size) a) ≡ take (page * size + size - page * size) (drop (page * size) b)
    → Equal a b 0 ((page + 1) * size)
page_same a b page size f e =
    let q : (page + 1) * size ≡ page * size + size = ap (λ (n : ℕ). n * size) (add-one page) ∙ suc-mul page size in
    rw q (equal_part a b 0 (page * size) size f e)

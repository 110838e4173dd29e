-- Laws of pages of any size.
use mathlib.Core.Path.{◌≡◌, ap, ◌∙◌}
use Prim.Native.Nat.{ℕ, suc, ◌+◌, ◌-◌, ◌*◌, ◌/◌, ◌%◌, ◌≤◌, ◌<◌}
use native.Mathlib.Omega.{arith}
use native.Mathlib.Nat.{div-add-mod', mod-lt, mul_comm, suc-mul, mul-one, mul-le-mul_left, mul-le-mul_right, lt_of_mul-lt-mul_right, add-mul, mul-mod_left}

pub page_start : (a size : ℕ) → a / size * size ≤ a
page_start a size = omega (arith, div-add-mod' a size)

pub page_number : (a size : ℕ) → 0 < size → a / size ≤ a
page_number a size h =
    let m = mul-le-mul_left {m = 1} {n = size} (a / size) (omega arith) in
    let o = mul-one (a / size) in
    let p = page_start a size in
    omega arith

pub page_end : (a size : ℕ) → 0 < size → a < a / size * size + size
page_end a size h = omega (arith, div-add-mod' a size, mod-lt a h)

pub page_within : (a size count : ℕ) → a < size * count → a / size * size + size ≤ size * count
page_within a size count h =
    let p : a / size * size < count * size = omega (arith, div-add-mod' a size, mul_comm size count) in
    let q : suc (a / size) ≤ count = lt_of_mul-lt-mul_right size p in
    omega (arith, mul-le-mul_right size q, suc-mul (a / size) size, mul_comm size count)

-- whole pages between two of them
pub page_run : (a b size : ℕ) → a ≤ b → (b * size + size - a * size) % size ≡ 0
page_run a b size h =
    let d = b - a in
    let e : b ≡ a + d = omega arith in
    let m = add-mul a d size in
    let s = suc-mul d size in
    let r : b * size + size - a * size ≡ suc d * size = ap (λ x. x * size + size - a * size) e ∙ omega arith in
    ap (λ x. x % size) r ∙ mul-mod_left (suc d) size

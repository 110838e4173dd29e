-- two to the eighth fits
use Prim.Native.Nat.{◌*◌, ◌^◌}
use mathlib.Core.Path.{◌≡◌}
use native.Mathlib.Nat.{mod-eq_of_lt, pow-le-pow_right}
use native.Mathlib.Omega.{arith}
use Rattle.c2_range.proofs.bounds.Bounds.bits.Goals as goal

pub returns : goal.returns
returns c =
    let n = c.args.self.sampled in
    let e : 1 * 2 ^ n ≡ 2 ^ n = omega arith in
    rw e (mod-eq_of_lt (omega (arith, pow-le-pow_right {n = 2} (omega arith) {i = n} {j = 8} c.args.self.byte)))

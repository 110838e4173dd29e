-- `hex_read::fill::put` meets its contract.
use mathlib.Core.Path.{◌≡◌, ◌∙◌}
use Prim.Native.Nat.{◌+◌, ◌-◌, ◌*◌}
use native.Mathlib.Omega.{arith}
use lib.ListN.{take, drop, length-drop}
use lib.Seq.{length-take-le}
use Rattle.hex_format.specs.Digits.{octets}
use Rattle.hex_format.proofs.Laws.Digits.{octets_length}
use Rattle.hex_format.proofs.Laws.Stores.{put_is}
use Rattle.hex_read.proofs.fill.put.Goals as goal

pub returns-then-count-eq0 : goal.returns-then-count-eq0
unfolding octets
returns-then-count-eq0 c = rw c.if-count-eq0.true

pub overflow_sub-i : goal.overflow_sub-i
overflow_sub-i c = omega (arith, (c.requires.1 c.if-count-eq0.false).0)

pub overflow_add-e : goal.overflow_add-e
overflow_add-e c =
    omega (arith, (c.requires.1 c.if-count-eq0.false).0, (c.requires.1 c.if-count-eq0.false).1)

pub slice_bounds-place-end : goal.slice_bounds-place-end
slice_bounds-place-end c =
    omega (arith, (c.requires.1 c.if-count-eq0.false).0, (c.requires.1 c.if-count-eq0.false).1)

pub place-requires : goal.place-requires
place-requires c =
    let a = c.args in
    let i = a.address - a.start in
    let r = c.requires.1 c.if-count-eq0.false in
    let p : 2 * a.count + 9 - 9 ≡ 2 * a.count = omega arith in
    let q : i + a.count - i ≡ a.count = omega arith in
    let l = length-take-le (2 * a.count) (drop 9 a.s.now) (rw (length-drop 9 a.s.now) (omega (arith, c.requires.0))) in
    let m = length-take-le a.count (drop i a.image.now) (rw (length-drop i a.image.now) (omega (arith, r.0, r.1))) in
    rw (p, q, l, m)

pub returns : goal.returns
returns c =
    let a = c.args in
    let i = a.address - a.start in
    let r = c.requires.1 c.if-count-eq0.false in
    let p : 2 * a.count + 9 - 9 ≡ 2 * a.count = omega arith in
    let q : i + a.count - i ≡ a.count = omega arith in
    let l = length-take-le (2 * a.count) (drop 9 a.s.now) (rw (length-drop 9 a.s.now) (omega (arith, c.requires.0))) in
    let o = octets (take (2 * a.count) (drop 9 a.s.now)) in
    let e : c.place.new.part ≡ o = c.place.ensures ∙ rw p in
    rw e (put_is i a.count a.image.now o (omega (arith, r.0, r.1)) (octets_length (take (2 * a.count) (drop 9 a.s.now)) a.count l))

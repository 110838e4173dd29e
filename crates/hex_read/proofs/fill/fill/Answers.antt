-- `hex_read::fill::fill` meets its contract: by the laws of Filling.
use mathlib.Core.Path.{◌≡◌, ap, ◌∙◌}
use Prim.Native.Nat.{◌-◌, ◌*◌}
use native.Mathlib.Omega.{arith}
use lib.ListN.{length, take, drop}
use lib.Seq.{sets, length-sets}
use Rattle.hex_format.specs.Digits.{octets}
use Rattle.hex_format.specs.Lines.{address, count}
use Rattle.hex_line.specs.Code.Shape.{first_line}
use Rattle.hex_read.proofs.Laws.Judging.{tail_is}
use Rattle.hex_read.proofs.Laws.Filling.{fill_starts, fill_shape, fill_room, fill_on, fill_ends, front_within, front_long}
use Rattle.hex_read.proofs.fill.fill.Goals as goal

pub loop-at-init : goal.loop-at-init
loop-at-init c =
    let a = c.args in (
      omega arith,
      (λ flash w. fill_starts a.file.now a.start (length a.image.now) flash c.fill.new.self w (c.fill.ensures.after (λ y h. h))),
      c.fill.ensures.len,
    )

pub head-h-requires : goal.head-h-requires
head-h-requires c =
    let a = c.args in
    let l = c.loop-at in
    let w = c.requires.window in
    let f = l.invariant.1 c.requires.flash w in
    rw (tail_is l.at a.file.now) (fill_shape a.file.now a.start (length a.image.now) c.requires.flash l.image l.at w f (omega arith))

pub put-requires : goal.put-requires
put-requires c =
    let a = c.args in
    let l = c.loop-at in
    let w = c.requires.window in
    let f = l.invariant.1 c.requires.flash w in
    let s = fill_shape a.file.now a.start (length a.image.now) c.requires.flash l.image l.at w f (omega arith) in
    let b = front_within (drop l.at a.file.now) s in
    rw (c.head-h.ensures.0, c.head-h.ensures.1, tail_is l.at a.file.now)
    (omega arith, λ n. rw l.invariant.2 (fill_room a.file.now a.start (length a.image.now) c.requires.flash l.image l.at w f (omega arith) n))

pub overflow_add-at : goal.overflow_add-at
overflow_add-at c =
    let a = c.args in
    let l = c.loop-at in
    let w = c.requires.window in
    let o = fill_on a.file.now a.start (length a.image.now) c.requires.flash l.image l.at w (l.invariant.1 c.requires.flash w) (omega arith) in
    let b = c.head-h.ensures.2 ∙ ap (λ s. length (first_line s)) (tail_is l.at a.file.now) in
    omega (arith, b, o.within)

pub loop-at-smaller : goal.loop-at-smaller
loop-at-smaller c =
    let a = c.args in
    let l = c.loop-at in
    let w = c.requires.window in
    let f = l.invariant.1 c.requires.flash w in
    let o = fill_on a.file.now a.start (length a.image.now) c.requires.flash l.image l.at w f (omega arith) in
    let b = c.head-h.ensures.2 ∙ ap (λ s. length (first_line s)) (tail_is l.at a.file.now) in
    let g = front_long (drop l.at a.file.now) (fill_shape a.file.now a.start (length a.image.now) c.requires.flash l.image l.at w f (omega arith)) in
    omega (arith, b, o.within, g)

pub loop-at-preserved : goal.loop-at-preserved
loop-at-preserved c =
    let a = c.args in
    let l = c.loop-at in
    let w = c.requires.window in
    let s = drop l.at a.file.now in
    let b = c.head-h.ensures.2 ∙ ap (λ s. length (first_line s)) (tail_is l.at a.file.now) in
    let o = fill_on a.file.now a.start (length a.image.now) c.requires.flash l.image l.at w (l.invariant.1 c.requires.flash w) (omega arith) in
    let p : c.put.new.image ≡ sets l.image (address s - a.start) (octets (take (2 * count s) (drop 9 s))) =
    c.put.ensures ∙ rw (c.head-h.ensures.0, c.head-h.ensures.1, tail_is l.at a.file.now) in (
      omega (arith, b, o.within),
      (λ flash w. rw (p, b) (fill_on a.file.now a.start (length a.image.now) flash l.image l.at w (l.invariant.1 flash w) (omega arith))),
      ap length p ∙ length-sets l.image (address s - a.start) (octets (take (2 * count s) (drop 9 s))) ∙ l.invariant.2,
    )

pub returns : goal.returns
returns c =
    let a = c.args in
    let l = c.loop-at in
    λ flash w. fill_ends a.file.now a.start (length a.image.now) flash l.image l.at (l.invariant.1 flash w) (omega arith)

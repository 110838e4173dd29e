-- `hex_read::fill::head` meets its contract: by the laws of Filling.
use native.Mathlib.Omega.{arith}
use Rattle.hex_format.specs.Lines.{address}
use Rattle.hex_read.proofs.Laws.Judging.{first_within}
use Rattle.hex_read.proofs.Laws.Filling.{front_within, front_end}
use Rattle.hex_read.proofs.fill.head.Goals as goal

pub bounds-s-3 : goal.bounds-s-3
bounds-s-3 c = let h = front_within c.args.s.now c.requires in omega arith

pub bounds-s-4 : goal.bounds-s-4
bounds-s-4 c = let h = front_within c.args.s.now c.requires in omega arith

pub bounds-s-5 : goal.bounds-s-5
bounds-s-5 c = let h = front_within c.args.s.now c.requires in omega arith

pub bounds-s-6 : goal.bounds-s-6
bounds-s-6 c = let h = front_within c.args.s.now c.requires in omega arith

pub slice_bounds-end_bytes-count : goal.slice_bounds-end_bytes-count
slice_bounds-end_bytes-count c = let h = front_within c.args.s.now c.requires in omega (arith, c.count-count.ensures.0)

pub slice_bounds-end_bytes-start : goal.slice_bounds-end_bytes-start
slice_bounds-end_bytes-start c = let h = front_within c.args.s.now c.requires in omega (arith, c.count-count.ensures.0)

pub overflow_add-bytes : goal.overflow_add-bytes
overflow_add-bytes c =
    let s = c.args.s.now in
    let l = front_end s c.requires c.count-count.result c.end_bytes.result c.count-count.ensures.0 c.end_bytes.ensures in
    omega (arith, first_within s, l, c.unwrap_or.ensures)

pub returns : goal.returns
unfolding address
returns c =
    let l = front_end c.args.s.now c.requires c.count-count.result c.end_bytes.result c.count-count.ensures.0 c.end_bytes.ensures in
    (c.word-address.ensures, c.count-count.ensures.0, rw c.unwrap_or.ensures l)

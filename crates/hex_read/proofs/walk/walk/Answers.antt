-- `hex_read::walk::walk` meets its contract: by the laws of Judging.
use mathlib.Core.Path.{ap, ◌∙◌}
use native.Mathlib.Omega.{arith}
use lib.ListN.{drop}
use Rattle.hex_line.specs.Code.Shape.{judgement_at}
use Rattle.hex_read.proofs.Laws.Judging.{tail_is, walk_starts, judged_within, walk_stops, walk_on, walk_ends, walk_unended, by_some, by_within, goes_by}
use Rattle.hex_read.proofs.walk.walk.Goals as goal

pub loop-at-init : goal.loop-at-init
loop-at-init c = walk_starts 8192 c.args.flash c.args.file.now c.args.map.now c.requires.1

pub take_line-requires : goal.take_line-requires
take_line-requires c =
    let l = c.loop-at in
    let a = c.args in
    let r = c.judge-judged.result in
    let j = c.judge-judged.ensures ∙ ap (judgement_at a.flash) (tail_is l.at a.file.now) in
    judged_within a.flash (drop l.at a.file.now) r.line r.bytes 65536 j c.requires.0

pub returns-in-Err : goal.returns-in-Err
returns-in-Err c =
    let l = c.loop-at in
    let a = c.args in
    let r = c.judge-judged.result in
    let j = c.judge-judged.ensures ∙ ap (judgement_at a.flash) (tail_is l.at a.file.now) in
    walk_stops l.map a.file.now a.flash l.at l.line l.taken l.invariant (omega arith) r.line r.bytes j c.take_line.new.map c.in-Err.refusal
    c.in-Err.ensures

pub overflow_add-at : goal.overflow_add-at
overflow_add-at c =
    let l = c.loop-at in
    let a = c.args in
    let r = c.judge-judged.result in
    let j = c.judge-judged.ensures ∙ ap (judgement_at a.flash) (tail_is l.at a.file.now) in
    let w = by_within l.map a.file.now a.flash l.at l.line l.taken l.invariant (omega arith) r.line r.bytes j c.take_line.new.map c.in-Ok.next
    c.in-Ok.ensures in
    omega (arith, w)

pub loop-at-smaller : goal.loop-at-smaller
loop-at-smaller c =
    let l = c.loop-at in
    let a = c.args in
    let r = c.judge-judged.result in
    let j = c.judge-judged.ensures ∙ ap (judgement_at a.flash) (tail_is l.at a.file.now) in
    let m = c.take_line.new.map in
    let n = c.in-Ok.next in
    let w = by_within l.map a.file.now a.flash l.at l.line l.taken l.invariant (omega arith) r.line r.bytes j m n c.in-Ok.ensures in
    let b = goes_by l.map a.file.now a.flash l.at l.line l.taken l.invariant (omega arith) r.line r.bytes j m n c.in-Ok.ensures in
    let s = by_some l.map a.file.now a.flash l.at l.line l.taken l.invariant (omega arith) r.line r.bytes j m n c.in-Ok.ensures in
    omega (arith, w, b, s)

pub loop-at-preserved : goal.loop-at-preserved
loop-at-preserved c =
    let l = c.loop-at in
    let a = c.args in
    let r = c.judge-judged.result in
    let j = c.judge-judged.ensures ∙ ap (judgement_at a.flash) (tail_is l.at a.file.now) in
    walk_on l.map a.file.now a.flash l.at l.line l.taken l.invariant (omega arith) r.line r.bytes j c.take_line.new.map c.in-Ok.next c.in-Ok.ensures

pub returns-then-taken : goal.returns-then-taken
returns-then-taken c =
    let l = c.loop-at in
    let a = c.args in
    walk_ends l.map a.file.now a.flash l.at l.line l.taken l.invariant (omega arith) c.if-taken.true

pub returns-else-taken : goal.returns-else-taken
returns-else-taken c =
    let l = c.loop-at in
    let a = c.args in
    rw c.into.ensures (walk_unended l.map a.file.now a.flash l.at l.line l.taken l.invariant (omega arith) c.if-taken.false)

-- `hex_read::read::read_map` meets its contract: by the laws of Answering.
use mathlib.Core.Path.{refl, ap, ◌∙◌}
use mathlib.Core.Bool.{false}
use Prim.Native.Nat.{◌+◌, ◌-◌, ◌*◌, ◌/◌}
use native.Mathlib.Omega.{arith}
use lib.ListN.{length, take, replicate}
use lib.Seq.{length-take-le}
use Rattle.std.specs.Prelude.{unwrap_or}
use Rattle.numbers.specs.Numbers.{refusal_number}
use Rattle.numbers.proofs.Refused.{refused}
use Rattle.hex_format.specs.Reading.{unset, lines, lines_taken}
use Rattle.hex_read.specs.Code.Fill.{final, filled, Window}
use Rattle.hex_read.proofs.Laws.Answering.{answer_stops, answer_none, answer_small, answer_image, window_cells, window, cut, reading_err}
use Rattle.hex_read.proofs.read.read_map.Goals as goal

pub walk-requires : goal.walk-requires
walk-requires c = (c.requires.1, c.fill.ensures.after (λ y h. h) ∙ ap (λ n. replicate n 0) c.told-map)

pub returns-in_err-w : goal.returns-in_err-w
returns-in_err-w c =
    let a = c.args in
    let f = c.in_err-w.field-0.0 in
    let z = refused f.refusal in
    reading_err _ f a.image.now c.from_residual.ensures.1
    ∙ answer_stops a.size (length a.image.now) (refusal_number f.refusal) (unwrap_or f.line 0) 0 0 a.image.now (lines_taken 0 false (replicate (a.size * a.count) unset) (lines a.file.now)) c.in_err-w.ensures
    (λ q. omega arith)

pub returns-then-w-eq0 : goal.returns-then-w-eq0
returns-then-w-eq0 c =
    let a = c.args in
    let r = c.in_ok-w.w in
    rw c.into.ensures
    (answer_none a.size (length a.image.now) 0 0 r.low r.high a.image.now (lines_taken 0 false (replicate (a.size * a.count) unset) (lines a.file.now)) c.in_ok-w.ensures refl c.if-w-eq0.true)

pub overflow_add-bytes : goal.overflow_add-bytes
overflow_add-bytes c =
    let a = c.args in
    let k = cut a.size a.count c.in_ok-w.w.low c.in_ok-w.w.high a.file.now c.in_ok-w.ensures c.if-w-eq0.false c.requires.0 in
    omega (arith, k.stop, c.requires.1)

pub overflow_sub-bytes-2 : goal.overflow_sub-bytes-2
overflow_sub-bytes-2 c =
    let a = c.args in
    let k = cut a.size a.count c.in_ok-w.w.low c.in_ok-w.w.high a.file.now c.in_ok-w.ensures c.if-w-eq0.false c.requires.0 in
    omega (arith, k.start)

pub returns-then-image-bytes : goal.returns-then-image-bytes
returns-then-image-bytes c =
    let a = c.args in
    let r = c.in_ok-w.w in
    rw c.into-then-image-bytes.ensures
    (answer_small a.size (length a.image.now) 0 0 r.low r.high a.image.now (lines_taken 0 false (replicate (a.size * a.count) unset) (lines a.file.now)) c.in_ok-w.ensures refl c.if-w-eq0.false c.if-image-bytes.true)

pub fill-requires-2 : goal.fill-requires-2
fill-requires-2 c =
    let a = c.args in
    let r = c.in_ok-w.w in
    let n = ((r.high - 1) / a.size * a.size + a.size - r.low / a.size * a.size) in
    let l = length-take-le n a.image.now (omega (arith, c.if-image-bytes.false)) in
    record { flash = a.size * a.count; window = rw l (window a.size a.count 0 0 r.low r.high a.file.now c.in_ok-w.ensures refl c.if-w-eq0.false c.requires.0 n refl) }

pub overflow_cast-result : goal.overflow_cast-result
overflow_cast-result c =
    let a = c.args in
    let k = cut a.size a.count c.in_ok-w.w.low c.in_ok-w.w.high a.file.now c.in_ok-w.ensures c.if-w-eq0.false c.requires.0 in
    omega (arith, k.number, k.order, k.past, c.requires.1)

pub returns : goal.returns
unfolding filled final
returns c =
    let a = c.args in
    let r = c.in_ok-w.w in
    let e = c.in_ok-w.ensures in
    let k = cut a.size a.count r.low r.high a.file.now e c.if-w-eq0.false c.requires.0 in
    let n = ((r.high - 1) / a.size * a.size + a.size - r.low / a.size * a.size) in
    let l = length-take-le n a.image.now (omega (arith, c.if-image-bytes.false)) in
    let v : Window a.file.now (r.low / a.size * a.size) (length (take n a.image.now)) (a.size * a.count) =
    rw l (window a.size a.count 0 0 r.low r.high a.file.now e refl c.if-w-eq0.false c.requires.0 n refl) in
    rw (c.fill-2.ensures (a.size * a.count) v, l)
    (answer_image a.size (length a.image.now) 0 0 r.low r.high a.image.now (lines_taken 0 false (replicate (a.size * a.count) unset) (lines a.file.now)) e refl c.if-w-eq0.false n refl (omega (arith, c.if-image-bytes.false))
    (omega (arith, k.start, k.stop, window_cells a.size a.count 0 0 r.low r.high a.file.now e refl c.if-w-eq0.false c.requires.0)))

-- `hex_line::line::measure` meets its contract: by the laws of Shape, test by test.
use Rattle.std.proofs.Common.{◌≡◌, ◌+◌, ◌-◌, ◌*◌, ◌%◌, length, take, drop, sym, ap, ◌∙◌, arith, length-drop, length-take-le}
use Rattle.hex_format.specs.Digits.{octets, all_digits}
use Rattle.hex_format.specs.Lines.{count, sum}
use Rattle.hex_line.specs.Code.Shape.{line_end}
use Rattle.hex_line.proofs.Laws.Shape.{shaped_unended, shaped_short, shaped_other, shaped_bad, shaped_good, digits_part, rest_part, end_small}
use Rattle.hex_line.proofs.line.measure.Goals as goal
use Rattle.hex_line.proofs.line.measure.Goals.{then-s-end-via-then-s-end, then-s-end-via-else-s-end+then-s-ne58}

pub returns-then-s-lt3 : goal.returns-then-s-lt3
returns-then-s-lt3 c = sym (shaped_short c.args.s.now (omega arith))

pub returns-then-s-end : goal.returns-then-s-end
returns-then-s-end c =
    let e = c.count-count.ensures.0 in
    elim c.then-s-end.branch [
      | then-s-end-via-then-s-end w ↦ sym (shaped_short c.args.s.now (omega arith))
      | then-s-end-via-else-s-end+then-s-ne58 w ↦ sym (shaped_other c.args.s.now w.if-s-ne58.true)
    ]

pub weigh-requires : goal.weigh-requires
weigh-requires c =
    let s = c.args.s.now in
    let n = c.count-count.result in
    let m = length-take-le (2 * n + 11 - 1) (drop 1 s) (rw (length-drop 1 s) (omega arith)) in
    omega (arith, m)

pub returns-in_err-sum : goal.returns-in_err-sum
returns-in_err-sum c =
    let s = c.args.s.now in
    rw c.from_residual.ensures
    (sym (shaped_bad s (ap all_digits (sym (digits_part s c.count-count.result c.count-count.ensures.0)) ∙ c.in_err-sum.ensures)))

pub returns-in_err-bytes : goal.returns-in_err-bytes
returns-in_err-bytes c =
    let s = c.args.s.now in
    rw c.from_residual-in_err-bytes.ensures
    (sym (shaped_unended s (ap line_end (sym (rest_part s c.count-count.result c.count-count.ensures.0)) ∙ c.in_err-bytes.ensures)))

pub overflow_add-bytes : goal.overflow_add-bytes
overflow_add-bytes c =
    let s = c.args.s.now in
    let n = c.count-count.result in
    let e = c.in_ok-bytes.ensures in
    omega (arith, e.0, end_small (take (length s - (2 * n + 11)) (drop (2 * n + 11) s)))

pub returns : goal.returns
returns c =
    let s = c.args.s.now in
    let k = c.count-count.result in
    let n = c.count-count.ensures.0 in
    let m = c.in_ok-sum.ensures in
    let e = c.in_ok-bytes.ensures in
    let p = digits_part s k n in
    let l : c.in_ok-bytes.field-0 ≡ line_end (drop (2 * count s + 11) s) = e.0 ∙ ap line_end (rest_part s k n) in (
      ap (λ x. 2 * x + 11 + c.in_ok-bytes.field-0) n
          ∙ shaped_good s c.in_ok-bytes.field-0 c.if-s-ne58.false (ap all_digits (sym p) ∙ m.0) l (λ z. omega (arith, e.1)),
      omega (arith, e.1),
      m.1 ∙ ap (λ x. sum (octets x) % 256) p,
      omega arith,
      n,
    )

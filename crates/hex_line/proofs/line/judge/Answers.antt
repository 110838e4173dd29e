-- `hex_line::line::judge` meets its contract: by the laws of Shape.
use Rattle.std.proofs.Common.{sym, ◌∙◌, arith}
use Rattle.hex_format.specs.Lines.{kind, address}
use Rattle.hex_line.proofs.Laws.Shape.{judge_shape, judge_sum, judge_kind}
use Rattle.hex_line.proofs.line.judge.Goals as goal

pub returns-in_default : goal.returns-in_default
returns-in_default c = judge_shape c.args.flash c.args.s.now c.in_default.ensures

pub returns-then-sum-ne0 : goal.returns-then-sum-ne0
returns-then-sum-ne0 c =
    let m = c.in-Some.ensures in
    rw m.0 (judge_sum c.args.flash c.args.s.now (λ z. omega (arith, m.0, m.1)) (λ z. c.if-sum-ne0.true (m.2 ∙ z)))

pub returns : goal.returns
unfolding kind address
returns c =
    let m = c.in-Some.ensures in
    rw (c.judge_kind-line.ensures, c.octet.ensures, m.4, c.word.ensures, m.0)
    (judge_kind c.args.flash c.args.s.now (λ z. omega (arith, m.0, m.1)) (sym m.2 ∙ c.if-sum-ne0.false))

-- `hex_line::line::weigh` meets its contract: by the laws of Weighing.
use Rattle.std.proofs.Common.{◌∙◌, arith}
use Rattle.hex_line.proofs.Laws.Weighing.{goes_on, is_done, stops, stops_low}
use Rattle.hex_line.proofs.line.weigh.Goals as goal

pub returns-in_err-high : goal.returns-in_err-high
returns-in_err-high c =
    let i = c.loop-pair.invariant in
    let p = c.in-Some.ensures.steps.1 in
    rw c.from_residual.ensures (stops _ _ _ _ i.1 c.in-Some.pair.now p.0 (p.1 ∙ i.0) c.in_err-high.ensures)

pub returns-in_err-low : goal.returns-in_err-low
returns-in_err-low c =
    let i = c.loop-pair.invariant in
    let p = c.in-Some.ensures.steps.1 in
    let d = c.in_ok-high.ensures in
    rw c.from_residual-in_err-low.ensures
    (stops_low _ _ _ _ i.1 c.in-Some.pair.now p.0 (p.1 ∙ i.0) (omega (arith, d.0, d.1)) c.in_err-low.ensures)

pub loop-pair-preserved : goal.loop-pair-preserved
loop-pair-preserved c =
    let i = c.loop-pair.invariant in
    let s = c.in-Some.ensures.steps in
    let d = c.in_ok-high.ensures in
    let e = c.in_ok-low.ensures in (
      s.0 ∙ i.0,
      rw (d.0, e.0)
          (goes_on _ _ _ _ i.1 c.in-Some.pair.now s.1.0 (s.1.1 ∙ i.0) (omega (arith, d.0, d.1)) (omega (arith, e.0, e.1))),
    )

pub returns : goal.returns
returns c =
    let i = c.loop-pair.invariant in
    is_done _ _ _ i.1 (omega (arith, c.in-None.ensures.steps.1.0, i.0))

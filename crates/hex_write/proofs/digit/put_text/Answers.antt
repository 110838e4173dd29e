-- `hex_write::digit::put_text` meets its contract.
use Rattle.std.proofs.Common.{◌≡◌, ◌+◌, ◌*◌, length, sym, ◌∙◌, arith, length-set}
use Rattle.hex_format.specs.Digits.{text}
use Rattle.hex_format.proofs.Laws.Stores.{store_more, store_all}
use Rattle.hex_write.proofs.Laws.Putting.{text_long, text_high, text_low}
use Rattle.hex_write.proofs.digit.put_text.Goals as goal

pub loop-i-preserved : goal.loop-i-preserved
loop-i-preserved c =
    let l = c.loop-i in
    let i = l.i in
    let s = c.args.s.now in
    let d = c.args.out.now in
    let m = text_long s in
    let e : 2 * (i + 1) ≡ 2 * i + 1 + 1 = omega arith in (
      rw (l.invariant.0, c.upper.ensures, c.upper-in-loop-i.ensures, ← text_high s i (omega arith), ← text_low s i (omega arith), store_more d (text s) (2 * i) (omega arith) (omega arith), e)
          (store_more d (text s) (2 * i + 1) (omega arith) (omega arith)),
      simp length-set l.invariant.1,
    )

pub returns : goal.returns
returns c =
    let l = c.loop-i in
    let s = c.args.s.now in
    let d = c.args.out.now in
    let e : 2 * l.i ≡ length d = omega arith in
    l.invariant.0 ∙ rw e (store_all d (text s) (text_long s ∙ sym c.requires))

-- `hex_read::fill::place` meets its contract: by the laws of Stores.
use mathlib.Core.Path.{◌≡◌, ◌∙◌}
use native.Mathlib.Omega.{arith}
use lib.ListN.{length, length-set}
use Rattle.hex_format.specs.Digits.{octets}
use Rattle.hex_format.proofs.Laws.Digits.{octets_length, octets_at}
use Rattle.hex_format.proofs.Laws.Stores.{store_more, store_all}
use Rattle.hex_read.proofs.fill.place.Goals as goal

pub loop-i-preserved : goal.loop-i-preserved
loop-i-preserved c =
    let l = c.loop-i in
    let s = c.args.s.now in
    let d = c.args.part.now in
    let n = octets_length s (length d) c.requires in (
      rw (l.invariant.0, c.octet.ensures, ← octets_at s l.i (omega arith)) (store_more d (octets s) l.i (omega arith) (rw n (omega arith))),
      simp length-set l.invariant.1,
    )

pub returns : goal.returns
returns c =
    let l = c.loop-i in
    let s = c.args.s.now in
    let d = c.args.part.now in
    let e : l.i ≡ length d = omega arith in
    l.invariant.0 ∙ rw e (store_all d (octets s) (octets_length s (length d) c.requires))

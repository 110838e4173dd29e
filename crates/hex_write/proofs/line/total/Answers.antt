-- `hex_write::line::total` meets its contract.
use Rattle.hex_format.specs.Lines.{sum}
use Rattle.std.specs.List.{fold}
use Rattle.hex_write.proofs.Laws.Putting.{fold_is}
use Rattle.std.proofs.Common.{◌≡◌, ◌+◌, ◌%◌, ap, ◌∙◌, arith, rules}
use Rattle.hex_write.proofs.line.total.Goals as goal

pub returns : goal.returns
returns c =
    let s = c.args.s.now in
    let e : c.fold.result ≡ fold (λ x b. (x + b) % 256) 0 s = search rules in
    let r : c.fold.result % 256 ≡ (0 + sum s) % 256 = ap (λ x. x % 256) e ∙ fold_is s 0 in
    omega (arith, r)

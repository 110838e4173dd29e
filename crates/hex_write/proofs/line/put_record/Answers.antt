-- `hex_write::line::put_record` meets its contract.
use Rattle.hex_format.specs.Writing.{checksum}
use Rattle.std.proofs.Common.{[], ◌∷◌, ◌++◌, get_or, take, set, ap, ◌∙◌, arith, take_at}
use lib.Seq.{set_at}
use Rattle.hex_write.proofs.Laws.Putting.{middle}
use Rattle.hex_write.proofs.line.put_record.Goals as goal

pub slice_bounds-check-end : goal.slice_bounds-check-end
slice_bounds-check-end c = rw (middle c.args.out.now c.args.s.now _ c.args.high c.args.low c.requires c.told-out c.copy_from_slice.ensures.after, take_at c.args.s.now _ 16 c.requires) (omega arith)

pub returns : goal.returns
returns c =
    let a = c.args in
    let s = a.s.now in
    let x = get_or a.out.now 20 0 in
    let e = middle c.args.out.now c.args.s.now _ c.args.high c.args.low c.requires c.told-out c.copy_from_slice.ensures.after in
    let k = c.check-k.ensures ∙ ap (λ l. checksum (take 20 l)) e ∙ ap (λ l. checksum (16 ∷ a.high ∷ a.low ∷ 0 ∷ l)) (take_at s (x ∷ []) 16 c.requires) in
    ap (λ l. set l 20 c.check-k.result) e ∙ ap (λ l. 16 ∷ a.high ∷ a.low ∷ 0 ∷ l) (set_at s x [] c.check-k.result 16 c.requires) ∙ ap (λ y. 16 ∷ a.high ∷ a.low ∷ 0 ∷ (s ++ (y ∷ []))) k

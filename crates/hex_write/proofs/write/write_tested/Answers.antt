-- `hex_write::write::write_tested` meets its contract.
use Rattle.std.proofs.Common.{◌*◌, ◌/◌, length, sym, ◌∙◌, arith, ne_eqb}
use Rattle.numbers.specs.Numbers.{refusal_number}
use Rattle.numbers.proofs.Refused.{refused}
use Rattle.hex_format.specs.Writing.{hex_file, hex_write, file_in_buffer}
use Rattle.hex_write.proofs.Laws.Putting.{file_long, writing_err}
use Rattle.hex_write.proofs.write.write_tested.Goals as goal

pub returns-in_err-refusal : goal.returns-in_err-refusal
unfolding file_in_buffer hex_write
returns-in_err-refusal c =
    let e = c.in_err-refusal.field-0.0 in
    let z = refused e in
    writing_err _ e c.args.file.now c.from_residual.ensures.1
    ∙ rw (← c.in_err-refusal.ensures.number, ne_eqb (refusal_number e) 0 (λ q. omega arith))

pub returns : goal.returns
unfolding file_in_buffer hex_write hex_file
returns c =
    let a = c.args in
    let n = length a.image.now in
    let e = sym c.in_ok-refusal.ensures.number in
    let l = file_long (n / 16) (a.first * a.s.size) a.image.now (omega arith) in
    rw (e, l, c.put_file.ensures)

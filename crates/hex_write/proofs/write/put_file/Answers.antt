-- `hex_write::write::put_file` meets its contract.
use Rattle.hex_format.specs.Writing.{last_line}
use Rattle.std.proofs.Common.{◌≡◌, ◌-◌, ◌*◌, ◌++◌, length, drop, ◌∙◌, arith, length-append}
use Rattle.hex_write.specs.Code.Firsts.{firsts}
use Rattle.hex_write.proofs.Laws.Putting.{firsts_long, put_last, file_is, last_is}
use Rattle.hex_write.proofs.write.put_file.Goals as goal

pub returns : goal.returns
returns c =
    let x = c.args in
    let p = firsts x.n x.a x.image.now in
    let d = drop (44 * x.n) x.out.now in
    let h : length p ≡ 44 * x.n = firsts_long x.n x.a x.image.now (omega (arith, c.requires.0)) in
    let g : length (p ++ d) - 44 * x.n ≡ length d = rw (length-append p d, h) (omega arith) in
    rw (c.put_lines.ensures, c.copy_from_slice.ensures.after ∙ last_is, g) (put_last p d last_line (44 * x.n) (length d) h (omega arith) ∙ file_is x.n x.a x.image.now)

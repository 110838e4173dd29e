-- `hex_write::write::put_lines` meets its contract.
use Rattle.hex_format.specs.Writing.{line_of}
use Rattle.std.proofs.Common.{◌≡◌, ◌+◌, ◌-◌, ◌*◌, ◌/◌, ◌%◌, ◌∷◌, length, take, drop, refl, ap, ◌∙◌, arith, length-append, length-drop, length-take-le}
use borrow.Rule.Slice.PartMut.{put_mid}
use Rattle.hex_write.proofs.Laws.Putting.{firsts_long, put_more, line_is}
use Rattle.hex_write.specs.Code.Firsts.{firsts}
use Rattle.hex_write.proofs.write.put_lines.Goals as goal

pub loop-r-init : goal.loop-r-init
unfolding firsts
loop-r-init c = (refl, refl)

pub put_line-requires : goal.put_line-requires
put_line-requires c =
    let l = c.loop-r in
    let im = c.args.image.now in
    let e : 16 * l.r + 16 - 16 * l.r ≡ 16 = omega arith in
    let f : 44 * l.r + 44 - 44 * l.r ≡ 44 = omega arith in
    (rw e (length-take-le 16 (drop (16 * l.r) im) (rw (length-drop (16 * l.r) im) (omega arith))), rw f (length-take-le 44 (drop (44 * l.r) l.out) (rw (length-drop (44 * l.r) l.out) (omega arith))))

pub loop-r-preserved : goal.loop-r-preserved
loop-r-preserved c =
    let l = c.loop-r in
    let r = l.r in
    let a = c.args.a in
    let im = c.args.image.now in
    let d = c.args.out.now in
    let x = a + 16 * r in
    let bs = take 16 (drop (16 * r) im) in
    let e : 16 * r + 16 - 16 * r ≡ 16 = omega arith in
    let f : 44 * r + 44 - 44 * r ≡ 44 = omega arith in
    let n : length bs ≡ 16 = length-take-le 16 (drop (16 * r) im) (rw (length-drop (16 * r) im) (omega arith)) in
    let w = c.put_line.ensures ∙ ap (λ k. line_of (16 ∷ x / 256 ∷ x % 256 ∷ 0 ∷ take k (drop (16 * r) im))) e ∙ line_is x bs n in
    let m = ap (λ k. put_mid (44 * r) k l.out c.put_line.new.out) f ∙ ap (λ o. put_mid (44 * r) 44 o c.put_line.new.out) l.invariant.0 ∙ put_more r a im d c.put_line.new.out (omega arith) w in
    (m, ap length m ∙ rw (length-append, firsts_long (r + 1) a im (omega arith), length-drop) (omega arith))

pub returns : goal.returns
returns c =
    let l = c.loop-r in
    let e : l.r ≡ c.args.n = omega arith in
    l.invariant.0 ∙ rw e

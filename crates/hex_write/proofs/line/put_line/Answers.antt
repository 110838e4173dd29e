-- `hex_write::line::put_line` meets its contract.
use Rattle.std.proofs.Common.{◌≡◌, ◌*◌, [], ◌∷◌, ◌++◌, length, set, ap, ◌∙◌, arith, length-append, length-set}
use borrow.Rule.Slice.PartMut.{put_mid}
use Rattle.hex_format.specs.Digits.{text}
use Rattle.hex_format.specs.Writing.{checksum, line_of}
use Rattle.hex_write.proofs.Laws.Putting.{line_put, line_room, text_long}
use Rattle.hex_write.proofs.line.put_line.Goals as goal

pub slice_bounds-put_text-end : goal.slice_bounds-put_text-end
slice_bounds-put_text-end c = simp length-set (omega arith)

pub bounds-out-43 : goal.bounds-out-43
bounds-out-43 c =
    let a = c.args in
    let r = (16 ∷ a.high ∷ a.low ∷ 0 ∷ a.s.now) ++ (checksum (16 ∷ a.high ∷ a.low ∷ 0 ∷ a.s.now) ∷ []) in
    let t = c.put_text.ensures ∙ ap text c.put_record.ensures in
    let n : length r ≡ 21 = rw length-append (omega (arith, c.requires.0)) in
    let m : length (text r) ≡ 42 = text_long r ∙ ap (λ x. 2 * x) n in
    rw (t) (line_room a.out.now (text r) c.requires.1 m)

pub shape_of-out : goal.shape_of-out
shape_of-out c =
    let a = c.args in
    let r = (16 ∷ a.high ∷ a.low ∷ 0 ∷ a.s.now) ++ (checksum (16 ∷ a.high ∷ a.low ∷ 0 ∷ a.s.now) ∷ []) in
    let t = c.put_text.ensures ∙ ap text c.put_record.ensures in
    let n : length r ≡ 21 = rw length-append (omega (arith, c.requires.0)) in
    let m : length (text r) ≡ 42 = text_long r ∙ ap (λ x. 2 * x) n in
    ap (λ y. length (set (put_mid 1 42 (set a.out.now 0 58) y) 43 10)) t ∙ ap length (line_put a.out.now (text r) c.requires.1 m) ∙ rw length-append (omega (arith, m, c.requires.1))

pub returns : goal.returns
unfolding line_of
returns c =
    let a = c.args in
    let r = (16 ∷ a.high ∷ a.low ∷ 0 ∷ a.s.now) ++ (checksum (16 ∷ a.high ∷ a.low ∷ 0 ∷ a.s.now) ∷ []) in
    let t = c.put_text.ensures ∙ ap text c.put_record.ensures in
    let n : length r ≡ 21 = rw length-append (omega (arith, c.requires.0)) in
    let m : length (text r) ≡ 42 = text_long r ∙ ap (λ x. 2 * x) n in
    ap (λ y. set (put_mid 1 42 (set a.out.now 0 58) y) 43 10) t ∙ line_put a.out.now (text r) c.requires.1 m

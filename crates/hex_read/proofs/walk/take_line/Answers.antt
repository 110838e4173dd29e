-- `hex_read::walk::take_line` meets its contract: by the laws of Judging.
use mathlib.Core.Path.{sym, ap, ◌∙◌}
use Rattle.std.specs.Prelude.{Ok}
use Rattle.numbers.specs.Numbers.{refusal_number}
use Rattle.hex_format.specs.declared.Record.{Record}
use Rattle.hex_format.specs.declared.Record.TheVariants.{Data}
use Rattle.hex_read.proofs.Laws.Judging.{late_true, late_false, takes_err, bad_takes, none_takes, last_takes, data_runs, data_clashes}
use Rattle.hex_read.proofs.walk.take_line.Goals as goal
use Rattle.hex_read.proofs.walk.take_line.Goals.{in-Data+in_ok-mark-in-Data, in-Data-2, in-Last}

pub returns-in_err-a : goal.returns-in_err-a
returns-in_err-a c =
    let a = c.args in
    let f = c.from_residual.ensures in
    let e = c.in_err-a.field-0.0 in
    λ cells l q m. takes_err _ _ e _ f.1 (bad_takes a.map.now e a.before cells l (sym c.in_err-a.was ∙ q) m)

pub returns-in_err-mark-in-Data : goal.returns-in_err-mark-in-Data
returns-in_err-mark-in-Data c =
    let a = c.args in
    let f = c.from_residual-in_err-mark-in-Data.ensures in
    let k = c.in_err-mark-in-Data.ensures in
    let g = c.in_ok-a.was ∙ ap (λ (x : Record). Ok x) c.in-Data.is in
    λ cells l q m. takes_err _ _ c.in_err-mark-in-Data.field-0.0 _ f.1
    (ap refusal_number k.0 ∙ data_clashes a.map.now c.mark.new.map c.in-Data.a c.in-Data.n a.before c.if-n-ne0.true k.1 cells l (sym g ∙ q) m)

pub returns-then-before : goal.returns-then-before
returns-then-before c =
    let a = c.args in
    let t = c.if-before.true in
    let g = c.in_ok-a.was in
    elim c.match-branch-2.branch [
      | in-Data+in_ok-mark-in-Data w ↦ λ cells l q m.
          late_true _ _ _ _ t
          (data_runs a.map.now w.mark.new.map w.in-Data.a w.in-Data.n a.before w.if-n-ne0.true w.in_ok-mark-in-Data.ensures cells l
          (sym (g ∙ ap (λ (x : Record). Ok x) w.in-Data.is) ∙ q) m)
      | in-Data-2 w ↦ λ cells l q m.
          late_true _ _ _ _ t
          (none_takes a.map.now w.in-Data.a a.before cells l
          (sym (g ∙ ap (λ (x : Record). Ok x) (w.in-Data.is ∙ ap (λ n. Data w.in-Data.a n) w.if-n-ne0.false)) ∙ q) m)
      | in-Last w ↦ λ cells l q m.
          late_true _ _ _ _ t (last_takes a.map.now a.before cells l (sym (g ∙ ap (λ (x : Record). Ok x) w.in-Last.is) ∙ q) m)
    ]

pub returns : goal.returns
returns c =
    let a = c.args in
    let t = c.if-before.false in
    let g = c.in_ok-a.was in
    elim c.match-branch-2.branch [
      | in-Data+in_ok-mark-in-Data w ↦ λ cells l q m.
          rw (w.map-is, w.after-is, w.with_run-after.ensures)
          (late_false _ _ _ _ t
          (data_runs a.map.now w.mark.new.map w.in-Data.a w.in-Data.n a.before w.if-n-ne0.true w.in_ok-mark-in-Data.ensures cells l
          (sym (g ∙ ap (λ (x : Record). Ok x) w.in-Data.is) ∙ q) m))
      | in-Data-2 w ↦ λ cells l q m.
          rw (w.map-is, w.after-is)
          (late_false _ _ _ _ t
          (none_takes a.map.now w.in-Data.a a.before cells l
          (sym (g ∙ ap (λ (x : Record). Ok x) (w.in-Data.is ∙ ap (λ n. Data w.in-Data.a n) w.if-n-ne0.false)) ∙ q) m))
      | in-Last w ↦ λ cells l q m.
          rw (w.map-is, w.after-is)
          (late_false _ _ _ _ t (last_takes a.map.now a.before cells l (sym (g ∙ ap (λ (x : Record). Ok x) w.in-Last.is) ∙ q) m))
    ]

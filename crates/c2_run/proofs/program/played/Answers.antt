-- `c2_run::program::played` meets its contract: each return by the laws of Closed.
use native.Mathlib.Omega.{arith}
use Rattle.std.proofs.lemmas.Result.{err_from_is_err_and}
use Rattle.laws.proofs.Bytes.{bytes_all}
use Rattle.c2_run.proofs.Laws.Closed.{opening_refused, plays}
use Rattle.c2_run.proofs.program.played.Goals as goal

pub returns-in_err-opening_refusal : goal.returns-in_err-opening_refusal
returns-in_err-opening_refusal c =
    let a = c.args in
    let e = err_from_is_err_and c.from_residual.result c.from_residual.ensures.1 in
    let left = opening_refused a.t a.first a.image.now a.flash.now a.delays.now a.budget _ c.in_err-opening_refusal.ensures in
    record { value = rw (e.1, e.2) left.0; flash_after = left.1 }

pub returns : goal.returns
returns c =
    let a = c.args in
    let bytes = bytes_all a.image.now (λ i. (c.type_inv.image i).fits) in
    let play = c.play.ensures in
    let left = plays a.t a.first a.image.now a.flash.now a.delays.now a.budget c.in_ok-opening_refusal.ensures _ c.start-start.ensures (omega arith) bytes
    c.play.result play.number_value play.point_value play.replies_value play.collision_value _ play.flash_after in
    record { value = left.0; flash_after = left.1 }

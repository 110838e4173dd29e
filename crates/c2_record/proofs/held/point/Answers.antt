-- `c2_record::held::point` meets its contract: by the laws of Record and Said.
use mathlib.Core.Path.{sym, ap, ◌∙◌}
use Rattle.c2_record.specs.Record.{reached_in}
use Rattle.c2_record.proofs.Laws.Record.{not_32_bytes}
use Rattle.c2_record.proofs.Laws.Said.{said_reached}
use Rattle.c2_record.proofs.held.point.Goals as goal

pub returns-in_err-r : goal.returns-in_err-r
returns-in_err-r c = c.from_residual.ensures ∙ ap reached_in (not_32_bytes _ c.in_err-r.ensures.cases)

pub returns-then-holds : goal.returns-then-holds
returns-then-holds c = rw (c.read_point.ensures, ← c.in_ok-r.ensures.cases.same) (said_reached _ (sym c.holds.ensures ∙ c.if-holds.true))

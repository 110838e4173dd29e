-- `hex_write::write::refusal` meets its contract: by the laws of an opening.
use Rattle.std.proofs.Common.{sym, arith, le-leb, rules}
use borrow.Author.Tests.{lt-leb}
use Rattle.numbers.proofs.Refused.{refused_first}
use Rattle.settings.proofs.Laws.Opening.{opened}
use Rattle.hex_format.specs.Writing.{write_refusal, file_bytes}
use Rattle.hex_format.proofs.Laws.ReadBack.{opened_records, opened_within}
use Rattle.hex_write.proofs.write.refusal.Goals as goal

pub returns-in_err-opening_refusal-clause-number : goal.returns-in_err-opening_refusal-clause-number
unfolding write_refusal
returns-in_err-opening_refusal-clause-number c = search (rules, refused_first)

pub overflow_mul-bytes : goal.overflow_mul-bytes
overflow_mul-bytes c =
    let a = c.args in
    omega (arith, opened_within a.s a.first a.bytes (opened a.s a.first a.bytes (sym c.in_ok-opening_refusal.ensures)))

pub overflow_add-bytes : goal.overflow_add-bytes
overflow_add-bytes c =
    let a = c.args in
    omega (arith, opened_within a.s a.first a.bytes (opened a.s a.first a.bytes (sym c.in_ok-opening_refusal.ensures)))

pub returns-then-room-bytes-clause-number : goal.returns-then-room-bytes-clause-number
unfolding write_refusal
returns-then-room-bytes-clause-number c =
    rw (sym c.in_ok-opening_refusal.ensures, lt-leb (file_bytes c.args.bytes) c.args.room (omega arith))

pub returns-clause-number : goal.returns-clause-number
unfolding write_refusal
returns-clause-number c =
    rw (sym c.in_ok-opening_refusal.ensures, le-leb (file_bytes c.args.bytes) c.args.room (omega arith))

pub returns-clause-fits : goal.returns-clause-fits
returns-clause-fits c =
    let a = c.args in
    let o = opened a.s a.first a.bytes (sym c.in_ok-opening_refusal.ensures) in
    (opened_records a.s a.first a.bytes o, opened_within a.s a.first a.bytes o, omega arith)

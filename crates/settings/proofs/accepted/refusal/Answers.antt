-- `settings::accepted::refusal` meets its contract: by the laws of Accepted.
use mathlib.Core.Path.{refl}
use borrow.Author.Tests.{le-leb, lt-leb, ne_eqb}
use native.Mathlib.Omega.{arith}
use Rattle.settings.specs.Accepted.{is_fpdat, is_page_size, is_page_count, settings_refusal}
use Rattle.settings.proofs.Laws.Accepted.{count_by_most}
use Rattle.settings.proofs.accepted.refusal.Goals as goal

pub returns-then-s-lt3 : goal.returns-then-s-lt3
unfolding settings_refusal is_fpdat is_page_size is_page_count
returns-then-s-lt3 c = rw (lt-leb 3 c.args.s.fpdat c.if-s-lt3.true)

pub returns-in-512 : goal.returns-in-512
unfolding settings_refusal is_fpdat is_page_size is_page_count
returns-in-512 c =
    let a = c.args.s in
    rw (c.count_refusal.ensures, le-leb 3 a.fpdat c.if-s-lt3.false, c.in-512.is, count_by_most 512 128 a.count refl refl (omega arith))

pub returns-in-1024 : goal.returns-in-1024
unfolding settings_refusal is_fpdat is_page_size is_page_count
returns-in-1024 c =
    let a = c.args.s in
    rw (c.count_refusal-in-1024.ensures, le-leb 3 a.fpdat c.if-s-lt3.false, c.in-1024.is, count_by_most 1024 64 a.count refl refl (omega arith))

pub returns-in_default : goal.returns-in_default
unfolding settings_refusal is_fpdat is_page_size is_page_count
returns-in_default c =
    let a = c.args.s in
    rw (le-leb 3 a.fpdat c.if-s-lt3.false, ne_eqb a.size 512 (λ q. omega arith), ne_eqb a.size 1024 (λ q. omega arith))

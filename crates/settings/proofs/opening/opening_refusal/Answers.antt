-- `settings::opening::opening_refusal` meets its contract: by the laws of Accepted.
use mathlib.Core.Path.{sym}
use native.Mathlib.Omega.{arith}
use borrow.Author.Rules.{rules}
use Rattle.numbers.proofs.Refused.{refused_first, accepted_first}
use Rattle.settings.proofs.Laws.Accepted.{facts}
use Rattle.settings.specs.Opening.{opening_refusal}
use Rattle.settings.proofs.opening.opening_refusal.Goals as goal

pub returns-in_err-refusal : goal.returns-in_err-refusal
unfolding opening_refusal
returns-in_err-refusal c = search (rules, refused_first)

pub image_refusal-requires : goal.image_refusal-requires
image_refusal-requires c =
    let f = facts c.args.t (sym c.in_ok-refusal.ensures) in
    omega (arith, f.size, f.some)

pub returns : goal.returns
unfolding opening_refusal
returns c = search (rules, accepted_first)

-- `hex_read::read::read_tested` meets its contract: by what the settings give.
use mathlib.Core.Path.{sym, ◌∙◌}
use native.Mathlib.Omega.{arith}
use borrow.Author.Tests.{ne_eqb}
use Rattle.numbers.specs.Numbers.{refusal_number}
use Rattle.numbers.proofs.Refused.{refused}
use Rattle.settings.proofs.Laws.Accepted.{facts}
use Rattle.hex_format.specs.Reading.{hex_read, image_in_buffer}
use Rattle.hex_read.specs.Code.Read.{no_line}
use Rattle.hex_read.proofs.Laws.Answering.{reading_err}
use Rattle.hex_read.proofs.read.read_tested.Goals as goal

pub returns-in_err-refusal : goal.returns-in_err-refusal
unfolding hex_read image_in_buffer
returns-in_err-refusal c =
    let e = c.in_err-refusal.field-0.0 in
    let z = refused e in
    reading_err _ (no_line e) c.args.image.now c.from_residual.ensures.1
    ∙ rw (← c.in_err-refusal.ensures, ne_eqb (refusal_number e) 0 (λ q. omega arith))

pub read_map-requires : goal.read_map-requires
read_map-requires c =
    let f = facts c.args.s (sym c.in_ok-refusal.ensures) in
    (omega (arith, f.size, f.some), f.bytes)

pub returns : goal.returns
unfolding hex_read
returns c = rw (sym c.in_ok-refusal.ensures) c.read_map.ensures

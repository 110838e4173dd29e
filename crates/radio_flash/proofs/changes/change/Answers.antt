-- `radio_flash::changes::change` meets its contract: the bytes of the area are filled.
use Rattle.std.proofs.Common.{◌≡◌, arith, length, length-take, take, ℕ}
use Rattle.radio_flash.specs.Code.Changes.{change_made}
use Rattle.radio_flash.specs.Flash.{mass_erased}
use Rattle.radio_flash.proofs.changes.change.Goals as goal

pub slice_bounds-fill-end-in-Area : goal.slice_bounds-fill-end-in-Area
slice_bounds-fill-end-in-Area c = omega (arith, length-take {A = ℕ})

pub returns-in-Area : goal.returns-in-Area
unfolding change_made mass_erased
returns-in-Area c =
    let l : length (take 32768 c.args.flash.now) ≡ 32768 = omega (arith, length-take {A = ℕ}) in
    rw (c.in-Area.is, c.if-flash-ne-FLASH_BYTES.false, c.fill.ensures.after (λ y e. e), l)

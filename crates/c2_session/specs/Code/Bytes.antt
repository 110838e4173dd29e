-- For the code: the byte that an act sends or compares, by arithmetic. `stands` of proofs/Laws/Position in
-- c2_position is the law that for an image of the session's length these are the bytes of the order.
use Rattle.std.specs.Prelude.{cond, List, ℕ, ◌+◌, ◌-◌, ◌*◌, ◌/◌, ◌%◌, eqb, ltb, get_or}
use Rattle.settings.specs.declared.Settings.{Settings}
use Rattle.settings.specs.Registers.{pair_at}
use Rattle.c2_acts.specs.declared.Stage.{Stage}
use Rattle.c2_acts.specs.declared.Stage.TheVariants.{Lead, Erase, Write, Read, Close, Register}
use Rattle.c2_session.specs.declared.At.{At}
use Rattle.c2_session.specs.declared.Session.{Session}

-- the image offset of the block at a point; the page is kept to 16 bits, which a session in range never passes
abbrev pub block_offset : Settings → At → ℕ
block_offset t at = at.page % 65536 * t.size + at.block * 256

-- the number in the flash of a page of the image
abbrev pub page_number : Session → (page : ℕ) → ℕ
page_number s i = s.first + i

-- the high byte of a block's address in the flash; the low byte is 0
abbrev pub high_byte : Session → At → ℕ
high_byte s at = (page_number s (at.page % 65536) * s.settings.size + at.block * 256) / 256 % 256

-- the byte that an act of the lead sends: 0x02 as the address, then the keys 0x02, 0x04, 0x01
unfoldable pub lead_byte : ℕ → ℕ
lead_byte act = cond (eqb act 3) 2 (cond (eqb act 4) 2 (cond (eqb act 5) 4 1))

-- the byte that an act of an erase sends
unfoldable pub erase_byte : Session → At → ℕ
erase_byte s at =
    cond (eqb at.act 0) s.settings.fpdat
    (cond (eqb at.act 1) 8 (cond (eqb at.act 5) (page_number s (at.page % 65536) % 256) 0))

-- the byte that an act of a block's command sends, before the bytes of the image
unfoldable pub block_byte : Session → At → (command : ℕ) → ℕ
block_byte s at command =
    cond (eqb at.act 0) s.settings.fpdat
    (cond (eqb at.act 1) command (cond (eqb at.act 5) (high_byte s at) 0))

-- a byte of the image; one that a shorter image lacks reads as 0
abbrev pub image_byte : List ℕ → ℕ → ℕ
image_byte image i = get_or image i 0

-- the image offset of the byte that an act sends (`sent_offset`, in a block write) or compares
-- (`compared_offset`, in a block read)
unfoldable pub sent_offset : Session → At → ℕ
sent_offset s at = block_offset s.settings at + (at.act - 11) / 2

unfoldable pub compared_offset : Session → At → ℕ
compared_offset s at = block_offset s.settings at + (at.act - 14) / 2

-- the byte that an act of a block write sends
unfoldable pub write_byte : Session → At → List ℕ → ℕ
write_byte s at image = cond (ltb at.act 11) (block_byte s at 7) (image_byte image (sent_offset s at))

-- The byte that an act of a pair sends: its register as the address, then its value. Its number, which stands where
-- others have a page, is kept below 4, which a session in range never passes.
unfoldable pub register_byte : Session → At → ℕ
register_byte s at =
    cond (eqb at.act 0) (pair_at s.settings.pairs (at.page % 4)).register (pair_at s.settings.pairs (at.page % 4)).value

-- the byte that an act of any stage sends
abbrev pub stage_byte : Stage → Session → At → List ℕ → ℕ
stage_byte Lead s at image = lead_byte at.act
stage_byte Erase s at image = erase_byte s at
stage_byte Write s at image = write_byte s at image
stage_byte Read s at image = block_byte s at 6
stage_byte Close s at image = 0
stage_byte Register s at image = register_byte s at

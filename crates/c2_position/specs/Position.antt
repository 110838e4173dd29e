-- The point of the order that a session's numbers name: the acts of the order from an act of a stage on, and
-- the place in the first of them. Document 01 says "the point reached exists in the session's order".
use Rattle.std.specs.Prelude.{List, [], ◌∷◌, ◌++◌, map, ℕ, suc, get_or, drop}
use Rattle.numbers.specs.Numbers.{done}
use Rattle.c2_wire.specs.Exchange.{outcome}
use Rattle.c2_wire.specs.Place.{place}
use Rattle.c2_wire.specs.declared.Place.{Place}
use Rattle.c2_order.specs.Acts.{Act, reset_pulse, Block, erase, block_write, block_read}
use Rattle.settings.specs.Registers.{pair_at, pairs_of}
use Rattle.c2_order.specs.Order.{Page, pages, rising, joined, page_blocks, lead, pair_acts, page_acts}
use Rattle.c2_acts.specs.declared.Stage.{Stage}
use Rattle.c2_acts.specs.declared.Stage.TheVariants.{Lead, Erase, Write, Read, Close, Register}
use Rattle.c2_session.specs.declared.Session.{Session}
use Rattle.c2_session.specs.declared.Point.TheVariants.{Running, Ended}
use Rattle.c2_order.specs.Point

-- the pages that a session names, each with its part of the image
unfoldable pub page_list : Session → (image : List ℕ) → List Page
page_list s image = pages s.settings.size 0 (rising s.first s.pages) image

-- page i of the image, counted from 0
abbrev pub page_at : Session → (image : List ℕ) → (page : ℕ) → Page
page_at s image i = get_or (page_list s image) i (record { number = 0; offset = 0; bytes = [] })

-- the blocks of page i
abbrev pub blocks_at : Session → (image : List ℕ) → (page : ℕ) → List Block
blocks_at s image i = page_blocks s.settings (page_at s image i)

-- block j of page i
abbrev pub block_at : Session → (image : List ℕ) → (page block : ℕ) → Block
block_at s image i j = get_or (blocks_at s image i) j (record { address = 0; offset = 0; bytes = [] })

-- the acts of a stage, at a page, or a pair, and a block of it
abbrev pub stage_acts : Stage → Session → (image : List ℕ) → (page block : ℕ) → List Act
stage_acts Lead s image i j = lead s.settings
stage_acts Erase s image i j = erase s.settings.fpdat (page_at s image i).number
stage_acts Write s image i j = block_write s.settings.fpdat (block_at s image i j)
stage_acts Read s image i j = block_read s.settings.fpdat (block_at s image i j)
stage_acts Close s image i j = reset_pulse ∷ []
stage_acts Register s image i j = pair_acts (pair_at s.settings.pairs i)

-- the acts of the order from a page on (`pages_from`), and those of a page from a block on, to be written
-- (`writes_from`) or read back (`reads_from`)
unfoldable pub pages_from : Session → (image : List ℕ) → (page : ℕ) → List Act
pages_from s image i = joined (map (page_acts s.settings) (drop i (page_list s image))) ++ reset_pulse ∷ []

unfoldable pub writes_from : Session → (image : List ℕ) → (page block : ℕ) → List Act
writes_from s image i j = joined (map (block_write s.settings.fpdat) (drop j (blocks_at s image i)))

unfoldable pub reads_from : Session → (image : List ℕ) → (page block : ℕ) → List Act
reads_from s image i j = joined (map (block_read s.settings.fpdat) (drop j (blocks_at s image i)))

-- the acts of the order from a pair on
unfoldable pub registers_from : Session → (image : List ℕ) → (pair : ℕ) → List Act
registers_from s image i = joined (map pair_acts (drop i (pairs_of s.settings.pairs))) ++ pages_from s image 0

-- the acts after a stage
abbrev pub after_stage : Stage → Session → (image : List ℕ) → (page block : ℕ) → List Act
after_stage Lead s image i j = registers_from s image 0
after_stage Erase s image i j = writes_from s image i 0 ++ (reads_from s image i 0 ++ pages_from s image (suc i))
after_stage Write s image i j = writes_from s image i (suc j) ++ (reads_from s image i 0 ++ pages_from s image (suc i))
after_stage Read s image i j = reads_from s image i (suc j) ++ pages_from s image (suc i)
after_stage Close s image i j = []
after_stage Register s image i j = registers_from s image (suc i)

-- the acts of the order from an act of a stage on
abbrev pub acts_from : Stage → Session → (image : List ℕ) → (page block act : ℕ) → List Act
acts_from g s image i j k = drop k (stage_acts g s image i j) ++ after_stage g s image i j

-- the point at a place in the first of these acts; with no act left the session is done
abbrev pub at_act : List Act → Place → Point.Point
at_act [] p = Point.ended (outcome done)
at_act (a ∷ acts) p = Point.running a acts p

-- the point of the order that a point of the session names
unfoldable pub point_position : Session → (image : List ℕ) → Rattle.c2_session.specs.declared.Point.Point → Point.Point
point_position s image (Running g i j k q c v) = at_act (acts_from g s image i j k) (place q c v)
point_position s image (Ended n o) = Point.ended (record { number = n; offset = o })

-- the point of the order that a session has reached
abbrev pub position : Session → (image : List ℕ) → Point.Point
position s image = point_position s image s.point

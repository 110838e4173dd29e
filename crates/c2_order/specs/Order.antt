-- The order of a session (document 01, "A session is, in order"): a list of acts over settings, page numbers
-- and the image.
use Rattle.std.specs.Prelude.{List, [], ◌∷◌, ◌++◌, map, ℕ, zero, suc, ◌+◌, ◌*◌, ◌/◌, length, take, drop}
use Rattle.numbers.specs.Numbers.{other_device}
use Rattle.c2_wire.specs.Exchange.{outcome}
use Rattle.settings.specs.declared.Settings.{Settings}
use Rattle.settings.specs.Registers.{Pair, pairs_of}
use Rattle.c2_order.specs.Acts.{Act, expect, reset_pulse, pause_20_ms, address_write, data_write, Block, erase, block_write, block_read}

-- a page of the flash that is named, with the part of the image for it and that part's offset
pub record Page : Type 0 where
  pub number : ℕ
  pub offset : ℕ
  pub bytes : List ℕ

-- the image, page by page, over a list of page numbers
unfoldable pub pages : (size offset : ℕ) → (numbers image : List ℕ) → List Page
pages size o [] image = []
pages size o (n ∷ ns) image = record { number = n; offset = o; bytes = take size image } ∷ pages size (o + size) ns (drop size image)

-- pages in rising order from a first one on
unfoldable pub rising : (first count : ℕ) → List ℕ
rising first zero = []
rising first (suc n) = first ∷ rising (suc first) n

-- blocks of 256 bytes in rising order, so many of them
unfoldable pub blocks : (count address offset : ℕ) → List ℕ → List Block
blocks zero a o bs = []
blocks (suc n) a o bs = record { address = a; offset = o; bytes = take 256 bs } ∷ blocks n (a + 256) (o + 256) (drop 256 bs)

unfoldable pub joined : List (List Act) → List Act
joined [] = []
joined (acts ∷ rest) = acts ++ joined rest

abbrev pub page_blocks : Settings → Page → List Block
page_blocks s p = blocks (s.size / 256) (p.number * s.size) p.offset p.bytes

-- the lead, 1 and 2 of document 01's list: the device ID, then the keys at 0x02 with no polling
unfoldable pub lead : Settings → List Act
lead s =
    reset_pulse ∷ expect s.id (outcome other_device) ∷ reset_pulse ∷
    address_write 0x02 ∷ data_write 0x02 ∷ data_write 0x04 ∷ data_write 0x01 ∷ pause_20_ms ∷ []

-- the acts of a pair of register and value (document 02, e): no polling
unfoldable pub pair_acts : Pair → List Act
pair_acts p = address_write p.register ∷ data_write p.value ∷ []

-- what prepares a device: the lead, then the pairs in their order
unfoldable pub preparation : Settings → List Act
preparation s = lead s ++ joined (map pair_acts (pairs_of s.pairs))

-- the acts of a page, 3 of document 01's list: erase it, write its blocks, read them back and compare
unfoldable pub page_acts : Settings → Page → List Act
page_acts s p =
    erase s.fpdat p.number
    ++ joined (map (block_write s.fpdat) (page_blocks s p))
    ++ joined (map (block_read s.fpdat) (page_blocks s p))

-- the whole order over a list of pages: the preparation, each page, and 4 of document 01's list, the reset that
-- ends it
unfoldable pub order : Settings → List Page → List Act
order s ps = preparation s ++ joined (map (page_acts s) ps) ++ reset_pulse ∷ []

-- the order of a session over an image of whole pages from a first page on
unfoldable pub session_order : Settings → (first : ℕ) → (image : List ℕ) → List Act
session_order s first image = order s (pages s.size 0 (rising first (length image / s.size)) image)

-- Which values are a session within its ranges (document 01, "What the driver keeps over sleep").
use Rattle.std.specs.Prelude.{Bool, false, cond, ◌&&◌, ◌||◌, List, [], ◌∷◌, ℕ, ◌*◌, ◌/◌, ◌^◌, eqb, ltb, leb, length, take, drop, replicate}
use Rattle.numbers.specs.Numbers.{done, bad_reply, compare_differs}
use Rattle.c2_wire.specs.Frames.{Strobe}
use Rattle.c2_wire.specs.Place.{strobe_at, samples, count_limit}
use Rattle.settings.specs.declared.Settings.{Settings}
use Rattle.settings.specs.Opening.{opening_refusal}
use Rattle.settings.specs.Registers.{no_pairs, is_tidy}
use Rattle.c2_order.specs.Acts.{Act, reset_pulse, Block, erase, block_write, block_read}
use Rattle.c2_order.specs.Order.{lead, pair_acts}
use Rattle.c2_order.specs.Conversation.{Limits, limits, limits_of}
use Rattle.c2_order.specs.Point.{strobes_of, reads_of}
use Rattle.c2_acts.specs.declared.Stage.{Stage}
use Rattle.c2_acts.specs.declared.Stage.TheVariants.{Lead, Erase, Write, Read, Close, Register}
use Rattle.c2_session.specs.declared.Point.{Point}
use Rattle.c2_session.specs.declared.Point.TheVariants.{Running, Ended}
use Rattle.c2_session.specs.declared.Session.{Session}

-- how many pages a stage goes through, or pairs (`pages_in`), and how many blocks of a page (`blocks_in`): 1 where
-- that number is not in use and is 0
abbrev pub pages_in : Stage → (pairs pages : ℕ) → ℕ
pages_in Lead m n = 1
pages_in Erase m n = n
pages_in Write m n = n
pages_in Read m n = n
pages_in Close m n = 1
pages_in Register m n = m

abbrev pub blocks_in : Stage → (size : ℕ) → ℕ
blocks_in Lead size = 1
blocks_in Erase size = 1
blocks_in Write size = size / 256
blocks_in Read size = size / 256
blocks_in Close size = 1
blocks_in Register size = 1

-- the acts of a stage in the session's order: up to the pause, of one page's erase, of one block written or
-- read back, the last reset, and of one pair. Which acts these are goes by no byte that they send or expect: 0
-- stands for each.
abbrev pub any_block : Block
any_block = record { address = 0; offset = 0; bytes = replicate 256 0 }

unfoldable pub stage_order : Stage → List Act
stage_order Lead = lead (record { id = 0; fpdat = 0; size = 0; count = 0; wait = 0; pairs = no_pairs })
stage_order Erase = erase 0 0
stage_order Write = block_write 0 any_block
stage_order Read = block_read 0 any_block
stage_order Close = reset_pulse ∷ []
stage_order Register = pair_acts (record { register = 0; value = 0 })

-- whether a place is in range: the strobe exists; zeros seen in a WAIT are below its limit, unsatisfied reads
-- below theirs, and other counts 0; bits not yet sampled are 0
unfoldable pub place_in_range : (wait_limit reads : ℕ) → List Strobe → (strobe count bits : ℕ) → Bool
place_in_range w r ss q c v =
    ltb q (length ss) && ltb c (count_limit w r (strobe_at ss q)) && ltb v (2 ^ samples (take q ss))

-- whether a place is in range in the frame of the first of these acts, if there is one
unfoldable pub first_in_range : (wait_limit poll_limit : ℕ) → List Act → (strobe count bits : ℕ) → Bool
first_in_range w r [] q c v = false
first_in_range w r (a ∷ acts) q c v = place_in_range w (reads_of (limits w r) a) (strobes_of a) q c v

-- whether a running session's point exists in its order
unfoldable pub running_in_range : (wait_limit poll_limit size pairs pages : ℕ) → Stage → (page block act strobe count bits : ℕ) → Bool
running_in_range w r size pairs pages g i j k q c v =
    ltb i (pages_in g pairs pages) && ltb j (blocks_in g size) && first_in_range w r (drop k (stage_order g)) q c v

-- whether a number is an outcome that ends a session: 9 to 14, and 32
unfoldable pub ends_session : (number : ℕ) → Bool
ends_session n = eqb n done || (leb bad_reply n && leb n compare_differs)

-- what an outcome's offset is below: the image's length for 14, and 1 for any other, so that it is 0
unfoldable pub offsets_of : (number bytes : ℕ) → ℕ
offsets_of n bytes = cond (eqb n compare_differs) bytes 1

-- whether an outcome is in range
unfoldable pub ended_in_range : (bytes number offset : ℕ) → Bool
ended_in_range bytes n o = ends_session n && ltb o (offsets_of n bytes)

-- whether a point is in range
abbrev pub point_in_range : Limits → (size pairs pages : ℕ) → Point → Bool
point_in_range l size pairs pages (Running g i j k q c v) = running_in_range l.wait l.reads size pairs pages g i j k q c v
point_in_range l size pairs pages (Ended n o) = ended_in_range (size * pages) n o

-- whether settings and pages are in range: what opening asks of them would pass, and entries of pairs that are not
-- named are 0
abbrev pub opening_in_range : Settings → (first pages : ℕ) → Bool
opening_in_range t first pages = eqb (opening_refusal t first (t.size * pages)) 0 && is_tidy t.pairs

-- whether a session is in range: its settings and pages are, and its point
unfoldable pub in_range : Session → Bool
in_range s =
    opening_in_range s.settings s.first s.pages
    && point_in_range (limits_of s.settings) s.settings.size s.settings.pairs.count s.pages s.point

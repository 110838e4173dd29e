-- The exchange that a session in range leaves, and that a reply takes it to its successor's.
use mathlib.Core.Path.{◌≡◌, ap, ◌∙◌}
use mathlib.Core.Bool.{true}
use mathlib.Core.List.{List, [], ◌∷◌, map}
use Prim.Native.Nat.{ℕ, zero, suc, ◌+◌, ◌*◌, ◌/◌, ◌<◌}
use lib.ListN.{length, get_or, drop}
use Rattle.laws.specs.Bytes.{Bytes}
use Rattle.c2_wire.specs.Exchange.{after}
use Rattle.c2_wire.specs.Place.{place}
use Rattle.c2_wire.specs.declared.Frame.TheVariants.{AddressWrite, DataWrite}
use Rattle.c2_wire.specs.declared.Place.{Place}
use Rattle.c2_wire.proofs.Laws.Bits.{bytes_take, bytes_drop}
use Rattle.c2_wire.proofs.Laws.Place.{Exists}
use Rattle.c2_wire.proofs.Laws.Script.{exists_any_byte}
use Rattle.settings.specs.declared.Settings.{Settings}
use Rattle.c2_order.specs.Acts.{Act, Block, block_write, block_read}
use Rattle.settings.specs.Registers.{pairs_of}
use Rattle.c2_order.specs.Order.{Page, pages, rising, blocks, joined, pair_acts, page_acts}
use Rattle.c2_order.specs.Conversation.{limits, limits_of}
use Rattle.c2_order.proofs.Laws.Conversation.{limits_positive}
use Rattle.c2_order.specs.Point.{left_to_say, strobes_of, reads_of}
use Rattle.c2_order.proofs.Laws.Valid.{Sound, Every, none, more, ◌then◌, Valid}
use Rattle.c2_order.proofs.Laws.Order.{sound, every_erase, every_block_write, every_block_read, every_blocks, every_pages, every_lead, every_pairs}
use Rattle.c2_order.proofs.Laws.Point.{next_says}
use Rattle.c2_acts.specs.declared.Stage.{Stage}
use Rattle.c2_acts.specs.declared.Stage.TheVariants.{Lead, Erase, Write, Read, Close, Register}
use Rattle.c2_acts.specs.declared.Task.{Task}
use Rattle.c2_acts.specs.declared.Task.TheVariants.{Reset, Pause, Address, Send, Input, Output, Ident, Status, Compare}
use Rattle.c2_session.specs.declared.Point.TheVariants.{Running, Ended}
use Rattle.c2_session.specs.declared.Session.{Session}
use Rattle.c2_acts.specs.Code.Acts.{task_of}
use Rattle.c2_session.specs.Code.Next.{act_at}
use Rattle.c2_session.specs.Code.Advance.{advanced}
use Rattle.c2_range.specs.Range.{in_range, point_in_range}
use Rattle.c2_range.specs.Code.Bounds.{strobes_in, reads_in}
use Rattle.c2_position.specs.Position.{page_list, page_at, block_at, stage_acts, pages_from, writes_from, reads_from, registers_from, after_stage, acts_from, point_position, position}
use Rattle.c2_range.proofs.Laws.Acts.{task_act}
use Rattle.c2_position.proofs.Laws.Position.{Fits, act_byte}
use Rattle.c2_position.proofs.Laws.Onward.{acts_here}
use Rattle.c2_position.proofs.Laws.Advanced.{fits_of, point_of, SessionPoint, advances}
use Rattle.c2_range.proofs.Laws.Bounds.{bounded}
use Rattle.c2_position.proofs.Laws.Range.{place_exists}

-- what holds of every act of a list holds of every act of its parts
every_drop : {P : Act → Type 0} (k : ℕ) (xs : List Act) → Every P xs → Every P (drop k xs)
every_drop zero xs f = f
every_drop (suc k) [] none = none
every_drop (suc k) (x ∷ xs) (more p f) = every_drop k xs f

-- pages and blocks hold bytes
page_bytes : (size o i : ℕ) (ns image : List ℕ) (d : Page) → Bytes d.bytes → Bytes image → Bytes (get_or (pages size o ns image) i d).bytes
unfolding pages
page_bytes size o i [] image d h b = h
page_bytes size o zero (n ∷ ns) image d h b = bytes_take size image b
page_bytes size o (suc i) (n ∷ ns) image d h b = page_bytes size (o + size) i ns (drop size image) d h (bytes_drop size image b)

block_bytes : (n a o j : ℕ) (bs : List ℕ) (d : Block) → Bytes d.bytes → Bytes bs → Bytes (get_or (blocks n a o bs) j d).bytes
unfolding blocks
block_bytes zero a o j bs d h b = h
block_bytes (suc n) a o zero bs d h b = bytes_take 256 bs b
block_bytes (suc n) a o (suc j) bs d h b = block_bytes n (a + 256) (o + 256) j (drop 256 bs) d h (bytes_drop 256 bs b)

blocks_drop : (acts : Block → List Act) → ((b : Block) → Bytes b.bytes → Every Sound (acts b)) → (j n a o : ℕ) (bs : List ℕ) → Bytes bs
    → Every Sound (joined (map acts (drop j (blocks n a o bs))))
unfolding blocks joined
blocks_drop acts f zero n a o bs h = every_blocks Sound sound acts f n a o bs h
blocks_drop acts f (suc j) zero a o bs h = none
blocks_drop acts f (suc j) (suc n) a o bs h = blocks_drop acts f j n (a + 256) (o + 256) (drop 256 bs) (bytes_drop 256 bs h)

pages_drop : (t : Settings) (i o : ℕ) (ns bs : List ℕ) → Bytes bs → Every Sound (joined (map (page_acts t) (drop i (pages t.size o ns bs))))
unfolding pages joined
pages_drop t zero o ns bs h = every_pages Sound sound t o ns bs h
pages_drop t (suc i) o [] bs h = none
pages_drop t (suc i) o (n ∷ ns) bs h = pages_drop t i (o + t.size) ns (drop t.size bs) (bytes_drop t.size bs h)

module _ (s : Session) (image : List ℕ) (id : s.settings.id < 256) (b : Bytes image) where
  page_at_bytes : (i : ℕ) → Bytes (page_at s image i).bytes
  unfolding page_list
  page_at_bytes i = page_bytes s.settings.size 0 i (rising s.first s.pages) image _ tt b

  pages_sound : (i : ℕ) → Every Sound (pages_from s image i)
  unfolding pages_from page_list
  pages_sound i = pages_drop s.settings i 0 (rising s.first s.pages) image b then more sound.resets none

  stage_sound : (g : Stage) (i j : ℕ) → Every Sound (stage_acts g s image i j)
  unfolding pair_acts
  stage_sound Lead i j = every_lead Sound sound s.settings id
  stage_sound Erase i j = every_erase Sound sound s.settings.fpdat (page_at s image i).number
  stage_sound Write i j = every_block_write Sound sound s.settings.fpdat (block_at s image i j)
  stage_sound Read i j =
      every_block_read Sound sound s.settings.fpdat (block_at s image i j)
      (block_bytes (s.settings.size / 256) _ _ j (page_at s image i).bytes _ tt (page_at_bytes i))
  stage_sound Close i j = more sound.resets none
  stage_sound Register i j = more (sound.addresses _) (more (sound.writes _) none)

  writes_sound : (i j : ℕ) → Every Sound (writes_from s image i j)
  unfolding writes_from
  writes_sound i j =
      blocks_drop (block_write s.settings.fpdat) (λ x _. every_block_write Sound sound s.settings.fpdat x) j (s.settings.size / 256)
      ((page_at s image i).number * s.settings.size) (page_at s image i).offset (page_at s image i).bytes (page_at_bytes i)

  reads_sound : (i j : ℕ) → Every Sound (reads_from s image i j)
  unfolding reads_from
  reads_sound i j =
      blocks_drop (block_read s.settings.fpdat) (every_block_read Sound sound s.settings.fpdat) j (s.settings.size / 256)
      ((page_at s image i).number * s.settings.size) (page_at s image i).offset (page_at s image i).bytes (page_at_bytes i)

  registers_sound : (i : ℕ) → Every Sound (registers_from s image i)
  unfolding registers_from
  registers_sound i = every_pairs Sound sound (drop i (pairs_of s.settings.pairs)) then pages_sound 0

  later_sound : (g : Stage) (i j : ℕ) → Every Sound (after_stage g s image i j)
  later_sound Lead i j = registers_sound 0
  later_sound Erase i j = writes_sound i 0 then (reads_sound i 0 then pages_sound (suc i))
  later_sound Write i j = writes_sound i (suc j) then (reads_sound i 0 then pages_sound (suc i))
  later_sound Read i j = reads_sound i (suc j) then pages_sound (suc i)
  later_sound Close i j = none
  later_sound Register i j = registers_sound (suc i)

  acts_sound : (g : Stage) (i j k : ℕ) → Every Sound (acts_from g s image i j k)
  acts_sound g i j k = every_drop k (stage_acts g s image i j) (stage_sound g i j) then later_sound g i j

-- of sound acts the first is sound, and the others are
first_sound : {a : Act} {acts : List Act} → Every Sound (a ∷ acts) → Sound a × Every Sound acts
first_sound (more p f) = (p, f)

-- a place of a task is a place of its act
pub task_exists : (w r : ℕ) (t : Task) (b id o : ℕ) (p : Place) → Exists w (reads_in r t) (strobes_in t) p
    → Exists w (reads_of (limits w r) (task_act t b id o)) (strobes_of (task_act t b id o)) p
unfolding reads_of strobes_of
task_exists w r Reset b id o p e = e
task_exists w r Pause b id o p e = e
task_exists w r Address b id o p e = exists_any_byte AddressWrite 0 b w 1 p e
task_exists w r Send b id o p e = exists_any_byte DataWrite 0 b w 1 p e
task_exists w r Input b id o p e = e
task_exists w r Output b id o p e = e
task_exists w r Ident b id o p e = e
task_exists w r Status b id o p e = e
task_exists w r Compare b id o p e = e

-- the point of a session in range exists in its order
pub position_valid : (s : Session) (image : List ℕ) → s.settings.id < 256 → Bytes image → in_range s ≡ true → length image ≡ s.settings.size * s.pages
    → Valid (limits_of s.settings) (position s image)
unfolding point_position
position_valid s image id b e l = go s.point (point_of s e)
  where
    w : ℕ
    w = (limits_of s.settings).wait

    r : ℕ
    r = (limits_of s.settings).reads

    h : Fits s image
    h = fits_of s image e l

    go : (y : SessionPoint) → point_in_range (limits_of s.settings) s.settings.size s.settings.pairs.count s.pages y ≡ true → Valid (limits_of s.settings) (point_position s image y)
    go (Running g i j k q c v) f =
        let n = bounded w r s.settings.size s.settings.pairs.count s.pages g i j k q c v f in
        let x = place_exists w (reads_in r (task_of g k)) (strobes_in (task_of g k)) (place q c v) n.place in
        let a = acts_here s image h g i j k n.page n.block n.act in
        let both = first_sound (rw a at (acts_sound s image id b g i j k)) in
        rw a (both.0, both.1, task_exists w r (task_of g k) (act_byte s image h g (act_at g i j k)) s.settings.id _ (place q c v) x)
    go (Ended n o) f = tt

-- what a session leaves to say after a reply is what the reply leaves of the exchange
pub exchange_advances : (s : Session) (image : List ℕ) → s.settings.id < 256 → Bytes image → in_range s ≡ true
    → length image ≡ s.settings.size * s.pages → (x : ℕ)
    → left_to_say (limits_of s.settings) (position (advanced s x image) image) ≡ after (left_to_say (limits_of s.settings) (position s image)) x
exchange_advances s image id b e l x =
    ap (left_to_say (limits_of s.settings)) (advances s image e l x)
    ∙ next_says (limits_of s.settings) (limits_positive s.settings (fits_of s image e l).settings) (position s image) (position_valid s image id b e l) x

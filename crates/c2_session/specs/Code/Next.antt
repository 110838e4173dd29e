-- For the code: the point after an act, by arithmetic on the session's numbers. `goes_on` of
-- proofs/Laws/Onward in c2_position is the law that it goes through the order.
use Rattle.std.specs.Prelude.{cond, ℕ, ◌+◌, ◌/◌, ltb}
use Rattle.numbers.specs.Numbers.{done}
use Rattle.c2_wire.specs.Place.{place}
use Rattle.c2_wire.specs.declared.Place.{Place}
use Rattle.c2_acts.specs.declared.Stage.{Stage}
use Rattle.c2_acts.specs.declared.Stage.TheVariants.{Lead, Erase, Write, Read, Close, Register}
use Rattle.c2_session.specs.declared.At.{At}
use Rattle.c2_session.specs.declared.Point.{Point}
use Rattle.c2_session.specs.declared.Point.TheVariants.{Running, Ended}
use Rattle.c2_session.specs.declared.Session.{Session}
use Rattle.c2_acts.specs.Code.Acts.{acts_in}

abbrev pub act_at : Stage → (page block act : ℕ) → At
act_at stage page block act = record { stage = stage; page = page; block = block; act = act }

-- the point of a running session, from its act and its place
abbrev pub strobe_point : At → Place → Point
strobe_point a p = Running a.stage a.page a.block a.act p.strobe p.count p.bits

-- the point of a session that has ended, with offset 0
abbrev pub end_point : ℕ → Point
end_point n = Ended n 0

-- the first strobe of an act
abbrev pub first_strobe : Stage → (page block act : ℕ) → Point
first_strobe stage page block act = strobe_point (act_at stage page block act) (place 0 0 0)

-- the point after the last act of a block write: the page's next block write, or its first block read
unfoldable pub next_write : Session → At → Point
next_write s a =
    cond (ltb (a.block + 1) (s.settings.size / 256)) (first_strobe Write a.page (a.block + 1) 0) (first_strobe Read a.page 0 0)

-- the point after the last act of a page: the next page's erase, or the last reset
unfoldable pub next_page : Session → (page : ℕ) → Point
next_page s page = cond (ltb (page + 1) s.pages) (first_strobe Erase (page + 1) 0 0) (first_strobe Close 0 0 0)

-- the point after the last act of a block read: the page's next block read, or what follows the page
unfoldable pub next_read : Session → At → Point
next_read s a = cond (ltb (a.block + 1) (s.settings.size / 256)) (first_strobe Read a.page (a.block + 1) 0) (next_page s a.page)

-- the point where the pairs before this number are over: the next pair, or the first page's erase
unfoldable pub next_register : Session → (number : ℕ) → Point
next_register s i = cond (ltb i s.settings.pairs.count) (first_strobe Register i 0 0) (first_strobe Erase 0 0 0)

-- the point after the last act of a stage
abbrev pub next_stage : Stage → Session → At → Point
next_stage Lead s a = next_register s 0
next_stage Erase s a = first_strobe Write a.page 0 0
next_stage Write s a = next_write s a
next_stage Read s a = next_read s a
next_stage Close s a = end_point done
next_stage Register s a = next_register s (a.page + 1)

-- the point after an act: the next act of its stage, or what follows the stage
unfoldable pub next_act : Session → At → Point
next_act s a =
    cond (ltb (a.act + 1) (acts_in a.stage)) (first_strobe a.stage a.page a.block (a.act + 1)) (next_stage a.stage s a)

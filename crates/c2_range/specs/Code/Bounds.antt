-- For the code: the frame of an act as numbers, and tests of numbers below others. `place_by` of
-- proofs/Laws/Bounds is the law that these are the strobes, counts and sampled bits of the frames;
-- `running_is` there, that a running point is in range exactly if the tests by the act's number pass.
use Rattle.std.specs.Prelude.{Bool, cond, ◌&&◌, List, [], ◌∷◌, ℕ, ◌-◌, ◌^◌, eqb, ltb}
use Rattle.c2_wire.specs.Step.{reset, pause}
use Rattle.c2_wire.specs.Field.{RESET, PAUSE}
use Rattle.c2_wire.specs.Frames.{Strobe, plain, frame}
use Rattle.c2_wire.specs.declared.Frame.TheVariants.{AddressWrite, AddressRead, DataWrite, DataRead}
use Rattle.c2_acts.specs.Code.Acts.{task_of, acts_in}
use Rattle.c2_acts.specs.declared.Stage.{Stage}
use Rattle.c2_acts.specs.declared.Task.{Task}
use Rattle.c2_acts.specs.declared.Task.TheVariants.{Reset, Pause, Address, Send, Input, Output, Ident, Status, Compare}
use Rattle.c2_range.specs.Range.{pages_in, blocks_in, place_in_range}

-- the strobes of an act's frame, with 0 for the byte that it sends
abbrev pub strobes_in : Task → List Strobe
strobes_in Reset = plain RESET reset ∷ []
strobes_in Pause = plain PAUSE pause ∷ []
strobes_in Address = frame AddressWrite 0
strobes_in Send = frame DataWrite 0
strobes_in Input = frame AddressRead 0
strobes_in Output = frame AddressRead 0
strobes_in Ident = frame DataRead 0
strobes_in Status = frame DataRead 0
strobes_in Compare = frame DataRead 0

-- the reads that an act counts: those of a poll
abbrev pub reads_in : (poll_limit : ℕ) → Task → ℕ
reads_in r Reset = 1
reads_in r Pause = 1
reads_in r Address = 1
reads_in r Send = 1
reads_in r Input = r
reads_in r Output = r
reads_in r Ident = 1
reads_in r Status = 1
reads_in r Compare = 1

-- how many strobes an act's frame has
abbrev pub strobes_by : Task → ℕ
strobes_by Reset = 1
strobes_by Pause = 1
strobes_by Address = 12
strobes_by Send = 15
strobes_by Input = 12
strobes_by Output = 12
strobes_by Ident = 15
strobes_by Status = 15
strobes_by Compare = 15

-- what a count is below at a strobe, where the WAIT is the strobe of this number
abbrev pub limit_from : (waits wait_limit strobe : ℕ) → ℕ
limit_from a w q = cond (eqb q a) w 1

-- what a count is below at a strobe of an act
abbrev pub limit_by : (wait_limit poll_limit : ℕ) → Task → (strobe : ℕ) → ℕ
limit_by w r Reset q = 1
limit_by w r Pause q = 1
limit_by w r Address q = 1
limit_by w r Send q = limit_from 13 w q
limit_by w r Input q = r
limit_by w r Output q = r
limit_by w r Ident q = limit_from 5 w q
limit_by w r Status q = limit_from 5 w q
limit_by w r Compare q = limit_from 5 w q

-- how many of the eight strobes from this first one on are passed
abbrev pub sampled_from : (first strobe : ℕ) → ℕ
sampled_from a q = cond (ltb q a) 0 (cond (ltb (q - a) 8) (q - a) 8)

-- how many bits an act's frame has sampled before a strobe
abbrev pub sampled_by : Task → (strobe : ℕ) → ℕ
sampled_by Reset q = 0
sampled_by Pause q = 0
sampled_by Address q = 0
sampled_by Send q = 0
sampled_by Input q = sampled_from 3 q
sampled_by Output q = sampled_from 3 q
sampled_by Ident q = sampled_from 6 q
sampled_by Status q = sampled_from 6 q
sampled_by Compare q = sampled_from 6 q

-- whether a place is below bounds of these kinds: strobe, count and sampled bits
abbrev pub below_bounds : (strobes limit sampled : ℕ) → (strobe count bits : ℕ) → Bool
below_bounds n m k q c v = ltb q n && ltb c m && ltb v (2 ^ k)

-- whether an act is one of so many, in one of so many blocks of so many pages
abbrev pub inside : (pages blocks acts : ℕ) → (page block act : ℕ) → Bool
inside n m a i j k = ltb i n && ltb j m && ltb k a

-- whether a running point is in range, by its act's number
unfoldable pub running_by : (wait_limit poll_limit size pairs pages : ℕ) → Stage → (page block act strobe count bits : ℕ) → Bool
running_by w r size pairs pages g i j k q c v =
    inside (pages_in g pairs pages) (blocks_in g size) (acts_in g) i j k
    && place_in_range w (reads_in r (task_of g k)) (strobes_in (task_of g k)) q c v

-- Which sessions are within their ranges, in the words of document 01 ("What the driver keeps over sleep").
-- Types alone: proofs/Laws/Range proves `RangesAre`.
use Rattle.std.specs.Prelude.{◌≡◌, true, List, ◌∷◌, ◌↔◌, ◌⊎◌, ℕ, ◌+◌, ◌*◌, ◌^◌, ◌<◌, ◌≤◌, length, take, drop}
use Rattle.numbers.specs.Numbers.{compare_differs}
use Rattle.c2_wire.specs.Place.{strobe_at, samples, count_limit}
use Rattle.settings.specs.declared.Settings.{Settings}
use Rattle.settings.specs.Registers.{pair_at}
use Rattle.c2_order.specs.Acts.{Act}
use Rattle.c2_order.specs.Conversation.{Limits, limits_of}
use Rattle.c2_order.specs.Claims.{LastNumber}
use Rattle.c2_order.specs.Point.{strobes_of, reads_of}
use Rattle.c2_acts.specs.declared.Stage.{Stage}
use Rattle.c2_session.specs.declared.Point.{Point}
use Rattle.c2_session.specs.declared.Point.TheVariants.{Running, Ended}
use Rattle.c2_session.specs.declared.Session.{Session}
use Rattle.c2_range.specs.Range.{pages_in, blocks_in, stage_order, in_range}

-- What opening asks of settings and pages would pass (numbers 1 to 5, 18 and 19). There are at most four pairs
-- of register and value, and the register of each is neither below 3 nor the FPDAT address.
pub record OpeningPasses (t : Settings) (first pages : ℕ) : Type 0 where
  pub fpdat : 3 ≤ t.fpdat
  pub size : (t.size ≡ 512) ⊎ (t.size ≡ 1024)
  pub count : 1 ≤ t.count
  pub flash : t.size * t.count ≤ 65536
  pub wait : 1 ≤ t.wait
  pub pairs : t.pairs.count ≤ 4
  pub registers : (i : ℕ) → i < t.pairs.count → (3 ≤ (pair_at t.pairs i).register) × ((pair_at t.pairs i).register ≡ t.fpdat → ⊥)
  pub image : 1 ≤ pages
  pub inside : first + pages ≤ t.count

-- A running session's point exists in its order; zeros seen in a WAIT are below its limit and unsatisfied
-- reads below theirs; bits not yet sampled are 0.
pub record PointExists (l : Limits) (size pairs pages : ℕ) (g : Stage) (i j k q c v : ℕ) : Type 0 where
  pub page : i < pages_in g pairs pages
  pub block : j < blocks_in g size
  pub act : Act
  pub later : List Act
  pub here : drop k (stage_order g) ≡ act ∷ later
  pub strobe : q < length (strobes_of act)
  pub count : c < count_limit l.wait (reads_of l act) (strobe_at (strobes_of act) q)
  pub bits : v < 2 ^ samples (take q (strobes_of act))

-- An outcome is one that ends a session, with an offset inside the image for 14 and 0 otherwise.
pub record OutcomeStands (bytes n o : ℕ) : Type 0 where
  pub number : LastNumber n
  pub inside : n ≡ compare_differs → o < bytes
  pub otherwise : (n ≡ compare_differs → ⊥) → o ≡ 0

abbrev pub PointStands : Limits → (size pairs pages : ℕ) → Point → Type 0
PointStands l size pairs pages (Running g i j k q c v) = PointExists l size pairs pages g i j k q c v
PointStands l size pairs pages (Ended n o) = OutcomeStands (size * pages) n o

-- A session is within its ranges: its settings and pages pass; of the four entries for pairs each that is not
-- named, from the count on, has register 0 and value 0; its point stands.
pub record WithinRanges (s : Session) : Type 0 where
  pub opening : OpeningPasses s.settings s.first s.pages
  pub unnamed : (i : ℕ) → s.settings.pairs.count ≤ i → i < 4
      → ((pair_at s.settings.pairs i).register ≡ 0) × ((pair_at s.settings.pairs i).value ≡ 0)
  pub point : PointStands (limits_of s.settings) s.settings.size s.settings.pairs.count s.pages s.point

-- `in_range` means exactly `WithinRanges`.
abbrev pub RangesAre : Type 0
RangesAre = (s : Session) → in_range s ≡ true ↔ WithinRanges s

-- Acts whose strobes are a frame, and points that exist in the order.
use mathlib.Core.Path.{◌≡◌, refl}
use mathlib.Core.Bool.{Bool, true}
use mathlib.Core.List.{List, [], ◌∷◌, ◌++◌}
use Prim.Native.Nat.{ℕ, ◌<◌}
use native.Mathlib.Omega.{arith}
use lib.ListN.{length}
use Rattle.c2_wire.specs.Bits.{bits}
use Rattle.c2_wire.specs.Frames.{Strobe, sends, ins_code, frame}
use Rattle.c2_wire.specs.Place.{place, samples, count_limit}
use Rattle.c2_wire.specs.declared.Frame.TheVariants.{AddressRead, DataRead}
use Rattle.c2_wire.specs.declared.Place.{Place}
use Rattle.c2_wire.proofs.Laws.Place.{Whole, Exists, first_exists, waits_in, counted_reads}
use Rattle.c2_wire.proofs.Laws.Frames.{masters, masters_frame, whole_address_read, whole_data_read}
use Rattle.c2_order.specs.Acts.{Act, send, poll, expect}
use Rattle.c2_order.specs.Conversation.{Limits, Positive}
use Rattle.c2_order.specs.Point.{Point, running, ended, strobes_of, reads_of, begin}

-- strobes that are a frame
pub record Framed (ss : List Strobe) : Type 0 where
  pub whole : Whole 1 ss
  pub some : 0 < length ss
  pub own : masters ss ≡ true

abbrev pub Sound : Act → Type 0
Sound (send ss) = Framed ss
Sound (poll ok) = Unit {0}
Sound (expect x o) = Unit {0}

-- something holds of every act of a list
pub data Every (P : Act → Type 0) : List Act → Type 0 where
  none : Every P []
  more : {a : Act} {acts : List Act} → P a → Every P acts → Every P (a ∷ acts)

infixl 60 ◌then◌
pub ◌then◌ : {P : Act → Type 0} {xs ys : List Act} → Every P xs → Every P ys → Every P (xs ++ ys)
none then g = g
more p f then g = more p (f then g)

pub whole_of : (l : Limits) (a : Act) → Sound a → Whole (reads_of l a) (strobes_of a)
unfolding reads_of strobes_of
whole_of l (send ss) h = h.whole
whole_of l (poll ok) h = whole_address_read l.reads 0
whole_of l (expect x o) h = whole_data_read 0

pub some_of : (a : Act) → Sound a → 0 < length (strobes_of a)
unfolding strobes_of frame sends ins_code bits
some_of (send ss) h = h.some
some_of (poll ok) h = omega arith
some_of (expect x o) h = omega arith

pub masters_of : (a : Act) → Sound a → masters (strobes_of a) ≡ true
unfolding strobes_of
masters_of (send ss) h = h.own
masters_of (poll ok) h = masters_frame AddressRead 0
masters_of (expect x o) h = masters_frame DataRead 0

pub reads_positive : (l : Limits) (a : Act) → Positive l → 0 < reads_of l a
unfolding reads_of
reads_positive l (send ss) h = omega arith
reads_positive l (poll ok) h = h.reads
reads_positive l (expect x o) h = omega arith

-- a point that exists in an order: its acts are sound, and its place is one of the frame
abbrev pub Valid : Limits → Point → Type 0
Valid l (running a acts p) = Sound a × Every Sound acts × Exists l.wait (reads_of l a) (strobes_of a) p
Valid l (ended o) = Unit {0}

pub begin_valid : (l : Limits) → Positive l → (acts : List Act) → Every Sound acts → Valid l (begin acts)
unfolding begin
begin_valid l h [] none = tt
begin_valid l h (a ∷ acts) (more p f) =
    (p, f, first_exists l.wait (reads_of l a) (strobes_of a) (whole_of l a p) h.wait (reads_positive l a h) (some_of a p))

-- the reads of a poll are below their limit
abbrev pub Polled : Limits → Act → (reads : ℕ) → Type 0
Polled l (send ss) n = Unit {0}
Polled l (poll ok) n = n < l.reads
Polled l (expect x o) n = Unit {0}

pub polled : (l : Limits) (a : Act) (p : Place) → Exists l.wait (reads_of l a) (strobes_of a) p → Polled l a p.count
unfolding reads_of strobes_of frame sends ins_code bits waits_in
polled l (send ss) p h = tt
polled l (poll ok) p h = counted_reads l.wait l.reads (frame AddressRead 0) p refl h
polled l (expect x o) p h = tt

-- the first strobe of a poll's later read
pub read_exists : (l : Limits) (ok : ℕ → Bool) (n : ℕ) → n < l.reads → Exists l.wait (reads_of l (poll ok)) (strobes_of (poll ok)) (place 0 n 0)
unfolding reads_of strobes_of frame sends ins_code bits count_limit samples
read_exists l ok n h = record { inside = omega arith; counted = h; sampled_only = omega arith }

-- The figure by arithmetic (specs/Code/Left.antt) is the order's figure at the point that the session's
-- numbers name.
pub mod Costs
use mathlib.Core.Path.{◌≡◌, refl}
use mathlib.Core.Bool.{true}
use mathlib.Core.List.{List}
use Prim.Native.Nat.{ℕ, suc, ◌+◌, ◌-◌, ◌*◌, ◌<◌}
use native.Mathlib.Omega.{arith}
use borrow.Author.Tests.{ltb-true}
use lib.ListN.{length, drop}
use Rattle.laws.proofs.Below.{same_below, each_below}
use Rattle.laws.proofs.Tests.{both}
use Rattle.c2_wire.specs.Bits.{bits}
use Rattle.c2_wire.specs.Frames.{sends, ins_code, frame}
use Rattle.c2_wire.specs.Place.{place, longest, longest_rest, strobes_left}
use Rattle.c2_wire.specs.declared.Frame.TheVariants.{AddressWrite, AddressRead, DataWrite, DataRead}
use Rattle.c2_wire.proofs.Laws.Frames.{longest_address_read}
use Rattle.c2_order.specs.Conversation.{limits, limits_of}
use Rattle.c2_order.specs.Point.{strobes_of}
use Rattle.c2_order.specs.Figure.{reads_left, figure}
use Rattle.c2_order.proofs.Laws.Figure.Start.{costs_append}
use Rattle.c2_acts.specs.declared.Task.{Task}
use Rattle.c2_acts.specs.declared.Task.TheVariants.{Reset, Pause, Address, Send, Input, Output, Ident, Status, Compare}
use Rattle.c2_session.specs.declared.Point.TheVariants.{Running, Ended}
use Rattle.c2_session.specs.declared.Session.{Session}
use Rattle.c2_acts.specs.Code.Acts.{task_of}
use Rattle.c2_session.specs.Code.Bytes.{compared_offset}
use Rattle.c2_session.specs.Code.Next.{act_at}
use Rattle.c2_range.specs.Range.{place_in_range, point_in_range, in_range}
use Rattle.c2_range.specs.Code.Bounds.{strobes_in}
use Rattle.c2_position.specs.Position.{stage_acts, after_stage, point_position, position}
use Rattle.c2_range.proofs.Laws.Acts.{task_act}
use Rattle.c2_range.proofs.Laws.Bounds.{bounded}
use Rattle.c2_position.proofs.Laws.Position.{act_byte}
use Rattle.c2_position.proofs.Laws.Onward.{acts_here}
use Rattle.c2_position.proofs.Laws.Advanced.{SessionPoint, fits_of, point_of}
use Rattle.c2_figure.specs.Code.Left.{wait_left, act_left, point_left, steps_left}
use Rattle.c2_figure.proofs.Laws.Left.Costs.{stage_costs, after_costs}

-- facts one by one
infixr 60 ◌and◌
abbrev ◌and◌ : {A B : Type 0} → A → B → A × B
x and y = (x, y)

-- the most steps left of a frame at a strobe
module _ (w c v : ℕ) where
  address_left : (b q : ℕ) → q < 12 → strobes_left w (frame AddressWrite b) (place q c v) ≡ 12 - q
  unfolding strobes_left longest_rest longest frame sends ins_code bits
  address_left b q h =
      same_below (λ n. strobes_left w (frame AddressWrite b) (place n c v)) (λ n. 12 - n) 12 refl q h

  status_left : (q : ℕ) → q < 12 → strobes_left w (frame AddressRead 0) (place q c v) ≡ 12 - q
  unfolding strobes_left longest_rest longest frame sends ins_code bits
  status_left q h =
      same_below (λ n. strobes_left w (frame AddressRead 0) (place n c v)) (λ n. 12 - n) 12 refl q h

  send_left : (b q : ℕ) → q < 15 → strobes_left w (frame DataWrite b) (place q c v) ≡ wait_left w 13 q c
  unfolding strobes_left longest_rest longest frame sends ins_code bits
  send_left b q h =
      each_below (λ n. strobes_left w (frame DataWrite b) (place n c v) ≡ wait_left w 13 n c) 15
      (
      omega arith and omega arith and omega arith and omega arith and omega arith and
      omega arith and omega arith and omega arith and omega arith and omega arith and
      omega arith and omega arith and omega arith and omega arith and omega arith and tt
      ) q h

  read_left : (q : ℕ) → q < 15 → strobes_left w (frame DataRead 0) (place q c v) ≡ wait_left w 5 q c
  unfolding strobes_left longest_rest longest frame sends ins_code bits
  read_left q h =
      each_below (λ n. strobes_left w (frame DataRead 0) (place n c v) ≡ wait_left w 5 n c) 15
      (
      omega arith and omega arith and omega arith and omega arith and omega arith and
      omega arith and omega arith and omega arith and omega arith and omega arith and
      omega arith and omega arith and omega arith and omega arith and omega arith and tt
      ) q h

  -- the most steps left of an act at a strobe
  act_counts : (r : ℕ) (t : Task) (b id o q : ℕ) → q < length (strobes_in t)
      → strobes_left w (strobes_of (task_act t b id o)) (place q c v) + reads_left (limits w r) (task_act t b id o) c ≡ act_left (limits w r) t q c
  unfolding strobes_of reads_left strobes_left longest_rest longest frame sends ins_code bits
  act_counts r Reset b id o q h = let z : q ≡ 0 = omega arith in rw z
  act_counts r Pause b id o q h = let z : q ≡ 0 = omega arith in rw z
  act_counts r Address b id o q h = omega (arith, address_left b q h)
  act_counts r Send b id o q h = omega (arith, send_left b q h)
  act_counts r Input b id o q h = rw (longest_address_read w 0) (omega (arith, status_left q h))
  act_counts r Output b id o q h = rw (longest_address_read w 0) (omega (arith, status_left q h))
  act_counts r Ident b id o q h = omega (arith, read_left q h)
  act_counts r Status b id o q h = omega (arith, read_left q h)
  act_counts r Compare b id o q h = omega (arith, read_left q h)

strobe_there : (w : ℕ) (t : Task) (n q c v : ℕ) → place_in_range w n (strobes_in t) q c v ≡ true → q < length (strobes_in t)
unfolding place_in_range
strobe_there w t n q c v e = ltb-true _ _ (both _ _ (both _ _ e).0).0

-- the figure by arithmetic is the order's, for a session in range that is lent its image
pub counts : (s : Session) (image : List ℕ) → in_range s ≡ true → length image ≡ s.settings.size * s.pages
    → figure (limits_of s.settings) (position s image) ≡ steps_left s
unfolding steps_left point_position figure
counts s image e l = go s.point (point_of s e)
  where
    go : (y : SessionPoint) → point_in_range (limits_of s.settings) s.settings.size s.settings.pairs.count s.pages y ≡ true
        → figure (limits_of s.settings) (point_position s image y) ≡ point_left (limits_of s.settings) y s
    go (Running g i j k q c v) f =
        let lim = limits_of s.settings in
        let n = bounded lim.wait lim.reads s.settings.size s.settings.pairs.count s.pages g i j k q c v f in
        let h = fits_of s image e l in
        rw (acts_here s image h g i j k n.page n.block n.act)
        (omega (
          arith,
          act_counts lim.wait c v lim.reads (task_of g k) (act_byte s image h g (act_at g i j k)) s.settings.id (compared_offset s (act_at g i j k)) q
              (strobe_there lim.wait (task_of g k) _ q c v n.place),
          costs_append lim (drop (suc k) (stage_acts g s image i j)) (after_stage g s image i j),
          stage_costs lim s image h g i j k n.page n.block n.act,
          after_costs lim s image h g i j n.page n.block,
        ))
    go (Ended n o) f = refl

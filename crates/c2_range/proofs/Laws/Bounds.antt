-- The numbers by which the code knows a frame (specs/Code/Bounds.antt) are those of its list of strobes.
use mathlib.Core.Path.{◌≡◌, refl, sym, ap, ◌∙◌}
use mathlib.Core.Bool.{Bool, true, false, ◌&&◌}
use mathlib.Core.List.{List, [], ◌∷◌}
use Prim.Native.Nat.{ℕ, zero, suc, ◌^◌, ◌<◌, ◌≤◌}
use native.Mathlib.Omega.{arith}
use native.Mathlib.Decide.{dec_lt}
use borrow.Author.Tests.{lt-ltb, le-ltb, ltb-true}
use lib.Dec.{ltb}
use lib.ListN.{length, get_or, take, drop}
use Rattle.laws.proofs.Below.{upto, same_below}
use Rattle.laws.proofs.Tests.{both}
use Rattle.c2_wire.specs.Bits.{bits}
use Rattle.c2_wire.specs.Frames.{Strobe, sends, ins_code, frame}
use Rattle.c2_wire.specs.Place.{strobe_at, samples, count_limit}
use Rattle.c2_wire.specs.declared.Frame.TheVariants.{AddressWrite, DataWrite}
use Rattle.c2_order.specs.Acts.{Act, reset_pulse, put, get, status, puts, compares, erase, block_command, block_write, block_read}
use Rattle.c2_order.specs.Order.{lead, pair_acts}
use Rattle.c2_order.specs.Conversation.{limits}
use Rattle.c2_order.specs.Point.{strobes_of, reads_of}
use Rattle.c2_acts.specs.Code.Acts.{task_of, acts_in}
use Rattle.c2_acts.specs.declared.Stage.{Stage}
use Rattle.c2_acts.specs.declared.Stage.TheVariants.{Lead, Erase, Write, Read, Close, Register}
use Rattle.c2_acts.specs.declared.Task.{Task}
use Rattle.c2_acts.specs.declared.Task.TheVariants.{Reset, Pause, Address, Send, Input, Output, Ident, Status, Compare}
use Rattle.c2_range.specs.Range.{pages_in, blocks_in, any_block, stage_order, place_in_range, first_in_range, running_in_range}
use Rattle.c2_range.specs.Code.Bounds.{strobes_in, reads_in, strobes_by, limit_by, sampled_by, below_bounds, inside, running_by}
use Rattle.c2_range.proofs.Laws.Acts.{task_act, lead_at, erase_at, write_at, read_at, pair_acts_at}

strobes_are : (t : Task) → length (strobes_in t) ≡ strobes_by t
unfolding frame sends ins_code bits
strobes_are Reset = refl
strobes_are Pause = refl
strobes_are Address = refl
strobes_are Send = refl
strobes_are Input = refl
strobes_are Output = refl
strobes_are Ident = refl
strobes_are Status = refl
strobes_are Compare = refl

limits_are : (w r : ℕ) (t : Task)
    → upto (λ q. count_limit w (reads_in r t) (strobe_at (strobes_in t) q)) (strobes_by t) ≡ upto (limit_by w r t) (strobes_by t)
unfolding frame sends ins_code bits count_limit
limits_are w r Reset = refl
limits_are w r Pause = refl
limits_are w r Address = refl
limits_are w r Send = refl
limits_are w r Input = refl
limits_are w r Output = refl
limits_are w r Ident = refl
limits_are w r Status = refl
limits_are w r Compare = refl

samples_are : (t : Task) → upto (λ q. samples (take q (strobes_in t))) (strobes_by t) ≡ upto (sampled_by t) (strobes_by t)
unfolding frame sends ins_code bits samples
samples_are Reset = refl
samples_are Pause = refl
samples_are Address = refl
samples_are Send = refl
samples_are Input = refl
samples_are Output = refl
samples_are Ident = refl
samples_are Status = refl
samples_are Compare = refl

-- a place of a frame is in range exactly if it is below these bounds
pub place_by : (w r : ℕ) (t : Task) (q c v : ℕ)
    → place_in_range w (reads_in r t) (strobes_in t) q c v ≡ below_bounds (strobes_by t) (limit_by w r t q) (sampled_by t q) q c v
unfolding place_in_range
place_by w r t q c v = rw (strobes_are t) (go (dec_lt q (strobes_by t)))
  where
    go : Dec (q < strobes_by t) → (ltb q (strobes_by t) && ltb c (count_limit w (reads_in r t) (strobe_at (strobes_in t) q)) && ltb v (2 ^ samples (take q (strobes_in t))))
        ≡ below_bounds (strobes_by t) (limit_by w r t q) (sampled_by t q) q c v
    go (yes y) =
        rw (
          same_below (λ i. count_limit w (reads_in r t) (strobe_at (strobes_in t) i)) (limit_by w r t) (strobes_by t) (limits_are w r t) q y,
          same_below (λ i. samples (take i (strobes_in t))) (sampled_by t) (strobes_by t) (samples_are t) q y,
        )
    go (no y) = rw (le-ltb q (strobes_by t) (omega arith))

-- frames that sample and wait at the same strobes have the same places in range
same_places : (w r n : ℕ) (ss tt : List Strobe) → length ss ≡ n → length tt ≡ n
    → upto (λ q. count_limit w r (strobe_at ss q)) n ≡ upto (λ q. count_limit w r (strobe_at tt q)) n
    → upto (λ q. samples (take q ss)) n ≡ upto (λ q. samples (take q tt)) n
    → (q c v : ℕ) → place_in_range w r ss q c v ≡ place_in_range w r tt q c v
unfolding place_in_range
same_places w r n ss tt es et l m q c v = rw (es, et) (go (dec_lt q n))
  where
    go : Dec (q < n) → (ltb q n && ltb c (count_limit w r (strobe_at ss q)) && ltb v (2 ^ samples (take q ss)))
        ≡ (ltb q n && ltb c (count_limit w r (strobe_at tt q)) && ltb v (2 ^ samples (take q tt)))
    go (yes y) =
        rw (
          same_below (λ i. count_limit w r (strobe_at ss i)) (λ i. count_limit w r (strobe_at tt i)) n l q y,
          same_below (λ i. samples (take i ss)) (λ i. samples (take i tt)) n m q y,
        )
    go (no y) = rw (le-ltb q n (omega arith))

-- which places are in range does not go by the byte that is sent
address_places : (w b q c v : ℕ) → place_in_range w 1 (frame AddressWrite b) q c v ≡ place_in_range w 1 (frame AddressWrite 0) q c v
unfolding frame sends ins_code bits count_limit samples
address_places w b = same_places w 1 12 (frame AddressWrite b) (frame AddressWrite 0) refl refl refl refl

data_places : (w b q c v : ℕ) → place_in_range w 1 (frame DataWrite b) q c v ≡ place_in_range w 1 (frame DataWrite 0) q c v
unfolding frame sends ins_code bits count_limit samples
data_places w b = same_places w 1 15 (frame DataWrite b) (frame DataWrite 0) refl refl refl refl

act_places : (w r : ℕ) (t : Task) (b id o q c v : ℕ)
    → place_in_range w (reads_of (limits w r) (task_act t b id o)) (strobes_of (task_act t b id o)) q c v ≡ place_in_range w (reads_in r t) (strobes_in t) q c v
unfolding strobes_of reads_of
act_places w r Reset b id o q c v = refl
act_places w r Pause b id o q c v = refl
act_places w r Address b id o q c v = address_places w b q c v
act_places w r Send b id o q c v = data_places w b q c v
act_places w r Input b id o q c v = refl
act_places w r Output b id o q c v = refl
act_places w r Ident b id o q c v = refl
act_places w r Status b id o q c v = refl
act_places w r Compare b id o q c v = refl

-- what is left of a list at a place in it, and past its end
drop_inside : (l : List Act) (k : ℕ) (d : Act) → k < length l → drop k l ≡ get_or l k d ∷ drop (suc k) l
drop_inside [] k d h = absurd (omega arith)
drop_inside (a ∷ l) zero d h = refl
drop_inside (a ∷ l) (suc k) d h = drop_inside l k d (omega arith)

drop_past : (l : List Act) (k : ℕ) → length l ≤ k → drop k l ≡ []
drop_past [] zero h = refl
drop_past [] (suc k) h = refl
drop_past (a ∷ l) zero h = absurd (omega arith)
drop_past (a ∷ l) (suc k) h = drop_past l k (omega arith)

-- the place in the first act of what is left of a list, by that act's number
module _ (w r : ℕ) (l : List Act) (n k : ℕ) (t : Task) (q c v : ℕ) (e : length l ≡ n) where
  act_there : k < n → (b id o : ℕ) → get_or l k reset_pulse ≡ task_act t b id o
      → first_in_range w r (drop k l) q c v ≡ (ltb k n && place_in_range w (reads_in r t) (strobes_in t) q c v)
  unfolding first_in_range
  act_there h b id o x =
      rw (drop_inside l k reset_pulse (omega arith), x, lt-ltb k n h) (act_places w r t b id o q c v)

  no_act : n ≤ k → first_in_range w r (drop k l) q c v ≡ (ltb k n && place_in_range w (reads_in r t) (strobes_in t) q c v)
  unfolding first_in_range
  no_act h = rw (drop_past l k (omega arith), le-ltb k n h)

stage_acts_number : (g : Stage) → length (stage_order g) ≡ acts_in g
unfolding stage_order lead erase block_write block_read block_command put get status puts compares pair_acts
stage_acts_number Lead = refl
stage_acts_number Erase = refl
stage_acts_number Write = refl
stage_acts_number Read = refl
stage_acts_number Close = refl
stage_acts_number Register = refl

module _ (w r : ℕ) (g : Stage) (k q c v : ℕ) where
  abbrev ByNumber : Type 0
  ByNumber = first_in_range w r (drop k (stage_order g)) q c v ≡ (ltb k (acts_in g) && place_in_range w (reads_in r (task_of g k)) (strobes_in (task_of g k)) q c v)

  by_act : k < acts_in g → (b id o : ℕ) → get_or (stage_order g) k reset_pulse ≡ task_act (task_of g k) b id o → ByNumber
  by_act h b id o x = act_there w r (stage_order g) (acts_in g) k (task_of g k) q c v (stage_acts_number g) h b id o x

act_at : (w r : ℕ) (g : Stage) (k q c v : ℕ) → k < acts_in g → ByNumber w r g k q c v
unfolding stage_order
act_at w r Lead k q c v h = by_act w r Lead k q c v h _ _ 0 (lead_at _ k reset_pulse 0 h)
act_at w r Erase k q c v h = by_act w r Erase k q c v h _ 0 0 (erase_at 0 0 k reset_pulse 0 0 h)
act_at w r Write k q c v h = by_act w r Write k q c v h _ 0 0 (write_at 0 any_block k reset_pulse 0 0 refl h)
act_at w r Read k q c v h = by_act w r Read k q c v h _ 0 _ (read_at 0 any_block k reset_pulse 0 refl h)
act_at w r Close k q c v h = by_act w r Close k q c v h 0 0 0 (let e : k ≡ 0 = omega arith in rw e)
act_at w r Register k q c v h = by_act w r Register k q c v h _ 0 0 (pair_acts_at _ k reset_pulse 0 0 h)

by_number : (w r : ℕ) (g : Stage) (k q c v : ℕ) → ByNumber w r g k q c v
by_number w r g k q c v = go (dec_lt k (acts_in g))
  where
    go : Dec (k < acts_in g) → ByNumber w r g k q c v
    go (yes y) = act_at w r g k q c v y
    go (no y) = no_act w r (stage_order g) (acts_in g) k (task_of g k) q c v (stage_acts_number g) (omega arith)

both_assoc : (x y z : Bool) → (x && (y && z)) ≡ (x && y && z)
both_assoc true y z = refl
both_assoc false y z = refl

-- a running point is in range exactly if the tests by its act's number pass
pub running_is : (w r size pairs pages : ℕ) (g : Stage) (i j k q c v : ℕ)
    → running_in_range w r size pairs pages g i j k q c v ≡ running_by w r size pairs pages g i j k q c v
unfolding running_in_range running_by
running_is w r size pairs pages g i j k q c v =
    let x : Bool = ltb i (pages_in g pairs pages) && ltb j (blocks_in g size) in
    ap (λ (b : Bool). ltb i (pages_in g pairs pages) && ltb j (blocks_in g size) && b) (by_number w r g k q c v)
    ∙ both_assoc x (ltb k (acts_in g)) (place_in_range w (reads_in r (task_of g k)) (strobes_in (task_of g k)) q c v)

-- what the tests of a running point say, by its act's number
pub record Bounded (w r size pairs pages : ℕ) (g : Stage) (i j k q c v : ℕ) : Type 0 where
  pub page : i < pages_in g pairs pages
  pub block : j < blocks_in g size
  pub act : k < acts_in g
  pub place : place_in_range w (reads_in r (task_of g k)) (strobes_in (task_of g k)) q c v ≡ true

pub bounded : (w r size pairs pages : ℕ) (g : Stage) (i j k q c v : ℕ) → running_in_range w r size pairs pages g i j k q c v ≡ true
    → Bounded w r size pairs pages g i j k q c v
unfolding running_by
bounded w r size pairs pages g i j k q c v e =
    let a = both (inside (pages_in g pairs pages) (blocks_in g size) (acts_in g) i j k) _ (sym (running_is w r size pairs pages g i j k q c v) ∙ e) in
    let b = both (ltb i (pages_in g pairs pages) && ltb j (blocks_in g size)) (ltb k (acts_in g)) a.0 in
    let d = both (ltb i (pages_in g pairs pages)) (ltb j (blocks_in g size)) b.0 in
    record { page = ltb-true _ _ d.0; block = ltb-true _ _ d.1; act = ltb-true _ _ b.1; place = a.1 }

pub bounded_in_range : (w r size pairs pages : ℕ) (g : Stage) (i j k q c v : ℕ) → Bounded w r size pairs pages g i j k q c v
    → running_in_range w r size pairs pages g i j k q c v ≡ true
unfolding running_by
bounded_in_range w r size pairs pages g i j k q c v b =
    running_is w r size pairs pages g i j k q c v ∙ rw (lt-ltb _ _ b.page, lt-ltb _ _ b.block, lt-ltb _ _ b.act) b.place

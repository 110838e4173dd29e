-- Laws of the figure of the most steps to come: it is 0 exactly at an end, each reply taken lowers it, no
-- replies take more steps than it, and what a reply takes from it leaves the figure of the point after.
pub mod Start
pub mod Reached
use mathlib.Core.Path.{◌≡◌, refl, sym, ap}
use mathlib.Core.Bool.{Bool, true, false, cond}
use mathlib.Core.List.{List, [], ◌∷◌}
use Prim.Native.Nat.{ℕ, zero, suc, ◌+◌, ◌-◌, ◌*◌, ◌<◌, ◌≤◌}
use native.Mathlib.Numerals.{add-one}
use native.Mathlib.Omega.{arith}
use native.Mathlib.Decide.{dec_lt}
use borrow.Author.Tests.{lt-ltb, le-ltb}
use lib.Dec.{ltb, eqb}
use lib.ListN.{length, drop, drop_of_length-le}
use lib.Seq.{drop-cons}
use Rattle.numbers.specs.Numbers.{poll_limit_reached}
use Rattle.c2_wire.specs.Bits.{bits}
use Rattle.c2_wire.specs.Step.{released}
use Rattle.c2_wire.specs.Field.{STOP}
use Rattle.c2_wire.specs.Exchange.{steps, taken, Outcome, outcome}
use Rattle.c2_wire.specs.Frames.{Strobe, plain, sampled, waits, sends, ins_code, frame}
use Rattle.c2_wire.specs.Place.{place, strobe_at, follows, followed, longest, longest_rest, strobes_left, count_limit}
use Rattle.c2_wire.specs.declared.Frame.TheVariants.{AddressRead, DataRead}
use Rattle.c2_wire.specs.declared.Place.{Place}
use Rattle.c2_wire.specs.declared.Moved.{Moved}
use Rattle.c2_wire.specs.declared.Moved.TheVariants.{Within, Stopped, WaitLimit}
use Rattle.c2_wire.proofs.Laws.Exchange.{steps_taken}
use Rattle.c2_wire.proofs.Laws.Place.{Whole, Exists, first_left, followed_falls, followed_count, left_after, remaining_asks, waits_in}
use Rattle.c2_wire.proofs.Laws.Frames.{longest_address_read}
use Rattle.c2_order.specs.Acts.{Act, send, poll, expect}
use Rattle.c2_order.specs.Conversation.{Limits, Positive}
use Rattle.c2_order.specs.Point.{Point, running, ended, strobes_of, reads_of, begin, again, judged, settled, next, follow_up, left_to_say, reached}
use Rattle.c2_order.specs.Figure.{reads_left, cost, costs, figure, strobe_drop, stop_drop, moved_drop, drop_of}
use Rattle.c2_order.proofs.Laws.Valid.{whole_of, reads_positive, Valid, Polled, polled}
use Rattle.c2_order.proofs.Laws.Point.{next_says, next_valid}

-- at the first strobe of an act the figure is its cost and that of the acts after it
pub begin_figure : (l : Limits) → Positive l → (acts : List Act) → figure l (begin acts) ≡ costs l acts
unfolding begin figure costs cost reads_left strobes_of
begin_figure l h [] = refl
begin_figure l h (send ss ∷ acts) = omega (arith, first_left l.wait ss)
begin_figure l h (poll ok ∷ acts) =
    rw (first_left l.wait (frame AddressRead 0), longest_address_read l.wait 0) (omega (arith, h.reads))
begin_figure l h (expect x o ∷ acts) = omega (arith, first_left l.wait (frame DataRead 0))

reads_left_poll : (l : Limits) (ok : ℕ → Bool) (n : ℕ) → reads_left l (poll ok) n ≡ (l.reads - suc n) * 12
unfolding reads_left
reads_left_poll l ok n = rw (longest_address_read l.wait 0)

-- the most strobes left at the first strobe of a poll's later read
read_left : (l : Limits) (n : ℕ) → strobes_left l.wait (frame AddressRead 0) (place 0 n 0) ≡ 12
unfolding strobes_left longest_rest longest frame sends ins_code bits
read_left l n = refl

read_figure : (l : Limits) (ok : ℕ → Bool) (acts : List Act) (n : ℕ) → figure l (running (poll ok) acts (place 0 n 0)) ≡ 12 + (l.reads - suc n) * 12 + costs l acts
unfolding figure strobes_of
read_figure l ok acts n = rw (reads_left_poll, read_left l n)

-- the figure once a frame of the act has ended
judged_figure : (l : Limits) → Positive l → (a : Act) (acts : List Act) (n x : ℕ) → Polled l a n
    → figure l (judged l a acts n x) ≤ reads_left l a n + costs l acts
unfolding judged again figure reads_left
judged_figure l h (send ss) acts n x c = omega (arith, begin_figure l h acts)
judged_figure l h (poll ok) acts n x c = rw (longest_address_read l.wait 0) (go (ok x) (dec_lt (n + 1) l.reads))
  where
    go : (t : Bool) → Dec (n + 1 < l.reads)
        → figure l (cond t (begin acts) (cond (ltb (n + 1) l.reads) (running (poll ok) acts (place 0 (n + 1) 0)) (ended (outcome poll_limit_reached))))
        ≤ (l.reads - suc n) * 12 + costs l acts
    go true d = omega (arith, begin_figure l h acts)
    go false (yes y) = rw (lt-ltb (n + 1) l.reads y) (omega (arith, read_figure l ok acts (n + 1)))
    go false (no y) = rw (le-ltb (n + 1) l.reads (omega arith)) (omega arith)
judged_figure l h (expect y o) acts n x c = go (eqb x y)
  where
    go : (t : Bool) → figure l (cond t (begin acts) (ended o)) ≤ 0 + costs l acts
    go true = omega (arith, begin_figure l h acts)
    go false = omega arith

module _ (l : Limits) (h : Positive l) (a : Act) (acts : List Act) (p : Place) (v : Valid l (running a acts p)) where
  -- the reads that may follow do not change within a read
  reads_left_kept : (b : Bool) (q : Place) → followed l.wait (strobes_of a) p b ≡ Within q → reads_left l a q.count ≡ reads_left l a p.count
  unfolding reads_left strobes_of frame sends ins_code bits waits_in
  reads_left_kept b q e = go a e
    where
      go : (a : Act) → followed l.wait (strobes_of a) p b ≡ Within q → reads_left l a q.count ≡ reads_left l a p.count
      go (send ss) e = refl
      go (poll ok) e = ap (λ (n : ℕ). reads_left l (poll ok) n) (rw e at (followed_count l.wait (frame AddressRead 0) p b refl))
      go (expect x o) e = refl

  settled_falls : (b : Bool) (m : Moved) → followed l.wait (strobes_of a) p b ≡ m
      → figure l (settled l a acts p.count m) ≤ left_after l.wait (strobes_of a) m + reads_left l a p.count + costs l acts
  unfolding settled figure
  settled_falls b (Within q) e = omega (arith, reads_left_kept b q e)
  settled_falls b (Stopped x) e = omega (arith, judged_figure l h a acts p.count x (polled l a p v.2))
  settled_falls b WaitLimit e = omega arith

  bit_falls : (b : Bool) → figure l (settled l a acts p.count (followed l.wait (strobes_of a) p b)) < figure l (running a acts p)
  unfolding figure
  bit_falls b =
      omega (
        arith,
        settled_falls b (followed l.wait (strobes_of a) p b) refl,
        followed_falls l.wait (reads_of l a) (strobes_of a) (whole_of l a v.0) h.wait (reads_positive l a h) p b v.2,
      )

-- each reply taken lowers the figure by at least 1
pub next_falls : (l : Limits) → Positive l → (a : Act) (acts : List Act) (p : Place) → Valid l (running a acts p) → (r : ℕ)
    → figure l (next l (running a acts p) r) < figure l (running a acts p)
unfolding next figure
next_falls l h a acts p v zero = bit_falls l h a acts p v false
next_falls l h a acts p v (suc zero) = bit_falls l h a acts p v true
next_falls l h a acts p v (suc (suc r)) = omega (arith, bit_falls l h a acts p v true)

-- the figure is 0 exactly at an end
pub figure_ended : (l : Limits) (o : Outcome) → figure l (ended o) ≡ 0
unfolding figure
figure_ended l o = refl

pub figure_running : (l : Limits) → Positive l → (a : Act) (acts : List Act) (p : Place) → Valid l (running a acts p) → 0 < figure l (running a acts p)
figure_running l h a acts p v = omega (arith, next_falls l h a acts p v 0)

-- each reply taken of replies in a row lowers the figure by at least 1
pub row_falls : (l : Limits) → Positive l → (x : Point) → Valid l x → (rs : List ℕ) → figure l (reached l x rs) + taken (left_to_say l x) rs ≤ figure l x
unfolding taken steps left_to_say figure reached next
row_falls l h x v [] = omega arith
row_falls l h (ended o) v (r ∷ rs) = omega (arith, row_falls l h (ended o) v rs)
row_falls l h (running a acts p) v (r ∷ rs) =
    let x : Point = running a acts p in
    let node = remaining_asks l.wait (reads_of l a) (strobes_of a) p (follow_up l a acts p.count) v.2 in
    rw (steps_taken (left_to_say l x) r rs node.2, sym (next_says l h x v r))
    (omega (arith, row_falls l h (next l x r) (next_valid l h x v r) rs, next_falls l h a acts p v r))

-- where no zero of a WAIT is seen, the most strobes left are the most of the strobes that are left
longest_fresh : (w z : ℕ) (ss : List Strobe) (i : ℕ) → (0 < waits_in ss → z ≡ 0) → longest_rest w (drop i ss) z ≡ longest w (drop i ss)
unfolding longest_rest longest waits_in
longest_fresh w z [] zero h = refl
longest_fresh w z [] (suc i) h = refl
longest_fresh w z (plain f s ∷ ss) zero h = refl
longest_fresh w z (sampled f ∷ ss) zero h = refl
longest_fresh w z (waits ∷ ss) zero h = omega (arith, h (omega arith))
longest_fresh w z (plain f s ∷ ss) (suc i) h = longest_fresh w z ss i h
longest_fresh w z (sampled f ∷ ss) (suc i) h = longest_fresh w z ss i h
longest_fresh w z (waits ∷ ss) (suc i) h = longest_fresh w z ss i (λ _. h (omega arith))

-- what a reply takes from the most strobes left of a frame: `strobe_drop` within the frame, and 1 at its end
abbrev DropsTo : (wait_limit : ℕ) → List Strobe → Place → Bool → Moved → Type 0
DropsTo w ss p b (Within q) = strobe_drop w (strobe_at ss p.strobe) p.count b + strobes_left w ss q ≡ strobes_left w ss p
DropsTo w ss p b (Stopped x) = strobes_left w ss p ≡ 1
DropsTo w ss p b WaitLimit = Unit {0}

module _ (w r : ℕ) (ss : List Strobe) (f : Whole r ss) (p : Place) (v : Exists w r ss p) where
  -- the most strobes left, where x is the strobe of the place
  left_at : (x : Strobe) → strobe_at ss p.strobe ≡ x → strobes_left w ss p ≡ longest_rest w (x ∷ drop (suc p.strobe) ss) p.count
  unfolding strobes_left
  left_at x e = rw (drop-cons ss p.strobe (plain STOP released) v.inside, e)

  -- the most strobes left after a strobe outside a WAIT
  fresh_after : p.count < r → longest_rest w (drop (suc p.strobe) ss) p.count ≡ longest w (drop (suc p.strobe) ss)
  fresh_after c = longest_fresh w p.count ss (suc p.strobe) (λ g. omega (arith, f.calm g))

  -- a reply to a strobe x that is not the last
  follows_drops : (b : Bool) (x : Strobe) → strobe_at ss p.strobe ≡ x → p.count < count_limit w r x
      → DropsTo w ss p b (follows w ss x p b)
  unfolding follows strobes_left longest_rest longest count_limit strobe_drop
  follows_drops b (plain g s) e c = rw (e, add-one p.strobe) (omega (arith, left_at (plain g s) e, fresh_after c))
  follows_drops b (sampled g) e c = rw (e, add-one p.strobe) (omega (arith, left_at (sampled g) e, fresh_after c))
  follows_drops true waits e c =
      rw (e, add-one p.strobe) (omega (arith, left_at waits e, longest_fresh w 0 ss (suc p.strobe) (λ _. refl)))
  follows_drops false waits e c = go (dec_lt (p.count + 1) w)
    where
      go : Dec (p.count + 1 < w) → DropsTo w ss p false (follows w ss waits p false)
      go (yes y) = rw (lt-ltb (p.count + 1) w y, drop-cons ss p.strobe (plain STOP released) v.inside, e) (omega arith)
      go (no y) = rw (le-ltb (p.count + 1) w (omega arith)) tt

  -- a reply to any strobe of the frame
  followed_drops : (b : Bool) → DropsTo w ss p b (followed w ss p b)
  unfolding followed longest_rest longest
  followed_drops b = go (dec_lt (p.strobe + 1) (length ss))
    where
      go : Dec (p.strobe + 1 < length ss) → DropsTo w ss p b (followed w ss p b)
      go (yes y) = rw (lt-ltb (p.strobe + 1) (length ss) y) (follows_drops b (strobe_at ss p.strobe) refl v.counted)
      go (no y) =
          let last = f.ends p.strobe (omega (arith, v.inside)) in
          let none_after : drop (suc p.strobe) ss ≡ [] = drop_of_length-le ss {i = suc p.strobe} (omega arith) in
          rw (le-ltb (p.strobe + 1) (length ss) (omega arith), left_at (plain last.0 last.1) last.2, none_after)

-- what the reply to the STOP of an act's frame takes from the figure
judged_drops : (l : Limits) → Positive l → (a : Act) (acts : List Act) (n x whole : ℕ) → whole ≡ 1 + reads_left l a n + costs l acts
    → stop_drop l a n x whole + figure l (judged l a acts n x) ≡ whole
unfolding judged again figure reads_left stop_drop
judged_drops l h (send ss) acts n x whole e = omega (arith, begin_figure l h acts)
judged_drops l h (poll ok) acts n x whole e = go (ok x) refl (dec_lt (n + 1) l.reads)
  where
    go : (t : Bool) → ok x ≡ t → Dec (n + 1 < l.reads) → stop_drop l (poll ok) n x whole + figure l (judged l (poll ok) acts n x) ≡ whole
    go true g d = rw g (omega (arith, begin_figure l h acts))
    go false g (yes y) = rw (g, lt-ltb (n + 1) l.reads y) (omega (arith, read_figure l ok acts (n + 1), reads_left_poll l ok n))
    go false g (no y) = rw (g, le-ltb (n + 1) l.reads (omega arith)) (omega arith)
judged_drops l h (expect y o) acts n x whole e = go (eqb x y) refl
  where
    go : (t : Bool) → eqb x y ≡ t → stop_drop l (expect y o) n x whole + figure l (judged l (expect y o) acts n x) ≡ whole
    go true g = rw g (omega (arith, begin_figure l h acts))
    go false g = rw g (omega arith)

module _ (l : Limits) (h : Positive l) (a : Act) (acts : List Act) (p : Place) (v : Valid l (running a acts p)) where
  settled_drops : (b : Bool) (m : Moved) → followed l.wait (strobes_of a) p b ≡ m → DropsTo l.wait (strobes_of a) p b m
      → moved_drop l a p b (figure l (running a acts p)) m + figure l (settled l a acts p.count m) ≡ figure l (running a acts p)
  unfolding settled figure moved_drop
  settled_drops b (Within q) e d = omega (arith, d, reads_left_kept l h a acts p v b q e)
  settled_drops b (Stopped x) e d = judged_drops l h a acts p.count x _ (omega (arith, d))
  settled_drops b WaitLimit e d = omega arith

  bit_drops : (b : Bool)
      → moved_drop l a p b (figure l (running a acts p)) (followed l.wait (strobes_of a) p b)
      + figure l (settled l a acts p.count (followed l.wait (strobes_of a) p b))
      ≡ figure l (running a acts p)
  bit_drops b = settled_drops b _ refl (followed_drops l.wait (reads_of l a) (strobes_of a) (whole_of l a v.0) p v.2 b)

-- what a reply takes from the figure leaves the figure of the point after it
pub next_drops : (l : Limits) → Positive l → (x : Point) → Valid l x → (r : ℕ) → drop_of l x r + figure l (next l x r) ≡ figure l x
unfolding next figure drop_of
next_drops l h (ended o) v r = refl
next_drops l h (running a acts p) v zero = bit_drops l h a acts p v false
next_drops l h (running a acts p) v (suc zero) = bit_drops l h a acts p v true
next_drops l h (running a acts p) v (suc (suc r)) = omega arith

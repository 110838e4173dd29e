-- A reply turns a session into its successor as it moves the point of the order.
use mathlib.Core.Path.{◌≡◌, refl, sym, ap, ◌∙◌}
use mathlib.Core.Bool.{Bool, true, false, not, cond, ◌&&◌}
use mathlib.Core.List.{List, [], ◌∷◌}
use Prim.Native.Nat.{ℕ, zero, suc, ◌+◌, ◌*◌, ◌/◌, ◌%◌, ◌<◌, ◌≤◌}
use native.Mathlib.Nat.{mod-eq_of_lt, mul-div_cancel_left, mul_comm, mul-zero}
use native.Mathlib.Omega.{arith}
use native.Mathlib.Decide.{dec_lt}
use borrow.Author.Tests.{lt-ltb, le-ltb, eqb-true}
use lib.Dec.{eqb, ltb}
use lib.ListN.{length}
use Rattle.laws.proofs.Below.{upto, same_below}
use Rattle.laws.proofs.Tests.{both}
use Rattle.c2_wire.specs.Bits.{odd}
use Rattle.c2_wire.specs.Step.{Step, reset, pause}
use Rattle.c2_wire.specs.Field.{Field, RESET, PAUSE}
use Rattle.c2_wire.specs.Frames.{plain}
use Rattle.c2_wire.specs.Place.{place, followed}
use Rattle.c2_wire.specs.declared.Frame.TheVariants.{AddressWrite, DataWrite}
use Rattle.c2_wire.specs.declared.Place.{Place}
use Rattle.c2_wire.specs.declared.Moved.{Moved}
use Rattle.c2_wire.specs.declared.Moved.TheVariants.{Within, Stopped, WaitLimit}
use Rattle.c2_wire.proofs.Laws.Script.{followed_any_byte}
use Rattle.c2_order.specs.Acts.{Act, input_taken, output_ready}
use Rattle.c2_order.specs.Conversation.{Limits, limits_of}
use Rattle.c2_order.specs.Point.{begin, strobes_of}
use Rattle.settings.specs.Opening.{opening_refusal}
use Rattle.settings.specs.Registers.{is_tidy}
use Rattle.settings.proofs.Laws.Opening.{Opened, opened}
use Rattle.c2_acts.specs.declared.Stage.{Stage}
use Rattle.c2_acts.specs.declared.Stage.TheVariants.{Lead, Erase, Write, Read, Close, Register}
use Rattle.c2_acts.specs.declared.Task.{Task}
use Rattle.c2_acts.specs.declared.Task.TheVariants.{Reset, Pause, Address, Send, Input, Output, Ident, Status, Compare}
use Rattle.c2_session.specs.declared.At.{At}
use Rattle.c2_session.specs.declared.Point.TheVariants.{Running, Ended}
use Rattle.c2_session.specs.declared.Session.{Session}
use Rattle.c2_acts.specs.Code.Acts.{task_of, acts_in}
use Rattle.c2_session.specs.Code.Bytes.{image_byte, compared_offset}
use Rattle.c2_session.specs.Code.Next.{act_at, strobe_point, next_act}
use Rattle.c2_session.specs.Code.Judge.{read_again, differs, compared, frame_judged, frame_answered}
use Rattle.c2_session.specs.Code.Advance.{task_taken}
use Rattle.c2_range.specs.Range.{pages_in, blocks_in, point_in_range, in_range}
use Rattle.c2_position.specs.Position.{page_list, pages_from, writes_from, reads_from, registers_from, at_act, point_position, position}
use Rattle.c2_range.proofs.Laws.Acts.{task_act}
use Rattle.c2_range.proofs.Laws.Bounds.{bounded}
use Rattle.c2_position.proofs.Laws.Position.{Fits, act_here, act_byte, page_kept, page_inside, block_inside, image_small}
use Rattle.c2_position.proofs.Laws.Onward.{rest_from, acts_here, goes_on}
use Rattle.c2_order.specs.Point
use Rattle.c2_session.specs.Code.Advance

input_test : (x : ℕ) → eqb (x / 2 % 2) 0 ≡ input_taken x
unfolding input_taken odd
input_test x = go (x / 2 % 2) (omega arith)
  where
    go : (m : ℕ) → m < 2 → eqb m 0 ≡ not (eqb m 1)
    go zero h = refl
    go (suc zero) h = refl
    go (suc (suc m)) h = absurd (omega arith)

-- only a block read compares, from its act 14 on
is_compare : Task → Bool
is_compare = elim [ Reset ↦ false | Pause ↦ false | Address ↦ false | Send ↦ false | Input ↦ false | Output ↦ false | Ident ↦ false | Status ↦ false | Compare ↦ true ]

none_below : (f : ℕ → Task) (n : ℕ) → upto (λ m. is_compare (f m)) n ≡ upto (λ m. false) n → (k : ℕ) → k < n → f k ≡ Compare → ⊥
unfolding is_compare
none_below f n e k h q =
    let p : is_compare (f k) ≡ false = same_below (λ m. is_compare (f m)) (λ m. false) n e k h in
    let z : true ≡ false = sym (ap is_compare q) ∙ p in
    let y : ◌≡◌ {A = ℕ} 0 1 = cc in omega arith

abbrev pub Compares : Stage → ℕ → Type 0
Compares Lead k = ⊥
Compares Erase k = ⊥
Compares Write k = ⊥
Compares Read k = 14 ≤ k
Compares Close k = ⊥
Compares Register k = ⊥

pub compares_late : (g : Stage) (k : ℕ) → k < acts_in g → task_of g k ≡ Compare → Compares g k
unfolding is_compare
compares_late Lead k h q = none_below (task_of Lead) 8 refl k h q
compares_late Erase k h q = none_below (task_of Erase) 13 refl k h q
compares_late Write k h q = none_below (task_of Write) 525 refl k h q
compares_late Read k h q = go (dec_lt k 14)
  where
    go : Dec (k < 14) → 14 ≤ k
    go (yes y) = absurd (none_below (task_of Read) 14 refl k y q)
    go (no y) = omega arith
compares_late Close k h q = none_below (task_of Close) 1 refl k h q
compares_late Register k h q = none_below (task_of Register) 2 refl k h q

-- a compare is one of a block read, so that its byte is the order's, at an offset inside the image
pub compares_there : (s : Session) (image : List ℕ) (h : Fits s image) (g : Stage) (i j k : ℕ) → i < pages_in g s.settings.pairs.count s.pages → j < blocks_in g s.settings.size
    → k < acts_in g → Compares g k
    → (image_byte image (compared_offset s (act_at g i j k)) ≡ act_byte s image h g (act_at g i j k)) × (compared_offset s (act_at g i j k) < length image)
unfolding compared_offset
compares_there s image h Read i j k gi gj gk c = (
  rw (le-ltb k 11 (omega arith)),
  rw (page_kept s image h i gi) (omega (arith, page_inside s image h i gi, block_inside s image h j gj)),
)
compares_there s image h Lead i j k gi gj gk c = absurd c
compares_there s image h Erase i j k gi gj gk c = absurd c
compares_there s image h Write i j k gi gj gk c = absurd c
compares_there s image h Close i j k gi gj gk c = absurd c
compares_there s image h Register i j k gi gj gk c = absurd c

-- a step that stands in no frame is over at its reply
step_over : (w : ℕ) (f : Field) (x : Step) (p : Place) (b : Bool) → followed w (plain f x ∷ []) p b ≡ Stopped p.bits
unfolding followed
step_over w f x p b = rw (le-ltb (p.strobe + 1) 1 (omega arith))

module _ (s : Session) (image : List ℕ) (h : Fits s image) (l : Limits)
    (g : Stage) (i j k : ℕ) (gi : i < pages_in g s.settings.pairs.count s.pages) (gj : j < blocks_in g s.settings.size) (gk : k < acts_in g) where
  abbrev a : At
  a = act_at g i j k

  abbrev here : Act
  here = act_here s image h g (act_at g i j k)

  abbrev after : List Act
  after = rest_from s image h g i j k

  -- another strobe of the act's frame stays at the act of the order
  stays_here : (p : Place) → point_position s image (strobe_point (act_at g i j k) p) ≡ Point.running here after p
  unfolding point_position
  stays_here p = ap (λ (x : List Act). at_act x p) (acts_here s image h g i j k gi gj gk)

  onward_here : point_position s image (next_act s (act_at g i j k)) ≡ begin after
  onward_here = sym (goes_on s image h g i j k gi gj gk)

  cond_position : (t : Bool) (x y : Rattle.c2_session.specs.declared.Point.Point) (u v : Point.Point)
      → point_position s image x ≡ u → point_position s image y ≡ v → point_position s image (cond t x y) ≡ cond t u v
  cond_position true x y u v p q = p
  cond_position false x y u v p q = q

  again_here : (n : ℕ) → point_position s image (read_again l.reads (act_at g i j k) n) ≡ Point.again l here after n
  unfolding read_again Point.again point_position
  again_here n = cond_position (ltb (n + 1) l.reads) _ _ _ _ (stays_here (place 0 (n + 1) 0)) refl

  again_as : (t : Task) → task_of g k ≡ t → (n : ℕ)
      → point_position s image (read_again l.reads (act_at g i j k) n) ≡ Point.again l (task_act t (act_byte s image h g a) s.settings.id (compared_offset s a)) after n
  again_as t q n =
      again_here n ∙ ap (λ (x : Task). Point.again l (task_act x (act_byte s image h g a) s.settings.id (compared_offset s a)) after n) q

  -- the point after a frame of the act has ended with a byte
  judged_here : (t : Task) → task_of g k ≡ t → (n x : ℕ)
      → point_position s image (frame_judged l.reads t s (act_at g i j k) n x image) ≡ Point.judged l (task_act t (act_byte s image h g a) s.settings.id (compared_offset s a)) after n x
  unfolding Point.judged compared differs point_position output_ready odd
  judged_here Reset q n x = onward_here
  judged_here Pause q n x = onward_here
  judged_here Address q n x = onward_here
  judged_here Send q n x = onward_here
  judged_here Input q n x = rw (input_test x) (cond_position (input_taken x) _ _ _ _ onward_here (again_as Input q n))
  judged_here Output q n x = cond_position (eqb (x % 2) 1) _ _ _ _ onward_here (again_as Output q n)
  judged_here Ident q n x = cond_position (eqb x s.settings.id) _ _ _ _ onward_here refl
  judged_here Status q n x = cond_position (eqb x 13) _ _ _ _ onward_here refl
  judged_here Compare q n x =
      let c = compares_there s image h g i j k gi gj gk (compares_late g k gk q) in
      let m : compared_offset s (act_at g i j k) % 4294967296 ≡ compared_offset s (act_at g i j k) = mod-eq_of_lt (omega (arith, c.1, image_small s image h)) in
      rw c.0 (cond_position (eqb x (act_byte s image h g a)) _ _ _ _ onward_here (rw m))

  settled_here : (t : Task) → task_of g k ≡ t → (n : ℕ) (m : Moved)
      → point_position s image (frame_answered l.reads m t s (act_at g i j k) n image) ≡ Point.settled l (task_act t (act_byte s image h g a) s.settings.id (compared_offset s a)) after n m
  unfolding Point.settled point_position
  settled_here t q n (Within p) =
      stays_here p ∙ ap (λ (x : Task). Point.running (task_act x (act_byte s image h g a) s.settings.id (compared_offset s a)) after p) q
  settled_here t q n (Stopped x) = judged_here t q n x
  settled_here t q n WaitLimit = refl

  -- the point after a reply of 0 or 1
  framed_here : (t : Task) → task_of g k ≡ t → (p : Place) (b : Bool) (m : Moved)
      → followed l.wait (strobes_of (task_act t (act_byte s image h g a) s.settings.id (compared_offset s a))) p b ≡ m
      → point_position s image (frame_answered l.reads m t s (act_at g i j k) p.count image)
      ≡ Point.settled l (task_act t (act_byte s image h g a) s.settings.id (compared_offset s a)) after p.count
      (followed l.wait (strobes_of (task_act t (act_byte s image h g a) s.settings.id (compared_offset s a))) p b)
  framed_here t q p b m e = rw e (settled_here t q p.count m)

  taken_here : (t : Task) → task_of g k ≡ t → (p : Place) (b : Bool)
      → point_position s image (task_taken l t s (act_at g i j k) p b image)
      ≡ Point.settled l (task_act t (act_byte s image h g a) s.settings.id (compared_offset s a)) after p.count
      (followed l.wait (strobes_of (task_act t (act_byte s image h g a) s.settings.id (compared_offset s a))) p b)
  unfolding strobes_of Point.settled Point.judged
  taken_here Reset q p b = rw (step_over l.wait RESET reset p b) onward_here
  taken_here Pause q p b = rw (step_over l.wait PAUSE pause p b) onward_here
  taken_here Address q p b = framed_here Address q p b _ (followed_any_byte AddressWrite (act_byte s image h g a) 0 l.wait p b)
  taken_here Send q p b = framed_here Send q p b _ (followed_any_byte DataWrite (act_byte s image h g a) 0 l.wait p b)
  taken_here Input q p b = framed_here Input q p b _ refl
  taken_here Output q p b = framed_here Output q p b _ refl
  taken_here Ident q p b = framed_here Ident q p b _ refl
  taken_here Status q p b = framed_here Status q p b _ refl
  taken_here Compare q p b = framed_here Compare q p b _ refl

  -- the point of the order after any reply at this point of the session
  pub replied_here : (p : Place) (x : ℕ)
      → point_position s image (Advance.point_replied l s (act_at g i j k) p x image) ≡ Point.next l (point_position s image (strobe_point (act_at g i j k) p)) x
  unfolding Advance.point_replied Point.next point_position
  replied_here p zero = rw (acts_here s image h g i j k gi gj gk) (taken_here (task_of g k) refl p false)
  replied_here p (suc zero) = rw (acts_here s image h g i j k gi gj gk) (taken_here (task_of g k) refl p true)
  replied_here p (suc (suc x)) = rw (acts_here s image h g i j k gi gj gk, lt-ltb 1 (suc (suc x)) (omega arith))

some_factor : (a b : ℕ) → 1 ≤ a * b → 1 ≤ b
some_factor a zero h = absurd (omega (arith, mul-zero a))
some_factor a (suc b) h = omega arith

-- what in-range says of a session and an image of its length
pub fits_of : (s : Session) (image : List ℕ) → in_range s ≡ true → length image ≡ s.settings.size * s.pages → Fits s image
unfolding in_range
fits_of s image e l =
    let b = both _ _ e in
    let o : Opened s.settings s.first (s.settings.size * s.pages) = opened s.settings s.first (s.settings.size * s.pages) (eqb-true _ 0 (both _ _ b.0).0) in
    let n : s.settings.size * s.pages / s.settings.size ≡ s.pages = mul-div_cancel_left s.pages (omega (arith, o.settings.size, o.settings.some)) in
    record { settings = o.settings; some = some_factor s.settings.size s.pages o.some; inside = rw n at o.inside; whole = l ∙ mul_comm s.settings.size s.pages }

-- the point of the order that a point names goes by the session's settings and pages alone (`position_keeps`)
abbrev pub SessionPoint : Type 0
SessionPoint = Rattle.c2_session.specs.declared.Point.Point

pub position_keeps : (s : Session) (y : SessionPoint) (image : List ℕ) (z : SessionPoint) → point_position (Advance.with_point s y) image z ≡ point_position s image z
unfolding point_position pages_from writes_from reads_from registers_from page_list
position_keeps s y image (Running Lead i j k q c v) = refl
position_keeps s y image (Running Erase i j k q c v) = refl
position_keeps s y image (Running Write i j k q c v) = refl
position_keeps s y image (Running Read i j k q c v) = refl
position_keeps s y image (Running Close i j k q c v) = refl
position_keeps s y image (Running Register i j k q c v) = refl
position_keeps s y image (Ended n o) = refl

pub point_of : (s : Session) → in_range s ≡ true → point_in_range (limits_of s.settings) s.settings.size s.settings.pairs.count s.pages s.point ≡ true
unfolding in_range
point_of s e =
    (both (eqb (opening_refusal s.settings s.first (s.settings.size * s.pages)) 0 && is_tidy s.settings.pairs) (point_in_range (limits_of s.settings) s.settings.size s.settings.pairs.count s.pages s.point) e).1

-- the session after a reply stands at the next point
pub advances : (s : Session) (image : List ℕ) → in_range s ≡ true → length image ≡ s.settings.size * s.pages → (x : ℕ)
    → position (Advance.advanced s x image) image ≡ Point.next (limits_of s.settings) (position s image) x
unfolding Advance.advanced Point.next point_position
advances s image e l x =
    position_keeps s (Advance.point_advanced (limits_of s.settings) s.point s x image) image (Advance.point_advanced (limits_of s.settings) s.point s x image)
    ∙ go s.point (point_of s e)
  where
    w : ℕ
    w = (limits_of s.settings).wait

    r : ℕ
    r = (limits_of s.settings).reads

    go : (y : SessionPoint) → point_in_range (limits_of s.settings) s.settings.size s.settings.pairs.count s.pages y ≡ true
        → point_position s image (Advance.point_advanced (limits_of s.settings) y s x image) ≡ Point.next (limits_of s.settings) (point_position s image y) x
    go (Running g i j k q c v) f =
        let n = bounded w r s.settings.size s.settings.pairs.count s.pages g i j k q c v f in
        replied_here s image (fits_of s image e l) (limits_of s.settings) g i j k n.page n.block n.act (place q c v) x
    go (Ended n o) f = refl

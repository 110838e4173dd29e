-- A session in range stays in range, whatever the replies.
use mathlib.Core.Path.{◌≡◌, refl}
use mathlib.Core.Bool.{Bool, true, false, cond, ◌&&◌}
use mathlib.Core.List.{List}
use Prim.Native.Nat.{ℕ, ◌+◌, ◌*◌, ◌/◌, ◌%◌, ◌^◌, ◌<◌}
use native.Mathlib.Nat.{mod-eq_of_lt, mul_comm}
use native.Mathlib.Omega.{arith}
use native.Mathlib.Decide.{dec_lt}
use borrow.Author.Tests.{lt-ltb, le-ltb, ltb-true}
use lib.Dec.{eqb, ltb}
use lib.ListN.{length, take}
use Rattle.laws.proofs.Tests.{both}
use Rattle.numbers.specs.Numbers.{bad_reply, other_device, bad_status, compare_differs}
use Rattle.c2_wire.specs.Bits.{bits}
use Rattle.c2_wire.specs.Frames.{Strobe, sends, ins_code, frame}
use Rattle.c2_wire.specs.Place.{place, strobe_at, samples, count_limit, followed}
use Rattle.c2_wire.specs.declared.Frame.TheVariants.{AddressRead}
use Rattle.c2_wire.specs.declared.Place.{Place}
use Rattle.c2_wire.specs.declared.Moved.{Moved}
use Rattle.c2_wire.specs.declared.Moved.TheVariants.{Within, Stopped, WaitLimit}
use Rattle.c2_wire.proofs.Laws.Place.{Whole, Exists, ExistsAfter, followed_exists, first_exists}
use Rattle.c2_wire.proofs.Laws.Frames.{whole_address_write, whole_address_read, whole_data_write, whole_data_read, whole_step}
use Rattle.settings.specs.Opening.{opening_refusal}
use Rattle.settings.specs.Registers.{is_tidy}
use Rattle.c2_acts.specs.declared.Stage.{Stage}
use Rattle.c2_acts.specs.declared.Stage.TheVariants.{Lead, Erase, Write, Read, Close, Register}
use Rattle.c2_acts.specs.declared.Task.{Task}
use Rattle.c2_acts.specs.declared.Task.TheVariants.{Reset, Pause, Address, Send, Input, Output, Ident, Status, Compare}
use Rattle.c2_session.specs.declared.Point.{Point}
use Rattle.c2_session.specs.declared.Point.TheVariants.{Running, Ended}
use Rattle.c2_session.specs.declared.Session.{Session}
use Rattle.c2_acts.specs.Code.Acts.{task_of, acts_in}
use Rattle.c2_session.specs.Code.Bytes.{compared_offset}
use Rattle.c2_session.specs.Code.Next.{act_at, strobe_point, first_strobe, next_write, next_page, next_read, next_register, next_stage, next_act}
use Rattle.c2_session.specs.Code.Judge.{read_again, differs, compared, frame_judged, frame_answered}
use Rattle.c2_order.specs.Conversation.{Positive, limits, limits_of}
use Rattle.c2_order.proofs.Laws.Conversation.{limits_positive}
use Rattle.c2_session.specs.Code.Advance.{task_taken, point_replied, point_advanced, advanced}
use Rattle.c2_range.specs.Code.Bounds.{strobes_in, reads_in}
use Rattle.c2_range.proofs.Laws.Bounds.{bounded, bounded_in_range}
use Rattle.c2_range.specs.Range.{pages_in, blocks_in, place_in_range, ends_session, offsets_of, ended_in_range, point_in_range, in_range}
use Rattle.c2_position.proofs.Laws.Position.{Fits, image_small}
use Rattle.c2_position.proofs.Laws.Advanced.{fits_of, point_of, compares_late, compares_there}

-- the strobes of an act are a frame
pub whole_in : (r : ℕ) (t : Task) → Whole (reads_in r t) (strobes_in t)
whole_in r Reset = whole_step _ _
whole_in r Pause = whole_step _ _
whole_in r Address = whole_address_write 0
whole_in r Send = whole_data_write 0
whole_in r Input = whole_address_read r 0
whole_in r Output = whole_address_read r 0
whole_in r Ident = whole_data_read 0
whole_in r Status = whole_data_read 0
whole_in r Compare = whole_data_read 0

some_in : (t : Task) → 0 < length (strobes_in t)
unfolding frame sends ins_code bits
some_in Reset = omega arith
some_in Pause = omega arith
some_in Address = omega arith
some_in Send = omega arith
some_in Input = omega arith
some_in Output = omega arith
some_in Ident = omega arith
some_in Status = omega arith
some_in Compare = omega arith

reads_some : (r : ℕ) → 0 < r → (t : Task) → 0 < reads_in r t
reads_some r h Reset = omega arith
reads_some r h Pause = omega arith
reads_some r h Address = omega arith
reads_some r h Send = omega arith
reads_some r h Input = h
reads_some r h Output = h
reads_some r h Ident = omega arith
reads_some r h Status = omega arith
reads_some r h Compare = omega arith

-- a place in range exists in the frame (`place_exists`), and the other way round (`exists_place`)
pub place_exists : (w r : ℕ) (ss : List Strobe) (p : Place) → place_in_range w r ss p.strobe p.count p.bits ≡ true → Exists w r ss p
unfolding place_in_range
place_exists w r ss p e =
    let a = both (ltb p.strobe (length ss) && ltb p.count (count_limit w r (strobe_at ss p.strobe))) (ltb p.bits (2 ^ samples (take p.strobe ss))) e in
    let b = both (ltb p.strobe (length ss)) (ltb p.count (count_limit w r (strobe_at ss p.strobe))) a.0 in
    record { inside = ltb-true _ _ b.0; counted = ltb-true _ _ b.1; sampled_only = ltb-true _ _ a.1 }

pub exists_place : (w r : ℕ) (ss : List Strobe) (p : Place) → Exists w r ss p → place_in_range w r ss p.strobe p.count p.bits ≡ true
unfolding place_in_range
exists_place w r ss p h = rw (lt-ltb _ _ h.inside, lt-ltb _ _ h.counted, lt-ltb _ _ h.sampled_only)

read_exists : (w r n : ℕ) → n < r → Exists w r (frame AddressRead 0) (place 0 n 0)
unfolding frame sends ins_code bits count_limit samples
read_exists w r n h = record { inside = omega arith; counted = h; sampled_only = omega arith }

module _ (w r : ℕ) (hw : 0 < w) (hr : 0 < r) (s : Session) (image : List ℕ) (h : Fits s image) where
  abbrev In : Point → Type 0
  In y = point_in_range (limits w r) s.settings.size s.settings.pairs.count s.pages y ≡ true

  cond_in : (t : Bool) (x y : Point) → In x → In y → In (cond t x y)
  cond_in true x y p q = p
  cond_in false x y p q = q

  pub running_in : (g : Stage) (i j k : ℕ) (p : Place) → i < pages_in g s.settings.pairs.count s.pages → j < blocks_in g s.settings.size → k < acts_in g
      → Exists w (reads_in r (task_of g k)) (strobes_in (task_of g k)) p → In (strobe_point (act_at g i j k) p)
  running_in g i j k p gi gj gk e =
      bounded_in_range w r s.settings.size s.settings.pairs.count s.pages g i j k p.strobe p.count p.bits
      (record { page = gi; block = gj; act = gk; place = exists_place w (reads_in r (task_of g k)) (strobes_in (task_of g k)) p e })

  begins_in : (g : Stage) (i j k : ℕ) → i < pages_in g s.settings.pairs.count s.pages → j < blocks_in g s.settings.size → k < acts_in g → In (first_strobe g i j k)
  begins_in g i j k gi gj gk =
      let t : Task = task_of g k in
      running_in g i j k (place 0 0 0) gi gj gk (first_exists w (reads_in r t) (strobes_in t) (whole_in r t) hw (reads_some r hr t) (some_in t))

  blocks_some : 0 < s.settings.size / 256
  blocks_some = omega (arith, h.settings.size, h.settings.some)

  acts_some : (g : Stage) → 0 < acts_in g
  acts_some Lead = omega arith
  acts_some Erase = omega arith
  acts_some Write = omega arith
  acts_some Read = omega arith
  acts_some Close = omega arith
  acts_some Register = omega arith

  register_in : (i : ℕ) → In (next_register s i)
  unfolding next_register
  register_in i = go (dec_lt i s.settings.pairs.count)
    where
      go : Dec (i < s.settings.pairs.count) → In (next_register s i)
      go (yes y) = rw (lt-ltb i s.settings.pairs.count y) (begins_in Register i 0 0 y (omega arith) (omega arith))
      go (no y) = rw (le-ltb i s.settings.pairs.count (omega arith)) (begins_in Erase 0 0 0 h.some (omega arith) (omega arith))

  stage_in : (g : Stage) (i j k : ℕ) → i < pages_in g s.settings.pairs.count s.pages → j < blocks_in g s.settings.size → In (next_stage g s (act_at g i j k))
  unfolding next_write next_read next_page ended_in_range ends_session offsets_of
  stage_in Lead i j k gi gj = register_in 0
  stage_in Erase i j k gi gj = begins_in Write i 0 0 gi blocks_some (omega arith)
  stage_in Write i j k gi gj = go (dec_lt (j + 1) (s.settings.size / 256))
    where
      go : Dec (j + 1 < s.settings.size / 256) → In (next_stage Write s (act_at Write i j k))
      go (yes y) = rw (lt-ltb _ _ y) (begins_in Write i (j + 1) 0 gi y (omega arith))
      go (no y) = rw (le-ltb (j + 1) (s.settings.size / 256) (omega arith)) (begins_in Read i 0 0 gi blocks_some (omega arith))
  stage_in Read i j k gi gj = go (dec_lt (j + 1) (s.settings.size / 256)) (dec_lt (i + 1) s.pages)
    where
      go : Dec (j + 1 < s.settings.size / 256) → Dec (i + 1 < s.pages) → In (next_stage Read s (act_at Read i j k))
      go (yes y) z = rw (lt-ltb _ _ y) (begins_in Read i (j + 1) 0 gi y (omega arith))
      go (no y) (yes z) =
          rw (le-ltb (j + 1) (s.settings.size / 256) (omega arith), lt-ltb _ _ z) (begins_in Erase (i + 1) 0 0 z (omega arith) (omega arith))
      go (no y) (no z) =
          rw (le-ltb (j + 1) (s.settings.size / 256) (omega arith), le-ltb (i + 1) s.pages (omega arith)) (begins_in Close 0 0 0 (omega arith) (omega arith) (omega arith))
  stage_in Close i j k gi gj = refl
  stage_in Register i j k gi gj = register_in (i + 1)

  pub onward_in : (g : Stage) (i j k : ℕ) → i < pages_in g s.settings.pairs.count s.pages → j < blocks_in g s.settings.size → k < acts_in g → In (next_act s (act_at g i j k))
  unfolding next_act
  onward_in g i j k gi gj gk = go (dec_lt (k + 1) (acts_in g))
    where
      go : Dec (k + 1 < acts_in g) → In (next_act s (act_at g i j k))
      go (yes y) = rw (lt-ltb _ _ y) (begins_in g i j (k + 1) gi gj y)
      go (no y) = rw (le-ltb (k + 1) (acts_in g) (omega arith)) (stage_in g i j k gi gj)

  module _ (g : Stage) (i j k : ℕ) (gi : i < pages_in g s.settings.pairs.count s.pages) (gj : j < blocks_in g s.settings.size) (gk : k < acts_in g) where
    -- a poll's next read is in range
    again_in : (t : Task) → task_of g k ≡ t → reads_in r t ≡ r → strobes_in t ≡ frame AddressRead 0 → (n : ℕ) → In (read_again r (act_at g i j k) n)
    unfolding read_again ended_in_range ends_session offsets_of
    again_in t q e f n = go (dec_lt (n + 1) r)
      where
        go : Dec (n + 1 < r) → In (read_again r (act_at g i j k) n)
        go (yes y) = rw (lt-ltb _ _ y) (running_in g i j k (place 0 (n + 1) 0) gi gj gk (rw (q, e, f) (read_exists w r (n + 1) y)))
        go (no y) = rw (le-ltb (n + 1) r (omega arith)) refl

    judged_in : (t : Task) → task_of g k ≡ t → (n x : ℕ) → In (frame_judged r t s (act_at g i j k) n x image)
    unfolding ended_in_range ends_session offsets_of compared differs
    judged_in Reset q n x = onward_in g i j k gi gj gk
    judged_in Pause q n x = onward_in g i j k gi gj gk
    judged_in Address q n x = onward_in g i j k gi gj gk
    judged_in Send q n x = onward_in g i j k gi gj gk
    judged_in Input q n x = cond_in (eqb (x / 2 % 2) 0) (next_act s (act_at g i j k)) (read_again r (act_at g i j k) n) (onward_in g i j k gi gj gk) (again_in Input q refl refl n)
    judged_in Output q n x = cond_in (eqb (x % 2) 1) (next_act s (act_at g i j k)) (read_again r (act_at g i j k) n) (onward_in g i j k gi gj gk) (again_in Output q refl refl n)
    judged_in Ident q n x = cond_in (eqb x s.settings.id) (next_act s (act_at g i j k)) (Ended other_device 0) (onward_in g i j k gi gj gk) refl
    judged_in Status q n x = cond_in (eqb x 13) (next_act s (act_at g i j k)) (Ended bad_status 0) (onward_in g i j k gi gj gk) refl
    judged_in Compare q n x =
        let c = compares_there s image h g i j k gi gj gk (compares_late g k gk q) in
        let m : compared_offset s (act_at g i j k) % 4294967296 ≡ compared_offset s (act_at g i j k) = mod-eq_of_lt (omega (arith, c.1, image_small s image h)) in
        rw c.0 (cond_in (eqb x _) (next_act s (act_at g i j k)) (Ended compare_differs (compared_offset s (act_at g i j k) % 4294967296)) (onward_in g i j k gi gj gk)
        (rw m (lt-ltb (compared_offset s (act_at g i j k)) (s.settings.size * s.pages) (omega (arith, c.1, h.whole, mul_comm s.settings.size s.pages)))))

    settled_in : (t : Task) → task_of g k ≡ t → (n : ℕ) (m : Moved) → ExistsAfter w (reads_in r t) (strobes_in t) m → In (frame_answered r m t s (act_at g i j k) n image)
    unfolding ended_in_range ends_session offsets_of
    settled_in t q n (Within p) e = running_in g i j k p gi gj gk (rw q e)
    settled_in t q n (Stopped x) e = judged_in t q n x
    settled_in t q n WaitLimit e = refl

    framed_in : (t : Task) → task_of g k ≡ t → (p : Place) (b : Bool) → Exists w (reads_in r t) (strobes_in t) p
        → In (frame_answered r (followed w (strobes_in t) p b) t s (act_at g i j k) p.count image)
    framed_in t q p b e =
        settled_in t q p.count (followed w (strobes_in t) p b)
        (followed_exists w (reads_in r t) (strobes_in t) (whole_in r t) hw (reads_some r hr t) p b e)

    taken_in : (t : Task) → task_of g k ≡ t → (p : Place) (b : Bool) → Exists w (reads_in r t) (strobes_in t) p → In (task_taken (limits w r) t s (act_at g i j k) p b image)
    taken_in Reset q p b e = onward_in g i j k gi gj gk
    taken_in Pause q p b e = onward_in g i j k gi gj gk
    taken_in Address q p b e = framed_in Address q p b e
    taken_in Send q p b e = framed_in Send q p b e
    taken_in Input q p b e = framed_in Input q p b e
    taken_in Output q p b e = framed_in Output q p b e
    taken_in Ident q p b e = framed_in Ident q p b e
    taken_in Status q p b e = framed_in Status q p b e
    taken_in Compare q p b e = framed_in Compare q p b e

    replied_in : (p : Place) (x : ℕ) → Exists w (reads_in r (task_of g k)) (strobes_in (task_of g k)) p → In (point_replied (limits w r) s (act_at g i j k) p x image)
    unfolding point_replied ended_in_range ends_session offsets_of
    replied_in p x e =
        cond_in (ltb 1 x) (Ended bad_reply 0) (task_taken (limits w r) (task_of g k) s (act_at g i j k) p (eqb x 1) image) refl (taken_in (task_of g k) refl p (eqb x 1) e)

-- every session that a reply makes of one in range is in range
pub advanced_in_range : (s : Session) (image : List ℕ) → in_range s ≡ true → length image ≡ s.settings.size * s.pages → (x : ℕ)
    → in_range (advanced s x image) ≡ true
unfolding in_range advanced
advanced_in_range s image e l x =
    let o = both (eqb (opening_refusal s.settings s.first (s.settings.size * s.pages)) 0 && is_tidy s.settings.pairs) (point_in_range (limits_of s.settings) s.settings.size s.settings.pairs.count s.pages s.point) e in
    rw o.0 (go s.point (point_of s e))
  where
    w : ℕ
    w = (limits_of s.settings).wait

    r : ℕ
    r = (limits_of s.settings).reads

    h : Fits s image
    h = fits_of s image e l

    p : Positive (limits_of s.settings)
    p = limits_positive s.settings h.settings

    go : (y : Point) → point_in_range (limits_of s.settings) s.settings.size s.settings.pairs.count s.pages y ≡ true
        → point_in_range (limits_of s.settings) s.settings.size s.settings.pairs.count s.pages (point_advanced (limits_of s.settings) y s x image) ≡ true
    go (Running g i j k q c v) f =
        let n = bounded w r s.settings.size s.settings.pairs.count s.pages g i j k q c v f in
        replied_in w r p.wait p.reads s image h g i j k n.page n.block n.act (place q c v) x
        (place_exists w (reads_in r (task_of g k)) (strobes_in (task_of g k)) (place q c v) n.place)
    go (Ended n o) f = f

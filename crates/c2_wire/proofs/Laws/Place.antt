-- A reply takes the exchange that is left at a place of a frame to the one that is left at the place after:
-- `followed` moves as the tree does. One proof for every list of strobes that is whole; the four frames are.
use mathlib.Core.Path.{◌≡◌, refl, sym, ap, ◌∙◌}
use mathlib.Core.Bool.{Bool, true, false, cond}
use mathlib.Core.List.{List, [], ◌∷◌, ◌++◌}
use Prim.Native.Nat.{ℕ, zero, suc, ◌+◌, ◌*◌, ◌-◌, ◌^◌, ◌%◌, ◌<◌, ◌≤◌}
use native.Mathlib.Nat.{pow-suc, mod-eq_of_lt, pow-le-pow_right}
use native.Mathlib.Numerals.{add-one}
use native.Mathlib.Omega.{arith}
use native.Mathlib.Decide.{dec_lt}
use borrow.Author.Tests.{lt-ltb, le-ltb}
use lib.Dec.{ltb}
use lib.ListN.{length, take, drop, drop_of_length-le}
use lib.Seq.{drop-cons, take-suc}
use Rattle.c2_wire.specs.Bits.{bit}
use Rattle.c2_wire.specs.Step.{Step, released}
use Rattle.c2_wire.specs.Field.{Field, STOP, WAIT}
use Rattle.c2_wire.specs.Exchange.{Exchange, strobe, after}
use Rattle.c2_wire.specs.Frames.{Strobe, plain, sampled, waits, waiting, strobes, framed}
use Rattle.c2_wire.specs.Place.{place, strobe_at, count_limit, strobe_step, samples, follows, followed, rest_of, remaining, moved_to, longest, longest_rest, strobes_left}
use Rattle.c2_wire.specs.declared.Place.{Place}
use Rattle.c2_wire.specs.declared.Moved.{Moved}
use Rattle.c2_wire.specs.declared.Moved.TheVariants.{Within, Stopped, WaitLimit}
use Rattle.c2_wire.proofs.Laws.Exchange.{after_bit}

-- how many WAITs a list of strobes has
unfoldable pub waits_in : List Strobe → ℕ
waits_in [] = 0
waits_in (plain f s ∷ ss) = waits_in ss
waits_in (sampled f ∷ ss) = waits_in ss
waits_in (waits ∷ ss) = suc (waits_in ss)

-- Strobes that end with one whose reply is not looked at, sample at most a byte, and count reads (below r)
-- only where they have no WAIT.
pub record Whole (r : ℕ) (ss : List Strobe) : Type 0 where
  pub ends : (i : ℕ) → suc i ≡ length ss → (f : Field) × (s : Step) × (strobe_at ss i ≡ plain f s)
  pub byte : samples ss ≤ 8
  pub calm : 0 < waits_in ss → r ≡ 1

-- a place that exists in the frame
pub record Exists (l r : ℕ) (ss : List Strobe) (p : Place) : Type 0 where
  pub inside : p.strobe < length ss
  pub counted : p.count < count_limit l r (strobe_at ss p.strobe)
  pub sampled_only : p.bits < 2 ^ samples (take p.strobe ss)

waits_at : (ss : List Strobe) (i : ℕ) → strobe_at ss i ≡ waits → 0 < waits_in ss
unfolding waits_in
waits_at [] i e = let z : ◌≡◌ {A = ℕ} 0 1 = cc in omega arith
waits_at (plain f s ∷ ss) zero e = let z : ◌≡◌ {A = ℕ} 0 1 = cc in omega arith
waits_at (sampled f ∷ ss) zero e = let z : ◌≡◌ {A = ℕ} 0 1 = cc in omega arith
waits_at (waits ∷ ss) zero e = omega arith
waits_at (plain f s ∷ ss) (suc i) e = waits_at ss i e
waits_at (sampled f ∷ ss) (suc i) e = waits_at ss i e
waits_at (waits ∷ ss) (suc i) e = omega arith

-- how many strobes are sampled after one strobe more
samples_snoc : (ss : List Strobe) (x : Strobe) → samples (ss ++ x ∷ []) ≡ samples ss + samples (x ∷ [])
unfolding samples
samples_snoc [] x = omega arith
samples_snoc (plain f s ∷ ss) x = samples_snoc ss x
samples_snoc (sampled f ∷ ss) x = omega (arith, samples_snoc ss x)
samples_snoc (waits ∷ ss) x = samples_snoc ss x

pub samples_passed : (ss : List Strobe) (i : ℕ) → i < length ss → samples (take (i + 1) ss) ≡ samples (take i ss) + samples (strobe_at ss i ∷ [])
samples_passed ss i h =
    rw (add-one i, take-suc ss i (plain STOP released) h) (samples_snoc (take i ss) (strobe_at ss i))

samples_take : (ss : List Strobe) (i : ℕ) → samples (take i ss) ≤ samples ss
unfolding samples
samples_take ss zero = omega arith
samples_take [] (suc i) = omega arith
samples_take (plain f s ∷ ss) (suc i) = samples_take ss i
samples_take (sampled f ∷ ss) (suc i) = omega (arith, samples_take ss i)
samples_take (waits ∷ ss) (suc i) = samples_take ss i

waits_in_drop : (ss : List Strobe) (i : ℕ) → waits_in (drop i ss) ≤ waits_in ss
unfolding waits_in
waits_in_drop ss zero = omega arith
waits_in_drop [] (suc i) = omega arith
waits_in_drop (plain f s ∷ ss) (suc i) = waits_in_drop ss i
waits_in_drop (sampled f ∷ ss) (suc i) = waits_in_drop ss i
waits_in_drop (waits ∷ ss) (suc i) = omega (arith, waits_in_drop ss i)

-- where no zero of a WAIT is seen, what is left is the exchange of the strobes that are left
module _ (l z n v : ℕ) (k : ℕ → Exchange) where
  rest_fresh : (ss : List Strobe) → (0 < waits_in ss → z ≡ 0) → rest_of l ss z n v k ≡ strobes l ss n v k
  unfolding rest_of strobes waits_in
  rest_fresh [] h = refl
  rest_fresh (plain f s ∷ ss) h = refl
  rest_fresh (sampled f ∷ ss) h = refl
  rest_fresh (waits ∷ ss) h =
      let e : l - z ≡ l = omega (arith, h (omega arith)) in
      ap (λ (m : ℕ). waiting m (strobes l ss n v k)) e

-- a byte that is sampled stays a byte
sampled_fits : (n v : ℕ) (b : Bool) → v < 2 ^ n → suc n ≤ 8 → v + bit b * 2 ^ n < 2 ^ suc n
unfolding bit
sampled_fits n v true h m = omega (arith, pow-suc 2 n)
sampled_fits n v false h m = omega (arith, pow-suc 2 n)

sampled_byte : (n v : ℕ) (b : Bool) → v < 2 ^ n → suc n ≤ 8 → (v + bit b * 2 ^ n) % 256 ≡ v + bit b * 2 ^ n
sampled_byte n v b h m =
    mod-eq_of_lt (omega (arith, sampled_fits n v b h m, pow-le-pow_right {n = 2} (omega arith) {i = suc n} {j = 8} m))

module _ (l r : ℕ) (ss : List Strobe) (w : Whole r ss) (k : ℕ → Exchange) where
  -- what is left after a strobe at place i, outside a WAIT or at its end
  passed : (i c v : ℕ) → (0 < waits_in ss → c ≡ 0)
      → remaining l ss (place (i + 1) c v) k ≡ strobes l (drop (suc i) ss) (samples (take (i + 1) ss)) v k
  unfolding remaining
  passed i c v h =
      rw (add-one i) (rest_fresh l c (samples (take (suc i) ss)) v k (drop (suc i) ss) (λ g. h (omega (arith, waits_in_drop ss (suc i)))))

  -- a reply to a strobe x that is not the last
  follows_after : (p : Place) (b : Bool) (x : Strobe) → p.strobe < length ss → strobe_at ss p.strobe ≡ x → p.count < count_limit l r x
      → p.bits < 2 ^ samples (take p.strobe ss)
      → after (rest_of l (x ∷ drop (suc p.strobe) ss) p.count (samples (take p.strobe ss)) p.bits k) (bit b)
      ≡ moved_to l ss (follows l ss x p b) k
  unfolding follows moved_to remaining rest_of strobes count_limit samples waiting
  follows_after p b (plain f s) h e c g =
      let i : ℕ = p.strobe in
      let ns : samples (take (i + 1) ss) ≡ samples (take i ss) = samples_passed ss i h ∙ rw e (omega arith) in
      after_bit f s _ b ∙ sym (passed i p.count p.bits (λ g. omega (arith, w.calm g)) ∙ rw ns)
  follows_after p b (sampled f) h e c g =
      let i : ℕ = p.strobe in
      let n : ℕ = samples (take i ss) in
      let ns : samples (take (i + 1) ss) ≡ suc (samples (take i ss)) = samples_passed ss i h ∙ rw e (omega arith) in
      let few : suc (samples (take i ss)) ≤ 8 = omega (arith, samples_take ss (i + 1), w.byte) in
      after_bit f released _ b
      ∙ sym (passed i p.count ((p.bits + bit b * 2 ^ n) % 256) (λ g. omega (arith, w.calm g)) ∙ rw (ns, sampled_byte n p.bits b g few))
  follows_after p true waits h e c g =
      let i : ℕ = p.strobe in
      let m : l - p.count ≡ suc (l - suc p.count) = omega arith in
      let ns : samples (take (i + 1) ss) ≡ samples (take i ss) = samples_passed ss i h ∙ rw e (omega arith) in
      rw m (after_bit WAIT released _ true ∙ sym (passed i 0 p.bits (λ _. refl) ∙ rw ns))
  follows_after p false waits h e c g =
      let m : l - p.count ≡ suc (l - suc p.count) = omega arith in
      rw m (after_bit WAIT released _ false ∙ go (dec_lt (p.count + 1) l))
    where
      go : Dec (p.count + 1 < l) → waiting (l - suc p.count) (strobes l (drop (suc p.strobe) ss) (samples (take p.strobe ss)) p.bits k)
          ≡ moved_to l ss (cond (ltb (p.count + 1) l) (Within (place p.strobe (p.count + 1) p.bits)) WaitLimit) k
      go (yes y) = rw (lt-ltb (p.count + 1) l y, drop-cons ss p.strobe (plain STOP released) h, e, add-one)
      go (no y) =
          let z : l - suc p.count ≡ 0 = omega arith in
          rw (le-ltb (p.count + 1) l (omega arith), z)

  -- a reply to any strobe of the frame
  pub followed_after : (p : Place) (b : Bool) → Exists l r ss p → after (remaining l ss p k) (bit b) ≡ moved_to l ss (followed l ss p b) k
  unfolding remaining followed moved_to rest_of strobes
  followed_after p b h =
      rw (drop-cons ss p.strobe (plain STOP released) h.inside) (go (dec_lt (p.strobe + 1) (length ss)))
    where
      x : Strobe
      x = strobe_at ss p.strobe

      go : Dec (p.strobe + 1 < length ss)
          → after (rest_of l (x ∷ drop (suc p.strobe) ss) p.count (samples (take p.strobe ss)) p.bits k) (bit b)
          ≡ moved_to l ss (cond (ltb (p.strobe + 1) (length ss)) (follows l ss x p b) (Stopped p.bits)) k
      go (yes y) = rw (lt-ltb (p.strobe + 1) (length ss) y) (follows_after p b x h.inside refl h.counted h.sampled_only)
      go (no y) =
          let last = w.ends p.strobe (omega (arith, h.inside)) in
          rw (le-ltb (p.strobe + 1) (length ss) (omega arith), last.2, drop_of_length-le ss {i = suc p.strobe} (omega arith))
          (after_bit last.0 last.1 _ b)

-- A reply leads from a place that exists to another, and the most strobes that are left fall by at least 1.
abbrev pub ExistsAfter : (l r : ℕ) → List Strobe → Moved → Type 0
ExistsAfter l r ss (Within p) = Exists l r ss p
ExistsAfter l r ss (Stopped v) = v < 256
ExistsAfter l r ss WaitLimit = Unit {0}

abbrev pub left_after : (l : ℕ) → List Strobe → Moved → ℕ
left_after l ss (Within p) = strobes_left l ss p
left_after l ss (Stopped v) = 0
left_after l ss WaitLimit = 0

module _ (l r : ℕ) (ss : List Strobe) (w : Whole r ss) (hl : 0 < l) (hr : 0 < r) where
  -- the count at the next strobe
  next_counted : (i c : ℕ) → c < r → (0 < waits_in ss → c ≡ 0) → c < count_limit l r (strobe_at ss i)
  unfolding count_limit
  next_counted i c h g = go (strobe_at ss i) refl
    where
      go : (x : Strobe) → strobe_at ss i ≡ x → c < count_limit l r x
      go (plain f s) e = h
      go (sampled f) e = h
      go waits e = omega (arith, g (waits_at ss i e))

  follows_exists : (p : Place) (b : Bool) (x : Strobe) → p.strobe + 1 < length ss → strobe_at ss p.strobe ≡ x → p.count < count_limit l r x
      → p.bits < 2 ^ samples (take p.strobe ss) → ExistsAfter l r ss (follows l ss x p b)
  unfolding follows count_limit samples
  follows_exists p b (plain f s) h e c g =
      let ns : samples (take (p.strobe + 1) ss) ≡ samples (take p.strobe ss) = samples_passed ss p.strobe (omega arith) ∙ rw e (omega arith) in
      record { inside = h; counted = next_counted (p.strobe + 1) p.count c (λ q. omega (arith, w.calm q)); sampled_only = rw ns g }
  follows_exists p b (sampled f) h e c g =
      let n : ℕ = samples (take p.strobe ss) in
      let ns : samples (take (p.strobe + 1) ss) ≡ suc n = samples_passed ss p.strobe (omega arith) ∙ rw e (omega arith) in
      let few : suc n ≤ 8 = omega (arith, samples_take ss (p.strobe + 1), w.byte) in
      record {
        inside = h;
        counted = next_counted (p.strobe + 1) p.count c (λ q. omega (arith, w.calm q));
        sampled_only = rw (ns, sampled_byte n p.bits b g few) (sampled_fits n p.bits b g few);
      }
  follows_exists p true waits h e c g =
      let ns : samples (take (p.strobe + 1) ss) ≡ samples (take p.strobe ss) = samples_passed ss p.strobe (omega arith) ∙ rw e (omega arith) in
      record { inside = h; counted = next_counted (p.strobe + 1) 0 hr (λ _. refl); sampled_only = rw ns g }
  follows_exists p false waits h e c g = go (dec_lt (p.count + 1) l)
    where
      go : Dec (p.count + 1 < l) → ExistsAfter l r ss (cond (ltb (p.count + 1) l) (Within (place p.strobe (p.count + 1) p.bits)) WaitLimit)
      go (yes y) = rw (lt-ltb (p.count + 1) l y) (record { inside = omega arith; counted = rw e y; sampled_only = g })
      go (no y) = rw (le-ltb (p.count + 1) l (omega arith)) tt

  pub followed_exists : (p : Place) (b : Bool) → Exists l r ss p → ExistsAfter l r ss (followed l ss p b)
  unfolding followed
  followed_exists p b h = go (dec_lt (p.strobe + 1) (length ss))
    where
      x : Strobe
      x = strobe_at ss p.strobe

      go : Dec (p.strobe + 1 < length ss) → ExistsAfter l r ss (cond (ltb (p.strobe + 1) (length ss)) (follows l ss x p b) (Stopped p.bits))
      go (yes y) = rw (lt-ltb (p.strobe + 1) (length ss) y) (follows_exists p b x y refl h.counted h.sampled_only)
      go (no y) =
          rw (le-ltb (p.strobe + 1) (length ss) (omega arith))
          (omega (
            arith,
            h.sampled_only,
            samples_take ss p.strobe,
            w.byte,
            pow-le-pow_right {n = 2} (omega arith) {i = samples (take p.strobe ss)} {j = 8} (omega (arith, samples_take ss p.strobe, w.byte)),
          ))

  -- the most strobes left, after a strobe at place i
  left_fresh : (xs : List Strobe) (z : ℕ) → longest_rest l xs z ≤ longest l xs
  unfolding longest_rest longest
  left_fresh [] z = omega arith
  left_fresh (plain f s ∷ xs) z = omega arith
  left_fresh (sampled f ∷ xs) z = omega arith
  left_fresh (waits ∷ xs) z = omega arith

  follows_falls : (p : Place) (b : Bool) (x : Strobe) → p.strobe < length ss → strobe_at ss p.strobe ≡ x → p.count < count_limit l r x
      → left_after l ss (follows l ss x p b) < longest_rest l (x ∷ drop (suc p.strobe) ss) p.count
  unfolding follows strobes_left longest_rest longest count_limit
  follows_falls p b (plain f s) h e c = rw (add-one p.strobe) (omega (arith, left_fresh (drop (suc p.strobe) ss) p.count))
  follows_falls p b (sampled f) h e c = rw (add-one p.strobe) (omega (arith, left_fresh (drop (suc p.strobe) ss) p.count))
  follows_falls p true waits h e c = rw (add-one p.strobe) (omega (arith, left_fresh (drop (suc p.strobe) ss) 0))
  follows_falls p false waits h e c = go (dec_lt (p.count + 1) l)
    where
      go : Dec (p.count + 1 < l)
          → left_after l ss (cond (ltb (p.count + 1) l) (Within (place p.strobe (p.count + 1) p.bits)) WaitLimit)
          < (l - p.count) + longest l (drop (suc p.strobe) ss)
      go (yes y) = rw (lt-ltb (p.count + 1) l y, drop-cons ss p.strobe (plain STOP released) h, e) (omega arith)
      go (no y) = rw (le-ltb (p.count + 1) l (omega arith)) (omega arith)

  pub followed_falls : (p : Place) (b : Bool) → Exists l r ss p → left_after l ss (followed l ss p b) < strobes_left l ss p
  unfolding followed strobes_left longest_rest longest
  followed_falls p b h = rw (drop-cons ss p.strobe (plain STOP released) h.inside) (go (dec_lt (p.strobe + 1) (length ss)))
    where
      x : Strobe
      x = strobe_at ss p.strobe

      go : Dec (p.strobe + 1 < length ss)
          → left_after l ss (cond (ltb (p.strobe + 1) (length ss)) (follows l ss x p b) (Stopped p.bits))
          < longest_rest l (x ∷ drop (suc p.strobe) ss) p.count
      go (yes y) = rw (lt-ltb (p.strobe + 1) (length ss) y) (follows_falls p b x h.inside refl h.counted)
      go (no y) =
          let last = w.ends p.strobe (omega (arith, h.inside)) in
          rw (le-ltb (p.strobe + 1) (length ss) (omega arith), last.2) (omega arith)

  -- the frame's first strobe is a place that exists
  pub first_exists : 0 < length ss → Exists l r ss (place 0 0 0)
  unfolding samples
  first_exists h = record { inside = h; counted = next_counted 0 0 hr (λ _. refl); sampled_only = omega arith }

pub first_left : (l : ℕ) (ss : List Strobe) → strobes_left l ss (place 0 0 0) ≡ longest l ss
unfolding strobes_left longest_rest longest
first_left l [] = refl
first_left l (plain f s ∷ ss) = refl
first_left l (sampled f ∷ ss) = refl
first_left l (waits ∷ ss) = omega arith

pub first_remaining : (l : ℕ) (ss : List Strobe) (k : ℕ → Exchange) → remaining l ss (place 0 0 0) k ≡ framed l ss k
unfolding remaining rest_of strobes samples
first_remaining l [] k = refl
first_remaining l (plain f s ∷ ss) k = refl
first_remaining l (sampled f ∷ ss) k = refl
first_remaining l (waits ∷ ss) k = rest_fresh l 0 0 0 k (waits ∷ ss) (λ _. refl)

-- outside a WAIT a reply keeps the count
abbrev pub CountAfter : (c : ℕ) → Moved → Type 0
CountAfter c (Within p) = p.count ≡ c
CountAfter c (Stopped v) = Unit {0}
CountAfter c WaitLimit = Unit {0}

pub followed_count : (l : ℕ) (ss : List Strobe) (p : Place) (b : Bool) → waits_in ss ≡ 0 → CountAfter p.count (followed l ss p b)
unfolding followed follows
followed_count l ss p b h = go (ltb (p.strobe + 1) (length ss)) (strobe_at ss p.strobe) refl
  where
    go : (t : Bool) (x : Strobe) → strobe_at ss p.strobe ≡ x → CountAfter p.count (cond t (follows l ss x p b) (Stopped p.bits))
    go false x e = tt
    go true (plain f s) e = refl
    go true (sampled f) e = refl
    go true waits e = absurd (omega (arith, waits_at ss p.strobe e))

-- the count at a place of strobes without a WAIT is below that of the reads
pub counted_reads : (l r : ℕ) (ss : List Strobe) (p : Place) → waits_in ss ≡ 0 → Exists l r ss p → p.count < r
unfolding count_limit
counted_reads l r ss p h e = go (strobe_at ss p.strobe) refl e.counted
  where
    go : (x : Strobe) → strobe_at ss p.strobe ≡ x → p.count < count_limit l r x → p.count < r
    go (plain f s) q c = c
    go (sampled f) q c = c
    go waits q c = absurd (omega (arith, waits_at ss p.strobe q))

-- at a place that exists the exchange asks for the step of its strobe
pub remaining_asks : (l r : ℕ) (ss : List Strobe) (p : Place) (k : ℕ → Exchange) → Exists l r ss p
    → (f : Field) × (j : Bool → Exchange) × (remaining l ss p k ≡ strobe f (strobe_step (strobe_at ss p.strobe)) j)
unfolding remaining rest_of strobes strobe_step count_limit waiting
remaining_asks l r ss p k h = go (strobe_at ss p.strobe) refl h.counted
  where
    n : ℕ
    n = samples (take p.strobe ss)

    split : drop p.strobe ss ≡ strobe_at ss p.strobe ∷ drop (suc p.strobe) ss
    split = drop-cons ss p.strobe (plain STOP released) h.inside

    go : (x : Strobe) → strobe_at ss p.strobe ≡ x → p.count < count_limit l r x
        → (f : Field) × (j : Bool → Exchange) × (rest_of l (drop p.strobe ss) p.count (samples (take p.strobe ss)) p.bits k ≡ strobe f (strobe_step x) j)
    go (plain f s) e c = (f, λ _. strobes l (drop (suc p.strobe) ss) n p.bits k, rw (split, e))
    go (sampled f) e c = (f, λ b. strobes l (drop (suc p.strobe) ss) (suc n) (p.bits + bit b * 2 ^ n) k, rw (split, e))
    go waits e c =
        let t : Exchange = strobes l (drop (suc p.strobe) ss) n p.bits k in
        let m : l - p.count ≡ suc (l - suc p.count) = omega arith in
        (WAIT, λ b. cond b t (waiting (l - suc p.count) t), rw (split, e, m))

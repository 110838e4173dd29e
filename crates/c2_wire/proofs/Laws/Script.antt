-- The codes of a script (specs/Code/Script.antt) are the strobes of the frames, and a script is its codes.
use mathlib.Core.Path.{◌≡◌, refl, sym, ap, ◌∙◌}
use mathlib.Core.Bool.{Bool, true, false, cond}
use mathlib.Core.List.{List, [], ◌∷◌}
use Prim.Native.Nat.{ℕ, zero, suc, ◌+◌, ◌*◌, ◌/◌, ◌%◌, ◌^◌, ◌<◌, ◌≤◌}
use native.Mathlib.Nat.{zero-div, div-one, div-div-eq-div-mul, pow-succ', not-suc-le-zero}
use native.Mathlib.Omega.{arith}
use native.Mathlib.Decide.{dec_lt}
use borrow.Author.Tests.{lt-ltb, le-ltb, le-leb}
use lib.Dec.{ltb}
use lib.ListN.{length, get_or, get_or-eq_default, take, drop}
use Rattle.laws.proofs.Below.{upto, same_below, each_below}
use Rattle.c2_wire.specs.Bits.{odd, bits}
use Rattle.c2_wire.specs.Step.{driven, released, code}
use Rattle.c2_wire.specs.Field.{STOP}
use Rattle.c2_wire.specs.Frames.{plain, sends, ins_code, frame}
use Rattle.c2_wire.specs.Place.{place, strobe_step, step_at, samples, follows, followed, strobe_at, count_limit}
use Rattle.c2_wire.specs.Code.Script.{code_word, driven_codes, frame_codes, frame_around, byte_weight, kept, code_step, code_follows}
use Rattle.c2_wire.specs.declared.Frame.{Frame}
use Rattle.c2_wire.specs.declared.Frame.TheVariants.{AddressWrite, AddressRead, DataWrite, DataRead}
use Rattle.c2_wire.specs.declared.Place.{Place}
use Rattle.c2_wire.proofs.Laws.Place.{Exists}

-- no frame has more than 15 strobes
length_frame : (f : Frame) (a : ℕ) → length (frame f a) ≤ 15
unfolding frame sends ins_code bits
length_frame AddressWrite a = omega arith
length_frame AddressRead a = omega arith
length_frame DataWrite a = omega arith
length_frame DataRead a = omega arith

-- the code of a driven bit is its step, 2 or 3
at_most_3 : (b : Bool) → code (driven b) ≤ 3
unfolding code
at_most_3 true = omega arith
at_most_3 false = omega arith

driven_small : (b : Bool) → ltb (code (driven b)) 4 ≡ true
unfolding code
driven_small true = refl
driven_small false = refl

driven_step : (b : Bool) → ltb (code (driven b)) 6 ≡ true
unfolding code
driven_step true = refl
driven_step false = refl

-- the step of a strobe's code is the step of the strobe
steps_below : (f : Frame) (a : ℕ) → upto (λ i. code_step (get_or (frame_codes f a) i 7)) 15 ≡ upto (step_at (frame f a)) 15
unfolding frame sends ins_code bits odd frame_codes driven_codes code_step step_at strobe_step code
steps_below AddressWrite a = rw (
  driven_step (odd a),
  driven_step (odd (a / 2)),
  driven_step (odd (a / 2 / 2)),
  driven_step (odd (a / 2 / 2 / 2)),
  driven_step (odd (a / 2 / 2 / 2 / 2)),
  driven_step (odd (a / 2 / 2 / 2 / 2 / 2)),
  driven_step (odd (a / 2 / 2 / 2 / 2 / 2 / 2)),
  driven_step (odd (a / 2 / 2 / 2 / 2 / 2 / 2 / 2)),
)
steps_below AddressRead a = refl
steps_below DataWrite a = rw (
  driven_step (odd a),
  driven_step (odd (a / 2)),
  driven_step (odd (a / 2 / 2)),
  driven_step (odd (a / 2 / 2 / 2)),
  driven_step (odd (a / 2 / 2 / 2 / 2)),
  driven_step (odd (a / 2 / 2 / 2 / 2 / 2)),
  driven_step (odd (a / 2 / 2 / 2 / 2 / 2 / 2)),
  driven_step (odd (a / 2 / 2 / 2 / 2 / 2 / 2 / 2)),
)
steps_below DataRead a = refl

code_past : (f : Frame) (a : ℕ) → get_or (frame_codes f a) 15 7 ≡ 7
unfolding frame_codes driven_codes bits
code_past AddressWrite a = refl
code_past AddressRead a = refl
code_past DataWrite a = refl
code_past DataRead a = refl

pub step_by_code : (f : Frame) (a i : ℕ) → code_step (get_or (frame_codes f a) (kept i) 7) ≡ step_at (frame f a) i
unfolding kept step_at strobe_step code code_step
step_by_code f a i = go (dec_lt i 15)
  where
    go : Dec (i < 15) → code_step (get_or (frame_codes f a) (cond (ltb i 15) i 15) 7) ≡ step_at (frame f a) i
    go (yes y) = rw (lt-ltb i 15 y) (same_below (λ j. code_step (get_or (frame_codes f a) j 7)) (step_at (frame f a)) 15 (steps_below f a) i y)
    go (no y) =
        rw (
          le-ltb i 15 (omega arith),
          code_past f a,
          get_or-eq_default (frame f a) (plain STOP released) {n = i} (omega (arith, length_frame f a)),
        )

-- what a reply makes of a strobe's code is what it makes of the place
follows_below : (f : Frame) (a l c v : ℕ) (b : Bool)
    → upto (λ i. code_follows l (get_or (frame_codes f a) i 7) (place i c v) b) 14 ≡ upto (λ i. followed l (frame f a) (place i c v) b) 14
unfolding frame sends ins_code bits frame_codes driven_codes code_follows followed follows samples
follows_below AddressWrite a l c v b = rw (
  driven_small (odd a),
  driven_small (odd (a / 2)),
  driven_small (odd (a / 2 / 2)),
  driven_small (odd (a / 2 / 2 / 2)),
  driven_small (odd (a / 2 / 2 / 2 / 2)),
  driven_small (odd (a / 2 / 2 / 2 / 2 / 2)),
  driven_small (odd (a / 2 / 2 / 2 / 2 / 2 / 2)),
  driven_small (odd (a / 2 / 2 / 2 / 2 / 2 / 2 / 2)),
)
follows_below AddressRead a l c v b = refl
follows_below DataWrite a l c v b = rw (
  driven_small (odd a),
  driven_small (odd (a / 2)),
  driven_small (odd (a / 2 / 2)),
  driven_small (odd (a / 2 / 2 / 2)),
  driven_small (odd (a / 2 / 2 / 2 / 2)),
  driven_small (odd (a / 2 / 2 / 2 / 2 / 2)),
  driven_small (odd (a / 2 / 2 / 2 / 2 / 2 / 2)),
  driven_small (odd (a / 2 / 2 / 2 / 2 / 2 / 2 / 2)),
)
follows_below DataRead a l c v b = refl

pub follows_by_code : (f : Frame) (a l : ℕ) (p : Place) (b : Bool) → code_follows l (get_or (frame_codes f a) (kept p.strobe) 7) p b ≡ followed l (frame f a) p b
unfolding kept followed code_follows
follows_by_code f a l p b = go (dec_lt p.strobe 14)
  where
    go : Dec (p.strobe < 14) → code_follows l (get_or (frame_codes f a) (cond (ltb p.strobe 15) p.strobe 15) 7) p b ≡ followed l (frame f a) p b
    go (yes y) =
        rw (lt-ltb p.strobe 15 (omega arith))
        (same_below (λ i. code_follows l (get_or (frame_codes f a) i 7) (place i p.count p.bits) b) (λ i. followed l (frame f a) (place i p.count p.bits) b) 14
        (follows_below f a l p.count p.bits b) p.strobe y)
    go (no y) = rw (le-leb 14 p.strobe (omega arith), le-ltb (p.strobe + 1) (length (frame f a)) (omega (arith, length_frame f a)))

-- A script is sixteen codes, each of four bits.
pub record Codes (cs : List ℕ) : Type 0 where
  pub sixteen : length cs ≡ 16
  pub small : (i : ℕ) → i < 16 → get_or cs i 7 < 16

bit_code : (b : Bool) → code (driven b) < 16
unfolding code
bit_code true = omega arith
bit_code false = omega arith

pub codes_of : (f : Frame) (a : ℕ) → Codes (frame_codes f a)
unfolding frame_codes driven_codes bits
codes_of AddressWrite a = record { sixteen = refl; small = each_below (λ i. get_or (frame_codes AddressWrite a) i 7 < 16) 16 ((omega arith, (omega arith, (omega arith, (omega arith, (omega arith, (bit_code (odd (a / 2 / 2 / 2 / 2 / 2 / 2 / 2)), (bit_code (odd (a / 2 / 2 / 2 / 2 / 2 / 2)), (bit_code (odd (a / 2 / 2 / 2 / 2 / 2)), (bit_code (odd (a / 2 / 2 / 2 / 2)), (bit_code (odd (a / 2 / 2 / 2)), (bit_code (odd (a / 2 / 2)), (bit_code (odd (a / 2)), (bit_code (odd a), (omega arith, (omega arith, (omega arith, tt))))))))))))))))) }
codes_of AddressRead a = record { sixteen = refl; small = each_below (λ i. get_or (frame_codes AddressRead a) i 7 < 16) 16 (omega arith) }
codes_of DataWrite a = record { sixteen = refl; small = each_below (λ i. get_or (frame_codes DataWrite a) i 7 < 16) 16 ((omega arith, (omega arith, (omega arith, (bit_code (odd (a / 2 / 2 / 2 / 2 / 2 / 2 / 2)), (bit_code (odd (a / 2 / 2 / 2 / 2 / 2 / 2)), (bit_code (odd (a / 2 / 2 / 2 / 2 / 2)), (bit_code (odd (a / 2 / 2 / 2 / 2)), (bit_code (odd (a / 2 / 2 / 2)), (bit_code (odd (a / 2 / 2)), (bit_code (odd (a / 2)), (bit_code (odd a), (omega arith, (omega arith, (omega arith, (omega arith, (omega arith, tt))))))))))))))))) }
codes_of DataRead a = record { sixteen = refl; small = each_below (λ i. get_or (frame_codes DataRead a) i 7 < 16) 16 (omega arith) }

-- the first code of a word, and what is left of it
pub word_from : (cs : List ℕ) → ((i : ℕ) → i < length cs → get_or cs i 7 < 16) → (q : ℕ) → code_word cs / 16 ^ q ≡ code_word (drop q cs)
unfolding code_word
word_from cs h zero = div-one (code_word cs)
word_from [] h (suc q) = zero-div (16 ^ suc q)
word_from (c ∷ cs) h (suc q) =
    let small : c < 16 = h 0 (omega arith) in
    let rest : (c + 16 * code_word cs) / 16 ≡ code_word cs = omega arith in
    ap (λ (n : ℕ). (c + 16 * code_word cs) / n) (pow-succ' 16 q)
    ∙ sym (div-div-eq-div-mul (c + 16 * code_word cs) 16 (16 ^ q))
    ∙ ap (λ (n : ℕ). n / 16 ^ q) rest
    ∙ word_from cs (λ i g. h (suc i) (omega arith)) q

pub word_first : (cs : List ℕ) (q : ℕ) → q < length cs → get_or cs q 7 < 16 → code_word (drop q cs) % 16 ≡ get_or cs q 7
unfolding code_word
word_first [] q g h = absurd (not-suc-le-zero g)
word_first (c ∷ cs) zero g h = omega arith
word_first (c ∷ cs) (suc q) g h = word_first cs q (omega arith) h

pub word_rest : (cs : List ℕ) (q : ℕ) → q < length cs → get_or cs q 7 < 16 → code_word (drop q cs) / 16 ≡ code_word (drop (suc q) cs)
unfolding code_word
word_rest [] q g h = absurd (not-suc-le-zero g)
word_rest (c ∷ cs) zero g h = omega arith
word_rest (c ∷ cs) (suc q) g h = word_rest cs q (omega arith) h

pub kept_small : (q : ℕ) → kept q < 16
unfolding kept
kept_small q = go (dec_lt q 15)
  where
    go : Dec (q < 15) → cond (ltb q 15) q 15 < 16
    go (yes y) = rw (lt-ltb q 15 y) (omega arith)
    go (no y) = rw (le-ltb q 15 (omega arith)) (omega arith)

-- what is left of sixteen codes from a strobe on, and its first code
module _ (cs : List ℕ) (h : Codes cs) where
  pub left_from : (q : ℕ) → code_word cs / 16 ^ q ≡ code_word (drop q cs)
  left_from = word_from cs (λ i g. h.small i (omega (arith, h.sixteen)))

  pub left_first : (q : ℕ) → q < 16 → code_word (drop q cs) % 16 ≡ get_or cs q 7
  left_first q g = word_first cs q (omega (arith, h.sixteen)) (h.small q g)

  pub left_rest : (q : ℕ) → q < 16 → code_word (drop q cs) / 16 ≡ code_word (drop (suc q) cs)
  left_rest q g = word_rest cs q (omega (arith, h.sixteen)) (h.small q g)

  pub code_from : (q : ℕ) → code_word cs / 16 ^ kept q % 16 ≡ get_or cs (kept q) 7
  code_from q = ap (λ (n : ℕ). n % 16) (left_from (kept q)) ∙ left_first (kept q) (kept_small q)

-- the step at a strobe, and what a reply makes of a place, by the frame's script
pub step_by_script : (f : Frame) (a q : ℕ) → code_step (code_word (frame_codes f a) / 16 ^ kept q % 16) ≡ step_at (frame f a) q
step_by_script f a q = ap code_step (code_from (frame_codes f a) (codes_of f a) q) ∙ step_by_code f a q

pub follows_by_script : (f : Frame) (a l : ℕ) (p : Place) (b : Bool)
    → code_follows l (code_word (frame_codes f a) / 16 ^ kept p.strobe % 16) p b ≡ followed l (frame f a) p b
follows_by_script f a l p b = ap (λ (c : ℕ). code_follows l c p b) (code_from (frame_codes f a) (codes_of f a) p.strobe) ∙ follows_by_code f a l p b

-- the word of a byte's driven steps is small
pub driven_word_small : (a : ℕ) → code_word (driven_codes a) ≤ 858993459
unfolding code_word driven_codes bits
driven_word_small a =
    omega (
      arith,
      at_most_3 (odd a),
      at_most_3 (odd (a / 2)),
      at_most_3 (odd (a / 2 / 2)),
      at_most_3 (odd (a / 2 / 2 / 2)),
      at_most_3 (odd (a / 2 / 2 / 2 / 2)),
      at_most_3 (odd (a / 2 / 2 / 2 / 2 / 2)),
      at_most_3 (odd (a / 2 / 2 / 2 / 2 / 2 / 2)),
      at_most_3 (odd (a / 2 / 2 / 2 / 2 / 2 / 2 / 2)),
    )

-- a frame's word: what is around the byte that it writes, and the byte's own codes
pub frame_word : (f : Frame) (a : ℕ) → code_word (frame_codes f a) ≡ frame_around f + code_word (driven_codes a) * byte_weight f
unfolding code_word frame_codes driven_codes bits frame_around byte_weight
frame_word AddressWrite a = omega arith
frame_word AddressRead a = omega arith
frame_word DataWrite a = omega arith
frame_word DataRead a = omega arith

-- a code is four bits
pub sixteens : (q : ℕ) → 2 ^ (4 * q) ≡ 16 ^ q
sixteens zero = refl
sixteens (suc q) =
    let e : 4 * suc q ≡ suc (suc (suc (suc (4 * q)))) = omega arith in
    rw e (omega (arith, pow-succ' 2 (suc (suc (suc (4 * q)))), pow-succ' 2 (suc (suc (4 * q))), pow-succ' 2 (suc (4 * q)), pow-succ' 2 (4 * q), pow-succ' 16 q, sixteens q))

-- what a reply makes of a place does not go by the byte that the frame writes
any_byte_below : (f : Frame) (a e l c v : ℕ) (b : Bool)
    → upto (λ i. followed l (frame f a) (place i c v) b) 15 ≡ upto (λ i. followed l (frame f e) (place i c v) b) 15
unfolding frame sends ins_code bits followed follows samples
any_byte_below AddressWrite a e l c v b = refl
any_byte_below AddressRead a e l c v b = refl
any_byte_below DataWrite a e l c v b = refl
any_byte_below DataRead a e l c v b = refl

pub followed_any_byte : (f : Frame) (a b l : ℕ) (p : Place) (t : Bool) → followed l (frame f a) p t ≡ followed l (frame f b) p t
unfolding followed
followed_any_byte f a b l p t = go (dec_lt p.strobe 15)
  where
    go : Dec (p.strobe < 15) → followed l (frame f a) p t ≡ followed l (frame f b) p t
    go (yes y) =
        same_below (λ i. followed l (frame f a) (place i p.count p.bits) t) (λ i. followed l (frame f b) (place i p.count p.bits) t) 15
        (any_byte_below f a b l p.count p.bits t) p.strobe y
    go (no y) =
        rw (
          le-ltb (p.strobe + 1) (length (frame f a)) (omega (arith, length_frame f a)),
          le-ltb (p.strobe + 1) (length (frame f b)) (omega (arith, length_frame f b)),
        )

-- a place exists in a frame whatever byte the frame writes
counts_below : (f : Frame) (a b l r : ℕ) → upto (λ i. count_limit l r (strobe_at (frame f a) i)) 15 ≡ upto (λ i. count_limit l r (strobe_at (frame f b) i)) 15
unfolding frame sends ins_code bits count_limit
counts_below AddressWrite a b l r = refl
counts_below AddressRead a b l r = refl
counts_below DataWrite a b l r = refl
counts_below DataRead a b l r = refl

samples_below : (f : Frame) (a b : ℕ) → upto (λ i. samples (take i (frame f a))) 15 ≡ upto (λ i. samples (take i (frame f b))) 15
unfolding frame sends ins_code bits samples
samples_below AddressWrite a b = refl
samples_below AddressRead a b = refl
samples_below DataWrite a b = refl
samples_below DataRead a b = refl

length_any_byte : (f : Frame) (a b : ℕ) → length (frame f a) ≡ length (frame f b)
unfolding frame sends ins_code bits
length_any_byte AddressWrite a b = refl
length_any_byte AddressRead a b = refl
length_any_byte DataWrite a b = refl
length_any_byte DataRead a b = refl

pub exists_any_byte : (f : Frame) (a b l r : ℕ) (p : Place) → Exists l r (frame f a) p → Exists l r (frame f b) p
exists_any_byte f a b l r p h =
    let few : p.strobe < 15 = omega (arith, h.inside, length_frame f a) in
    record {
      inside = rw (length_any_byte f b a) h.inside;
      counted = rw (same_below (λ i. count_limit l r (strobe_at (frame f a) i)) (λ i. count_limit l r (strobe_at (frame f b) i)) 15 (counts_below f a b l r) p.strobe few) at h.counted;
      sampled_only = rw (same_below (λ i. samples (take i (frame f a))) (λ i. samples (take i (frame f b))) 15 (samples_below f a b) p.strobe few) at h.sampled_only;
    }

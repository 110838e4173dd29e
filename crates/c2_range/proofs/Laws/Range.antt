-- A session in range, fact by fact, and back.
use mathlib.Core.Path.{◌≡◌, refl, sym, ◌∙◌}
use mathlib.Core.Bool.{Bool, true, false, cond, ◌&&◌, ◌||◌}
use mathlib.Core.List.{List, [], ◌∷◌}
use mathlib.Core.Logic.{◌⊎◌, inl, inr, ⊎_elim}
use Prim.Native.Nat.{ℕ, zero, suc, ◌+◌, ◌*◌, ◌/◌, ◌%◌, ◌^◌, ◌<◌, ◌≤◌}
use native.Mathlib.Nat.{mul-div_right, mul-mod_right, le-mul_of_pos_right}
use native.Mathlib.Omega.{arith}
use borrow.Author.Tests.{ltb-true, leb-true, eqb-true, lt-ltb, le-leb, eq-eqb, ne_eqb}
use lib.Dec.{eqb, ltb, leb}
use lib.ListN.{length, take, drop}
use Rattle.laws.proofs.Tests.{passes, both, by_test}
use Rattle.c2_wire.specs.Place.{strobe_at, samples, count_limit}
use Rattle.settings.specs.Accepted.{is_fpdat, is_page_size, is_page_count, settings_refusal}
use Rattle.settings.specs.declared.Settings.{Settings}
use Rattle.settings.specs.Opening.{is_image, are_pages, opening_refusal}
use Rattle.settings.specs.Registers.{are_pairs, is_tidy}
use Rattle.c2_order.specs.Acts.{Act}
use Rattle.c2_order.specs.Conversation.{Limits, limits_of}
use Rattle.c2_order.specs.Claims.{LastNumber}
use Rattle.c2_order.specs.Point.{strobes_of, reads_of}
use Rattle.c2_acts.specs.declared.Stage.{Stage}
use Rattle.c2_session.specs.declared.Point.{Point}
use Rattle.c2_session.specs.declared.Point.TheVariants.{Running, Ended}
use Rattle.c2_session.specs.declared.Session.{Session}
use Rattle.c2_range.specs.Range.{pages_in, blocks_in, stage_order, place_in_range, first_in_range, running_in_range, ends_session, offsets_of, ended_in_range, point_in_range, in_range}
use Rattle.c2_range.specs.Claims.{OpeningPasses, PointExists, OutcomeStands, PointStands, WithinRanges, RangesAre}
use Rattle.c2_range.proofs.Laws.Pairs.{pairs_exactly, tidy_exactly}

-- what the tests of settings say
either : (a b : Bool) → a || b ≡ true → (a ≡ true) ⊎ (b ≡ true)
either true b e = inl refl
either false b e = inr e

first_of : (a b : Bool) → a ≡ true → a || b ≡ true
first_of a b e = rw e

second_of : (a b : Bool) → b ≡ true → a || b ≡ true
second_of true b e = refl
second_of false b e = e

sized : (size : ℕ) → is_page_size size ≡ true → (size ≡ 512) ⊎ (size ≡ 1024)
unfolding is_page_size
sized size e = ⊎_elim (λ p. inl (eqb-true size 512 p)) (λ p. inr (eqb-true size 1024 p)) (either (eqb size 512) (eqb size 1024) e)

is_sized : (size : ℕ) → (size ≡ 512) ⊎ (size ≡ 1024) → is_page_size size ≡ true
unfolding is_page_size
is_sized size (inl p) = first_of (eqb size 512) (eqb size 1024) (eq-eqb size 512 p)
is_sized size (inr p) = second_of (eqb size 512) (eqb size 1024) (eq-eqb size 1024 p)

some_size : (size : ℕ) → (size ≡ 512) ⊎ (size ≡ 1024) → 0 < size
some_size size (inl p) = omega arith
some_size size (inr p) = omega arith

-- a refusal by number goes through its first test
passed : (n x : ℕ) → cond (eqb n 0) x n ≡ 0 → (n ≡ 0) × (x ≡ 0)
passed n x e =
    by_test (eqb n 0) (λ p. (eqb-true n 0 p, rw p at e)) (λ p. let z : n ≡ 0 = rw p at e in absurd (let y : true ≡ false = sym (eq-eqb n 0 z) ∙ p in let o : ◌≡◌ {A = ℕ} 0 1 = cc in omega arith))

pub opening_passes : (t : Settings) (first pages : ℕ) → opening_refusal t first (t.size * pages) ≡ 0 → OpeningPasses t first pages
unfolding opening_refusal settings_refusal is_fpdat is_page_count is_image are_pages
opening_passes t first pages e =
    let a = passed (settings_refusal t) _ e in
    let f = passes (leb 3 t.fpdat) _ 1 (omega arith) a.0 in
    let s = passes (is_page_size t.size) _ 2 (omega arith) f.1 in
    let n = passes (leb 1 t.count && leb (t.size * t.count) 65536) _ 3 (omega arith) s.1 in
    let w = passes (leb 1 t.wait) _ 18 (omega arith) n.1 in
    let r = passes (are_pairs t.fpdat t.pairs) 0 19 (omega arith) w.1 in
    let q = (pairs_exactly t.fpdat t.pairs).0 r.0 in
    let m = both (leb 1 t.count) (leb (t.size * t.count) 65536) n.0 in
    let size = sized t.size s.0 in
    let i = passes (leb 1 (t.size * pages) && eqb (t.size * pages % t.size) 0) _ 4 (omega arith) a.1 in
    let p = passes (leb (first + t.size * pages / t.size) t.count) 0 5 (omega arith) i.1 in
    let j = both (leb 1 (t.size * pages)) (eqb (t.size * pages % t.size) 0) i.0 in
    record {
      fpdat = leb-true 3 t.fpdat f.0;
      size = size;
      count = leb-true 1 t.count m.0;
      flash = leb-true (t.size * t.count) 65536 m.1;
      wait = leb-true 1 t.wait w.0;
      pairs = q.0;
      registers = λ i h. (omega (arith, (q.1 i h).0), (q.1 i h).1);
      image = some_pages pages (leb-true 1 (t.size * pages) j.0);
      inside = omega (arith, leb-true (first + t.size * pages / t.size) t.count p.0, mul-div_right pages {m = t.size} (some_size t.size size));
    }
  where
    some_pages : (n : ℕ) → 1 ≤ t.size * n → 1 ≤ n
    some_pages zero h = omega arith
    some_pages (suc n) h = omega arith

pub opening_would_pass : (t : Settings) (first pages : ℕ) → OpeningPasses t first pages → opening_refusal t first (t.size * pages) ≡ 0
unfolding opening_refusal settings_refusal is_fpdat is_page_count is_image are_pages
opening_would_pass t first pages o =
    let z : 0 < t.size = some_size t.size o.size in
    let b : 1 ≤ t.size * pages = omega (arith, le-mul_of_pos_right {m = pages} t.size o.image) in
    rw (
      le-leb 3 t.fpdat o.fpdat,
      is_sized t.size o.size,
      le-leb 1 t.count o.count,
      le-leb (t.size * t.count) 65536 o.flash,
      le-leb 1 t.wait o.wait,
      (pairs_exactly t.fpdat t.pairs).1 (o.pairs, λ i h. (omega (arith, (o.registers i h).0), (o.registers i h).1)),
      le-leb 1 (t.size * pages) b,
      mul-mod_right t.size pages,
      mul-div_right pages {m = t.size} z,
      le-leb (first + pages) t.count o.inside,
    )

-- what the tests of a point say
module _ (l : Limits) (size pairs pages : ℕ) where
  point_exists : (g : Stage) (i j k q c v : ℕ) → running_in_range l.wait l.reads size pairs pages g i j k q c v ≡ true → PointExists l size pairs pages g i j k q c v
  unfolding running_in_range first_in_range place_in_range
  point_exists g i j k q c v e = go (drop k (stage_order g)) refl a.1
    where
      a : (ltb i (pages_in g pairs pages) && ltb j (blocks_in g size) ≡ true) × (first_in_range l.wait l.reads (drop k (stage_order g)) q c v ≡ true)
      a = both (ltb i (pages_in g pairs pages) && ltb j (blocks_in g size)) (first_in_range l.wait l.reads (drop k (stage_order g)) q c v) e

      go : (acts : List Act) → drop k (stage_order g) ≡ acts → first_in_range l.wait l.reads acts q c v ≡ true → PointExists l size pairs pages g i j k q c v
      go [] h f = absurd (let z : ◌≡◌ {A = ℕ} 0 1 = cc in omega arith)
      go (x ∷ later) h f =
          let d = both (ltb i (pages_in g pairs pages)) (ltb j (blocks_in g size)) a.0 in
          let m : ℕ = count_limit l.wait (reads_of l x) (strobe_at (strobes_of x) q) in
          let n : ℕ = 2 ^ samples (take q (strobes_of x)) in
          let y = both (ltb q (length (strobes_of x)) && ltb c m) (ltb v n) f in
          let z = both (ltb q (length (strobes_of x))) (ltb c m) y.0 in
          record {
            page = ltb-true i (pages_in g pairs pages) d.0;
            block = ltb-true j (blocks_in g size) d.1;
            act = x;
            later = later;
            here = h;
            strobe = ltb-true q (length (strobes_of x)) z.0;
            count = ltb-true c m z.1;
            bits = ltb-true v n y.1;
          }

  pub point_is_in_range : (g : Stage) (i j k q c v : ℕ) → PointExists l size pairs pages g i j k q c v → running_in_range l.wait l.reads size pairs pages g i j k q c v ≡ true
  unfolding running_in_range first_in_range place_in_range
  point_is_in_range g i j k q c v p =
      rw (
        lt-ltb i (pages_in g pairs pages) p.page,
        lt-ltb j (blocks_in g size) p.block,
        p.here,
        lt-ltb q (length (strobes_of p.act)) p.strobe,
        lt-ltb c (count_limit l.wait (reads_of l p.act) (strobe_at (strobes_of p.act) q)) p.count,
        lt-ltb v (2 ^ samples (take q (strobes_of p.act))) p.bits,
      )

-- what the tests of an outcome say
ends : (n : ℕ) → ends_session n ≡ true → LastNumber n
unfolding ends_session
ends n e =
    ⊎_elim (λ p. inl (eqb-true n 32 p))
    (λ p. let b = both (leb 9 n) (leb n 14) p in inr (leb-true 9 n b.0, leb-true n 14 b.1))
    (either (eqb n 32) (leb 9 n && leb n 14) e)

is_end : (n : ℕ) → LastNumber n → ends_session n ≡ true
unfolding ends_session
is_end n (inl p) = first_of (eqb n 32) (leb 9 n && leb n 14) (eq-eqb n 32 p)
is_end n (inr p) = second_of (eqb n 32) (leb 9 n && leb n 14) (rw (le-leb 9 n p.0, le-leb n 14 p.1))

outcome_stands : (bytes n o : ℕ) → ended_in_range bytes n o ≡ true → OutcomeStands bytes n o
unfolding ended_in_range offsets_of
outcome_stands bytes n o e =
    let a = both (ends_session n) (ltb o (cond (eqb n 14) bytes 1)) e in
    let b : o < cond (eqb n 14) bytes 1 = ltb-true o (cond (eqb n 14) bytes 1) a.1 in
    record {
      number = ends n a.0;
      inside = λ h. rw (eq-eqb n 14 h) at b;
      otherwise = λ h. let d : o < 1 = rw (ne_eqb n 14 h) at b in omega arith;
    }

outcome_is_in_range : (bytes n o : ℕ) → OutcomeStands bytes n o → ended_in_range bytes n o ≡ true
unfolding ended_in_range offsets_of
outcome_is_in_range bytes n o x =
    by_test (eqb n 14)
    (λ p. rw (is_end n x.number, p, lt-ltb o bytes (x.inside (eqb-true n 14 p))))
    (λ p. rw (is_end n x.number, p, x.otherwise (λ h. absurd (let y : true ≡ false = sym (eq-eqb n 14 h) ∙ p in let z : ◌≡◌ {A = ℕ} 0 1 = cc in omega arith))))

module _ (l : Limits) (size pairs pages : ℕ) where
  point_stands : (p : Point) → point_in_range l size pairs pages p ≡ true → PointStands l size pairs pages p
  point_stands (Running g i j k q c v) e = point_exists l size pairs pages g i j k q c v e
  point_stands (Ended n o) e = outcome_stands (size * pages) n o e

  standing_point : (p : Point) → PointStands l size pairs pages p → point_in_range l size pairs pages p ≡ true
  standing_point (Running g i j k q c v) e = point_is_in_range l size pairs pages g i j k q c v e
  standing_point (Ended n o) e = outcome_is_in_range (size * pages) n o e

-- what the tests of a session say
pub within_ranges : (s : Session) → in_range s ≡ true → WithinRanges s
unfolding in_range
within_ranges s e =
    let n : ℕ = opening_refusal s.settings s.first (s.settings.size * s.pages) in
    let p = both (eqb n 0 && is_tidy s.settings.pairs) (point_in_range (limits_of s.settings) s.settings.size s.settings.pairs.count s.pages s.point) e in
    let a = both (eqb n 0) (is_tidy s.settings.pairs) p.0 in
    record {
      opening = opening_passes s.settings s.first s.pages (eqb-true n 0 a.0);
      unnamed = λ i h l. (tidy_exactly s.settings.pairs).0 a.1 i h (omega (arith, l));
      point = point_stands (limits_of s.settings) s.settings.size s.settings.pairs.count s.pages s.point p.1;
    }

pub ranges_within : (s : Session) → WithinRanges s → in_range s ≡ true
unfolding in_range
ranges_within s x =
    rw (opening_would_pass s.settings s.first s.pages x.opening, (tidy_exactly s.settings.pairs).1 (λ i h l. x.unnamed i h (omega (arith, l))))
    (standing_point (limits_of s.settings) s.settings.size s.settings.pairs.count s.pages s.point x.point)

pub ranges_are : RangesAre
ranges_are s = (within_ranges s, ranges_within s)

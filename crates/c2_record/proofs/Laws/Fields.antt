-- The numbers of a session in range fit their fields of the record, and are read back.
use Rattle.std.proofs.Common.{Some}
use mathlib.Core.Path.{◌≡◌, refl, sym, ◌∙◌}
use mathlib.Core.Bool.{Bool, true, false, cond, ◌&&◌}
use mathlib.Core.List.{List, [], ◌∷◌}
use mathlib.Core.Logic.{◌⊎◌, inl, inr, ⊎_elim}
use Prim.Native.Nat.{ℕ, ◌+◌, ◌-◌, ◌*◌, ◌/◌, ◌%◌, ◌^◌, ◌<◌, ◌≤◌}
use native.Mathlib.Nat.{mul-le-mul_left, pow-le-pow_right}
use native.Mathlib.Omega.{arith}
use borrow.Author.Tests.{ltb-true, eqb-true, eqb-false, ne_eqb}
use lib.Dec.{eqb, ltb}
use lib.ListN.{length, get_or}
use Rattle.laws.specs.Bytes.{Bytes}
use Rattle.laws.proofs.Tests.{both, by_test}
use Rattle.settings.specs.declared.Settings.{Settings}
use Rattle.settings.specs.Accepted.{InBytes}
use Rattle.c2_order.specs.Conversation.{Limits, limits_of}
use Rattle.c2_acts.specs.declared.Stage.{Stage}
use Rattle.c2_acts.specs.declared.Stage.TheVariants.{Lead, Erase, Write, Read, Close, Register}
use Rattle.c2_acts.specs.declared.Task.{Task}
use Rattle.c2_acts.specs.declared.Task.TheVariants.{Reset, Pause, Address, Send, Input, Output, Ident, Status, Compare}
use Rattle.c2_session.specs.declared.Point.{Point}
use Rattle.c2_session.specs.declared.Point.TheVariants.{Running, Ended}
use Rattle.c2_session.specs.declared.Session.{Session}
use Rattle.c2_acts.specs.Code.Acts.{task_of, acts_in}
use Rattle.c2_range.specs.Range.{pages_in, blocks_in}
use Rattle.c2_range.specs.Code.Bounds.{strobes_by, limit_by, sampled_from, sampled_by}
use Rattle.c2_record.specs.Record.{stage_code, fields_of, laid, packed, settings_read, fields_read, stage_named, point_of, session_read}
use Rattle.c2_range.specs.Claims.{OpeningPasses, PointExists, OutcomeStands, PointStands}
use Rattle.c2_range.proofs.Laws.Bounds.{place_by, bounded}
use Rattle.c2_range.proofs.Laws.Range.{point_is_in_range}

at_most : (t : Bool) (x y k : ℕ) → x ≤ k → y ≤ k → cond t x y ≤ k
at_most true x y k p q = p
at_most false x y k p q = q

-- the numbers of a frame fit a byte
strobes_most : (t : Task) → strobes_by t ≤ 15
strobes_most Reset = omega arith
strobes_most Pause = omega arith
strobes_most Address = omega arith
strobes_most Send = omega arith
strobes_most Input = omega arith
strobes_most Output = omega arith
strobes_most Ident = omega arith
strobes_most Status = omega arith
strobes_most Compare = omega arith

-- limits that leave a count in its byte
pub record Small (l : Limits) : Type 0 where
  pub wait : l.wait ≤ 256
  pub reads : l.reads ≤ 256

-- the limits of a session are small
pub limits_small : (t : Settings) → t.wait < 256 → Small (limits_of t)
limits_small t h = record { wait = omega arith; reads = omega arith }

limit_most : (l : Limits) → Small l → (t : Task) (q : ℕ) → limit_by l.wait l.reads t q ≤ 256
limit_most l s Reset q = omega arith
limit_most l s Pause q = omega arith
limit_most l s Address q = omega arith
limit_most l s Send q = at_most (eqb q 13) l.wait 1 256 s.wait (omega arith)
limit_most l s Input q = s.reads
limit_most l s Output q = s.reads
limit_most l s Ident q = at_most (eqb q 5) l.wait 1 256 s.wait (omega arith)
limit_most l s Status q = at_most (eqb q 5) l.wait 1 256 s.wait (omega arith)
limit_most l s Compare q = at_most (eqb q 5) l.wait 1 256 s.wait (omega arith)

from_most : (a q : ℕ) → sampled_from a q ≤ 8
from_most a q =
    at_most (ltb q a) 0 _ 8 (omega arith)
    (by_test (ltb (q - a) 8) (λ p. rw p (omega (arith, ltb-true (q - a) 8 p))) (λ p. rw p (omega arith)))

sampled_most : (t : Task) (q : ℕ) → sampled_by t q ≤ 8
sampled_most Reset q = omega arith
sampled_most Pause q = omega arith
sampled_most Address q = omega arith
sampled_most Send q = omega arith
sampled_most Input q = from_most 3 q
sampled_most Output q = from_most 3 q
sampled_most Ident q = from_most 6 q
sampled_most Status q = from_most 6 q
sampled_most Compare q = from_most 6 q

-- the numbers of a stage fit their fields
pages_most : (g : Stage) (m n : ℕ) → m ≤ 4 → n ≤ 128 → pages_in g m n ≤ 128
pages_most Lead m n k h = omega arith
pages_most Erase m n k h = h
pages_most Write m n k h = h
pages_most Read m n k h = h
pages_most Close m n k h = omega arith
pages_most Register m n k h = omega arith

blocks_most : (g : Stage) (size : ℕ) → size ≤ 1024 → blocks_in g size ≤ 4
blocks_most Lead size h = omega arith
blocks_most Erase size h = omega arith
blocks_most Write size h = omega arith
blocks_most Read size h = omega arith
blocks_most Close size h = omega arith
blocks_most Register size h = omega arith

acts_most : (g : Stage) → acts_in g ≤ 525
acts_most Lead = omega arith
acts_most Erase = omega arith
acts_most Write = omega arith
acts_most Read = omega arith
acts_most Close = omega arith
acts_most Register = omega arith

-- settings and pages of a session in range fit their fields
pub record OpeningFits (t : Settings) (first pages : ℕ) : Type 0 where
  pub size : t.size ≤ 1024
  pub count : t.count ≤ 128
  pub first_page : first ≤ 128
  pub pages_too : pages ≤ 128
  pub bytes : t.size * pages ≤ 65536
  pub few_pairs : t.pairs.count ≤ 4

pub opening_fits : (t : Settings) (first pages : ℕ) → OpeningPasses t first pages → OpeningFits t first pages
opening_fits t first pages o = go o.size
  where
    fits : (n : ℕ) → t.size ≡ n → 512 ≤ n → n ≤ 1024 → 512 * t.count ≤ n * t.count → OpeningFits t first pages
    fits n e h k m =
        let f : n * t.count ≤ 65536 = rw e at o.flash in
        record {
          size = omega arith;
          count = omega arith;
          first_page = omega (arith, o.inside);
          pages_too = omega (arith, o.inside);
          bytes = omega (arith, mul-le-mul_left {m = pages} {n = t.count} t.size (omega (arith, o.inside)), o.flash);
          few_pairs = o.pairs;
        }

    go : (t.size ≡ 512) ⊎ (t.size ≡ 1024) → OpeningFits t first pages
    go (inl e) = fits 512 e (omega arith) (omega arith) (omega arith)
    go (inr e) = fits 1024 e (omega arith) (omega arith) (omega arith)

-- the numbers of a running point fit their fields
pub record PointFits (i j k q c v : ℕ) : Type 0 where
  pub page : i < 256
  pub block : j < 256
  pub act : k < 65536
  pub strobe : q < 256
  pub count : c < 256
  pub bits : v < 256

module _ (l : Limits) (s : Small l) (size pairs pages : ℕ) (hs : size ≤ 1024) (hq : pairs ≤ 4) (hp : pages ≤ 128) where
  pub point_fits : (g : Stage) (i j k q c v : ℕ) → PointExists l size pairs pages g i j k q c v → PointFits i j k q c v
  point_fits g i j k q c v e =
      let t : Task = task_of g k in
      let p = bounded l.wait l.reads size pairs pages g i j k q c v (point_is_in_range l size pairs pages g i j k q c v e) in
      let a = both (ltb q (strobes_by t) && ltb c (limit_by l.wait l.reads t q)) (ltb v (2 ^ sampled_by t q)) (sym (place_by l.wait l.reads t q c v) ∙ p.place) in
      let b = both (ltb q (strobes_by t)) (ltb c (limit_by l.wait l.reads t q)) a.0 in
      record {
        page = omega (arith, p.page, pages_most g pairs pages hq hp);
        block = omega (arith, p.block, blocks_most g size hs);
        act = omega (arith, p.act, acts_most g);
        strobe = omega (arith, ltb-true q (strobes_by t) b.0, strobes_most t);
        count = omega (arith, ltb-true c (limit_by l.wait l.reads t q) b.1, limit_most l s t q);
        bits = omega (arith, ltb-true v (2 ^ sampled_by t q) a.1, pow-le-pow_right {n = 2} (omega arith) {i = sampled_by t q} {j = 8} (sampled_most t q));
      }

-- the numbers of an outcome fit their fields
pub record OutcomeFits (n o : ℕ) : Type 0 where
  pub number : n < 256
  pub ended : 0 < n
  pub offset : o < 65536

pub outcome_fits : (bytes n o : ℕ) → bytes ≤ 65536 → OutcomeStands bytes n o → OutcomeFits n o
outcome_fits bytes n o h x =
    record {
      number = ⊎_elim (λ p. omega arith) (λ p. omega arith) x.number;
      ended = ⊎_elim (λ p. omega arith) (λ p. omega arith) x.number;
      offset = by_test (eqb n 14) (λ p. omega (arith, x.inside (eqb-true n 14 p))) (λ p. omega (arith, x.otherwise (eqb-false n 14 p)));
    }

-- a number that fits its field is read back
pub one_back : (x : ℕ) → x < 256 → x % 256 ≡ x
one_back x h = omega arith

two_back : (x : ℕ) → x < 65536 → x % 256 + x / 256 % 256 * 256 ≡ x
two_back x h = omega arith

stage_back : (g : Stage) → stage_named (stage_code g % 256) ≡ Some g
unfolding stage_named
stage_back Lead = refl
stage_back Erase = refl
stage_back Write = refl
stage_back Read = refl
stage_back Close = refl
stage_back Register = refl

-- the point of a record is read back
module _ (l : Limits) (small : Small l) (t : Settings) (first pages : ℕ) (o : OpeningFits t first pages) where
  pub point_back : (p : Point) → PointStands l t.size t.pairs.count pages p → point_of (fields_read (laid t first pages (fields_of p))) ≡ Some p
  unfolding point_of fields_read laid
  point_back (Running g i j k q c v) x =
      let f = point_fits l small t.size t.pairs.count pages o.size o.few_pairs o.pages_too g i j k q c v x in
      simp (
        stage_back g,
        one_back i f.page,
        one_back j f.block,
        two_back k f.act,
        one_back q f.strobe,
        one_back c f.count,
        one_back v f.bits,
      )
  point_back (Ended n e) x =
      let f = outcome_fits (t.size * pages) n e o.bytes x in
      let z : eqb n 0 ≡ false = ne_eqb n 0 (λ h. omega (arith, f.ended)) in
      simp (one_back n f.number, z, two_back e f.offset)

-- settings and pages of a record are read back
four_back : (xs : List ℕ) → length xs ≡ 4 → Bytes xs
    → get_or xs 0 0 % 256 ∷ get_or xs 1 0 % 256 ∷ get_or xs 2 0 % 256 ∷ get_or xs 3 0 % 256 ∷ [] ≡ xs
four_back [] n b = absurd (omega arith)
four_back (w ∷ []) n b = absurd (omega arith)
four_back (w ∷ x ∷ []) n b = absurd (omega arith)
four_back (w ∷ x ∷ y ∷ []) n b = absurd (omega arith)
four_back (w ∷ x ∷ y ∷ z ∷ []) n b = rw (one_back w b.0, one_back x b.1.0, one_back y b.1.1.0, one_back z b.1.1.1.0)
four_back (w ∷ x ∷ y ∷ z ∷ v ∷ vs) n b = absurd (omega arith)

pub session_back : (s : Session) → InBytes s.settings → OpeningFits s.settings s.first s.pages → session_read (packed s) s.point ≡ s
unfolding packed laid settings_read
session_back s i o =
    simp (
      one_back s.settings.id i.id,
      one_back s.settings.fpdat i.fpdat,
      one_back s.settings.wait i.wait,
      one_back s.settings.pairs.count (omega (arith, o.few_pairs)),
      four_back s.settings.pairs.registers i.four_registers i.registers,
      four_back s.settings.pairs.values i.four_values i.values,
      two_back s.settings.size (omega (arith, o.size)),
      one_back s.settings.count (omega (arith, o.count)),
      one_back s.first (omega (arith, o.first_page)),
      one_back s.pages (omega (arith, o.pages_too)),
    )

-- The claims of specs/Claims.antt, each proved under its name.
use Rattle.std.proofs.Common.{Option, Some, None}
use mathlib.Core.Path.{◌≡◌, refl, sym, ap, subst, ◌∙◌}
use mathlib.Core.Bool.{true}
use mathlib.Core.List.{List, [], ◌∷◌, map}
use Prim.Native.Nat.{ℕ, ◌/◌, ◌%◌, ◌<◌}
use native.Mathlib.Nat.{mod-lt}
use native.Mathlib.Omega.{arith}
use lib.ListN.{length, get_or, replicate}
use Rattle.laws.specs.Bytes.{Bytes}
use Rattle.laws.proofs.Bytes.{getD_byte}
use Rattle.laws.proofs.Tests.{by_test}
use Rattle.settings.specs.Registers.{pair_at}
use Rattle.c2_order.specs.Conversation.{limits_of}
use Rattle.c2_session.specs.declared.Point.{Point}
use Rattle.c2_session.specs.declared.Session.{Session}
use Rattle.c2_range.specs.Range.{in_range}
use Rattle.c2_record.specs.Record.{Unpacked, Held, Refused, fields_of, laid, packed, settings_read, fields_read, point_of, session_read, same, checked, taken_apart, unpacked}
use Rattle.c2_record.specs.Claims.{RecordOf, PackedWhole, PackUnpack, UnpackPack, UnpackedInRange, OneRecord, UnpackedExactly, RefusedExactly}
use Rattle.c2_record.proofs.Laws.Record.{same_true, packed_length, is_held, a_point}
use Rattle.c2_range.proofs.Laws.Range.{within_ranges}
use Rattle.c2_record.proofs.Laws.Fields.{limits_small, opening_fits, point_back, session_back}

-- fields of one byte, each kept to it
kept : (xs : List ℕ) → Bytes (map (λ x. x % 256) xs)
kept [] = tt
kept (x ∷ xs) = (mod-lt x {m = 256} (omega arith), kept xs)

pub packed_whole : PackedWhole
unfolding packed laid
packed_whole s =
    let t = s.settings in
    let f = fields_of s.point in
    record {
      size = packed_length s;
      bytes =
          kept (
          t.id ∷ t.fpdat ∷ t.size ∷ t.size / 256 ∷ t.count ∷ s.first ∷ s.pages ∷
          f.number ∷ f.offset ∷ f.offset / 256 ∷
          f.stage ∷ f.page ∷ f.block ∷ f.act ∷ f.act / 256 ∷ f.strobe ∷ f.count ∷ f.bits ∷
          t.wait ∷ t.pairs.count ∷
          (pair_at t.pairs 0).register ∷ (pair_at t.pairs 0).value ∷ (pair_at t.pairs 1).register ∷ (pair_at t.pairs 1).value ∷
          (pair_at t.pairs 2).register ∷ (pair_at t.pairs 2).value ∷ (pair_at t.pairs 3).register ∷ (pair_at t.pairs 3).value ∷ replicate 4 0
          );
    }

pub pack_unpack : PackUnpack
unfolding packed
pack_unpack s i e =
    let x = within_ranges s e in
    let o = opening_fits s.settings s.first s.pages x.opening in
    sym (a_point (packed s) s.point (Held s)
    (sym (point_back (limits_of s.settings) (limits_small s.settings i.wait) s.settings s.first s.pages o s.point x.point))
    (is_held s (packed s) e refl ∙ ap (λ (z : Session). checked z (packed s)) (sym (session_back s i o))))

-- a session that is held was read, with the point that the fields tell; it is in range, and these bytes are its
-- record
pub record Taken (s : Session) (r : List ℕ) : Type 0 where
  pub point : Point
  pub told : Some point ≡ point_of (fields_read r)
  pub read : session_read r point ≡ s
  pub ranges : in_range s ≡ true
  pub bytes : packed s ≡ r

checked_held : (z s : Session) (r : List ℕ) → checked z r ≡ Held s → (z ≡ s) × (in_range s ≡ true) × (packed s ≡ r)
unfolding checked
checked_held z s r e =
    by_test (in_range z)
    (λ p. by_test (same (packed z) r)
    (λ q. let d : z ≡ s = cc in (d, rw d at p, rw d at (same_true (packed z) r q)))
    (λ q. absurd (let y : ◌≡◌ {A = ℕ} 0 1 = cc in omega arith)))
    (λ p. absurd (let y : ◌≡◌ {A = ℕ} 0 1 = cc in omega arith))

pub taken : (s : Session) (r : List ℕ) → unpacked r ≡ Held s → Taken s r
unfolding unpacked
taken s r e = go (point_of (fields_read r)) refl e
  where
    go : (x : Option Point) → x ≡ point_of (fields_read r) → taken_apart x r ≡ Held s → Taken s r
    go (Some p) q h =
        let c = checked_held (session_read r p) s r h in
        record { point = p; told = q; read = c.0; ranges = c.1; bytes = c.2 }
    go None q h = absurd (let y : ◌≡◌ {A = ℕ} 0 1 = cc in omega arith)

pub unpack_pack : UnpackPack
unpack_pack s r e = (taken s r e).bytes

pub unpacked_in_range : UnpackedInRange
unpacked_in_range s r e = (taken s r e).ranges

pub one_record : OneRecord
one_record s q r d e = sym (unpack_pack s q d) ∙ unpack_pack s r e

-- a field of one byte that is read and packed again is a byte
read_byte : (x y : ℕ) → x % 256 ≡ y → y ≡ x → x < 256
read_byte x y e d = omega arith

-- every byte of a record is one, and past its end 0
small : (s : Session) (i : ℕ) → get_or (packed s) i 0 < 256
small s i = getD_byte (packed s) i (packed_whole s).bytes

-- what was read of a record is as C has it
record_of : (s : Session) (r : List ℕ) → unpacked r ≡ Held s → RecordOf s r
unfolding packed laid settings_read
record_of s r e =
    let t = taken s r e in
    let at : (i : ℕ) → get_or (packed s) i 0 ≡ get_or r i 0 = λ i. ap (λ (x : List ℕ). get_or x i 0) t.bytes in
    let low : (i : ℕ) → get_or r i 0 < 256 = λ i. rw (← at i) (small s i) in
    let rs = ap (λ (x : Session). x.settings.pairs.registers) t.read in
    let vs = ap (λ (x : Session). x.settings.pairs.values) t.read in
    let br : Bytes (session_read r t.point).settings.pairs.registers = (low 20, (low 22, (low 24, (low 26, tt)))) in
    let bv : Bytes (session_read r t.point).settings.pairs.values = (low 21, (low 23, (low 25, (low 27, tt)))) in
    record {
      settings = record {
        id = read_byte s.settings.id (get_or r 0 0) (at 0) (ap (λ (x : Session). x.settings.id) t.read);
        fpdat = read_byte s.settings.fpdat (get_or r 1 0) (at 1) (ap (λ (x : Session). x.settings.fpdat) t.read);
        wait = read_byte s.settings.wait (get_or r 18 0) (at 18) (ap (λ (x : Session). x.settings.wait) t.read);
        four_registers = sym (ap length rs);
        registers = subst (λ (xs : List ℕ). Bytes xs) rs br;
        four_values = sym (ap length vs);
        values = subst (λ (xs : List ℕ). Bytes xs) vs bv;
      };
      ranges = t.ranges;
      bytes = t.bytes;
    }

of_record : (s : Session) (r : List ℕ) → RecordOf s r → unpacked r ≡ Held s
of_record s r x = ap (λ (q : List ℕ). unpacked q) (sym x.bytes) ∙ pack_unpack s x.settings x.ranges

pub unpacked_exactly : UnpackedExactly
unpacked_exactly s r = (record_of s r, of_record s r)

pub refused_exactly : RefusedExactly
refused_exactly r = (λ e s x. never s e (of_record s r x), λ n. go (unpacked r) refl n)
  where
    never : (s : Session) → unpacked r ≡ Refused → unpacked r ≡ Held s → ⊥
    never s d e = let y : ◌≡◌ {A = ℕ} 0 1 = cc in omega arith

    go : (u : Unpacked) → unpacked r ≡ u → ((s : Session) → RecordOf s r → ⊥) → unpacked r ≡ Refused
    go (Held s) e n = absurd (n s (record_of s r e))
    go Refused e n = e

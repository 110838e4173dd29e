-- A session that was read from a record packs to it exactly where the bytes not in use are 0.
use Rattle.std.proofs.Common.{Option, Some, None}
use mathlib.Core.Path.{◌≡◌, refl, sym, ap, ◌∙◌}
use mathlib.Core.Bool.{Bool, true, false, cond, true≢false}
use mathlib.Core.List.{List}
use Prim.Native.Nat.{ℕ, ◌+◌, ◌*◌, ◌/◌, ◌%◌, ◌<◌}
use native.Mathlib.Omega.{arith}
use borrow.Author.Tests.{eqb-true, eqb-false, eq-eqb, ne_eqb}
use lib.Dec.{eqb}
use lib.ListN.{length, get_or}
use lib.Seq.{ext_get_or}
use Rattle.laws.proofs.Below.{same_below}
use Rattle.laws.proofs.Tests.{by_test, not_second}
use Rattle.c2_acts.specs.declared.Stage.{Stage}
use Rattle.c2_acts.specs.declared.Stage.TheVariants.{Lead, Erase, Write, Read, Close, Register}
use Rattle.c2_session.specs.declared.Point.{Point}
use Rattle.c2_session.specs.declared.Point.TheVariants.{Running, Ended}
use Rattle.c2_session.specs.declared.Session.{Session}
use Rattle.c2_range.specs.Range.{in_range}
use Rattle.c2_record.specs.Record.{Unpacked, Held, Refused, stage_code, fields_of, laid, packed, byte, two_bytes, settings_read, fields_read, stage_named, running_at, point_of, session_read, same, checked, unpacked}
use Rattle.c2_record.specs.Code.Spare.{four, all_zero, unused, spare}
use Rattle.c2_record.proofs.Laws.Record.{same_is, same_not, a_point}
use Rattle.c2_record.proofs.Laws.Fields.{one_back}

-- the stage of a byte is packed to that byte
stage_read : (n : ℕ) (g : Stage) → Some g ≡ stage_named n → stage_code g ≡ n
unfolding stage_named
stage_read n g e =
    this 0 Lead _ refl (this 1 Erase _ refl (this 2 Write _ refl (this 3 Read _ refl (this 4 Close _ refl (this 5 Register _ refl (λ h. absurd (let z : ◌≡◌ {A = ℕ} 0 1 = cc in omega arith))))))) e
  where
    this : (k : ℕ) (h : Stage) (x : Option Stage) → stage_code h ≡ k → (Some g ≡ x → stage_code g ≡ n) → Some g ≡ cond (eqb n k) (Some h) x → stage_code g ≡ n
    this k h x s next e =
        by_test (eqb n k)
        (λ p. let d : Some g ≡ Some h = rw p at e in let q : g ≡ h = cc in rw q (s ∙ sym (eqb-true n k p)))
        (λ p. next (rw p at e))

-- a pair of bytes is packed to them
low_back : (x y : ℕ) → x < 256 → (x + y * 256) % 256 ≡ x
low_back x y h = omega arith

high_back : (x y : ℕ) → x < 256 → y < 256 → (x + y * 256) / 256 % 256 ≡ y
high_back x y h k = omega arith

four_zero : (a b c d : ℕ) → four a b c d ≡ 0 → (a ≡ 0) × (b ≡ 0) × (c ≡ 0) × (d ≡ 0)
four_zero a b c d e = (omega arith, omega arith, omega arith, omega arith)

-- eight bytes are 0 where the test of them passes
abbrev Zeros : List ℕ → ℕ → Type 0
Zeros r i =
    (byte r i ≡ 0) × (byte r (i + 1) ≡ 0) × (byte r (i + 2) ≡ 0) × (byte r (i + 3) ≡ 0) ×
    (byte r (i + 4) ≡ 0) × (byte r (i + 5) ≡ 0) × (byte r (i + 6) ≡ 0) × (byte r (i + 7) ≡ 0)

zeros_are : (r : List ℕ) (i : ℕ) → all_zero r i ≡ true → Zeros r i
unfolding all_zero
zeros_are r i e =
    let t = not_second (eqb (four (byte r i) (byte r (i + 1)) (byte r (i + 2)) (byte r (i + 3))) 0) _ e in
    let a = four_zero (byte r i) (byte r (i + 1)) (byte r (i + 2)) (byte r (i + 3)) (eqb-true _ 0 t.0) in
    let b = four_zero (byte r (i + 4)) (byte r (i + 5)) (byte r (i + 6)) (byte r (i + 7)) (eqb-true _ 0 t.1) in
    (a.0, a.1, a.2, a.3, b.0, b.1, b.2, b.3)

zeros_pass : (r : List ℕ) (i : ℕ) → Zeros r i → all_zero r i ≡ true
unfolding all_zero
zeros_pass r i z = rw (z.0, z.1, z.2, z.3, z.4, z.5, z.6, z.7)

-- the point that was read: of a session that runs, or of one that has ended
abbrev running_read : List ℕ → Stage → Point
running_read r g = Running g (byte r 11) (byte r 12) (two_bytes r 13) (byte r 15) (byte r 16) (byte r 17)

abbrev pub ended_read : List ℕ → Point
ended_read r = Ended (byte r 7) (two_bytes r 8)

pub by_point : (r : List ℕ) (C : Point → Type 0)
    → ((g : Stage) → byte r 7 ≡ 0 → stage_code g ≡ byte r 10 → C (running_read r g)) → ((byte r 7 ≡ 0 → ⊥) → C (ended_read r))
    → (p : Point) → Some p ≡ point_of (fields_read r) → C p
unfolding point_of fields_read
by_point r C runs ended p e =
    by_test (eqb (byte r 7) 0)
    (λ t. runs_at (stage_named (byte r 10)) refl (eqb-true (byte r 7) 0 t) (rw t at e))
    (λ t. let h : Some p ≡ Some (ended_read r) = rw t at e in let q : ended_read r ≡ p = cc in rw (← q) (ended (eqb-false (byte r 7) 0 t)))
  where
    runs_at : (x : Option Stage) → x ≡ stage_named (byte r 10) → byte r 7 ≡ 0 → Some p ≡ running_at x (fields_read r) → C p
    runs_at (Some g) s z h = let q : running_read r g ≡ p = cc in rw (← q) (runs g z (stage_read (byte r 10) g s))
    runs_at None s z h = absurd (let y : ◌≡◌ {A = ℕ} 0 1 = cc in omega arith)

-- settings, pages and fields that were read are packed to their bytes, and to 0 behind them
fills : (r : List ℕ) → length r ≡ 32 → ((i : ℕ) → byte r i < 256) → spare r ≡ true → laid (settings_read r) (byte r 5) (byte r 6) (fields_read r) ≡ r
unfolding spare laid settings_read fields_read
fills r n b e =
    let x = four_zero (byte r 28) (byte r 29) (byte r 30) (byte r 31) (eqb-true _ 0 e) in
    ext_get_or 0 _ r (sym n)
    (same_below (λ i. get_or (laid (settings_read r) (byte r 5) (byte r 6) (fields_read r)) i 0) (byte r) 32
    (rw (
      one 0,
      one 1,
      low 2,
      high 2,
      one 4,
      one 5,
      one 6,
      one 7,
      low 8,
      high 8,
      one 10,
      one 11,
      one 12,
      low 13,
      high 13,
      one 15,
      one 16,
      one 17,
      one 18,
      one 19,
      one 20,
      one 21,
      one 22,
      one 23,
      one 24,
      one 25,
      one 26,
      one 27,
      x.0,
      x.1,
      x.2,
      x.3,
    )))
  where
    one : (i : ℕ) → byte r i % 256 ≡ byte r i
    one i = one_back (byte r i) (b i)

    low : (i : ℕ) → two_bytes r i % 256 ≡ byte r i
    low i = low_back (byte r i) (byte r (i + 1)) (b i)

    high : (i : ℕ) → two_bytes r i / 256 % 256 ≡ byte r (i + 1)
    high i = high_back (byte r i) (byte r (i + 1)) (b i) (b (i + 1))

-- the session that was read, if the tests of its bytes pass and it is in range
unfoldable pub checked_by : Session → List ℕ → Unpacked
checked_by s r = cond (unused r) (cond (spare r) (cond (in_range s) (Held s) Refused) Refused) Refused

-- the code's tests decide as the definition's do, which come in another order
reorder : (a b i : Bool) (x y : Unpacked) → cond a (cond b (cond i x y) y) y ≡ cond i (cond (cond a b false) x y) y
reorder true true i x y = refl
reorder true false true x y = refl
reorder true false false x y = refl
reorder false b true x y = refl
reorder false b false x y = refl

byte_again : (s : Session) (r : List ℕ) → packed s ≡ r → (i : ℕ) → byte r i ≡ byte (packed s) i
byte_again s r e i = ap (λ (x : List ℕ). byte x i) (sym e)

module _ (r : List ℕ) (n : length r ≡ 32) (b : (i : ℕ) → byte r i < 256) where
  -- a record leaves the spare bytes at 0
  spare_left : (p : Point) → packed (session_read r p) ≡ r → spare r ≡ true
  unfolding packed laid spare
  spare_left p e =
      let at = byte_again (session_read r p) r e in
      rw (at 28, at 29, at 30, at 31)

  -- The session read packs to these bytes exactly where the tests pass: its fields are then those read, and
  -- the record's pass.
  decides : (p : Point) → (unused r ≡ true → fields_of p ≡ fields_read r) → (packed (session_read r p) ≡ r → unused r ≡ true)
      → same (packed (session_read r p)) r ≡ cond (unused r) (spare r) false
  unfolding packed
  decides p f u =
      by_test (cond (unused r) (spare r) false)
      (λ t. let h = not_second (unused r) (spare r) t in rw t (same_is (packed (session_read r p)) r (rw (f h.0) (fills r n b h.1))))
      (λ t. rw t (same_not (packed (session_read r p)) r (λ e. true≢false (sym (rw (u e) (spare_left p e)) ∙ t))))

  runs_decide : (g : Stage) → byte r 7 ≡ 0 → stage_code g ≡ byte r 10
      → same (packed (session_read r (running_read r g))) r ≡ cond (unused r) (spare r) false
  unfolding unused packed laid fields_read
  runs_decide g z s =
      decides (running_read r g)
      (λ u. let o : eqb (two_bytes r 8) 0 ≡ true = rw (eq-eqb (byte r 7) 0 z) at u in rw (z, eqb-true (two_bytes r 8) 0 o, s))
      (λ e. let at = byte_again (session_read r (running_read r g)) r e in rw (z, at 8, at 9))

  ended_decides : (byte r 7 ≡ 0 → ⊥) → same (packed (session_read r (ended_read r))) r ≡ cond (unused r) (spare r) false
  unfolding unused packed laid fields_read
  ended_decides z =
      let d = ne_eqb (byte r 7) 0 z in
      decides (ended_read r)
      (λ u. let x = zeros_are r 10 (rw d at u) in rw (x.0, x.1, x.2, x.3, x.4, x.5, x.6, x.7))
      (λ e. let at = byte_again (session_read r (ended_read r)) r e in rw (d, zeros_pass r 10 (at 10, at 11, at 12, at 13, at 14, at 15, at 16, at 17)))

  -- A session that was read is unpacked where the code's tests pass.
  pub as_checked : (p : Point) (x : Unpacked) → Some p ≡ point_of (fields_read r) → x ≡ checked_by (session_read r p) r → x ≡ unpacked r
  unfolding checked checked_by
  as_checked p x e h =
      let s : Session = session_read r p in
      let d = by_point r (λ q. same (packed (session_read r q)) r ≡ cond (unused r) (spare r) false) runs_decide ended_decides p e in
      a_point r p x e (h ∙ rw d (reorder (unused r) (spare r) (in_range s) (Held s) Refused))

-- The tests of a record's bytes pass exactly where it holds a session.
use Rattle.std.proofs.Common.{Option, Some, None}
use mathlib.Core.Path.{◌≡◌, refl, ap, ◌∙◌}
use mathlib.Core.Bool.{Bool, true, false, cond, ◌&&◌}
use mathlib.Core.List.{List}
use Prim.Native.Nat.{ℕ, ◌<◌, ◌≤◌}
use native.Mathlib.Omega.{arith}
use borrow.Author.Tests.{eqb-false, lt-ltb, le-ltb, eq-eqb, ne_eqb}
use lib.Dec.{eqb}
use lib.ListN.{length}
use Rattle.laws.proofs.Tests.{by_test}
use Rattle.settings.specs.declared.Settings.{Settings}
use Rattle.c2_order.specs.Conversation.{Limits, limits_of}
use Rattle.c2_acts.specs.declared.Stage.{Stage}
use Rattle.c2_acts.specs.declared.Stage.TheVariants.{Lead, Erase, Write, Read, Close, Register}
use Rattle.c2_session.specs.declared.Point.{Point}
use Rattle.c2_session.specs.declared.Session.{Session}
use Rattle.c2_range.specs.Range.{opening_in_range, point_in_range, in_range}
use Rattle.c2_record.specs.declared.Fields.{Fields}
use Rattle.c2_record.specs.Code.Holds.{is_session}
use Rattle.c2_record.specs.Record.{Held, Refused, stage_code, byte, settings_read, fields_read, stage_named, running_at, point_of, session_read, unpacked}
use Rattle.c2_record.specs.Code.Spare.{unused, spare}
use Rattle.c2_record.specs.Code.Holds.{running_holds, point_holds, bytes_hold}
use Rattle.c2_record.proofs.Laws.Record.{no_point}
use Rattle.c2_record.proofs.Laws.Spare.{ended_read, by_point, checked_by, as_checked}
use Rattle.c2_record.proofs.Laws.Said.{stage_again}

-- the stages' bytes are those below 6
stage_below : (g : Stage) → stage_code g < 6
stage_below Lead = omega arith
stage_below Erase = omega arith
stage_below Write = omega arith
stage_below Read = omega arith
stage_below Close = omega arith
stage_below Register = omega arith

-- a byte that is no stage's is none of them
unlike : (n k : ℕ) (g : Stage) (x : Option Stage) → None ≡ cond (eqb n k) (Some g) x → (n ≡ k → ⊥) × (None ≡ x)
unlike n k g x e =
    by_test (eqb n k)
    (λ p. let h : None ≡ Some g = rw p at e in absurd (let y : ◌≡◌ {A = ℕ} 0 1 = cc in omega arith))
    (λ p. (eqb-false n k p, rw p at e))

no_stage : (n : ℕ) → None ≡ stage_named n → 6 ≤ n
unfolding stage_named
no_stage n e =
    let a = unlike n 0 Lead _ e in
    let b = unlike n 1 Erase _ a.1 in
    let c = unlike n 2 Write _ b.1 in
    let d = unlike n 3 Read _ c.1 in
    let f = unlike n 4 Close _ d.1 in
    let g = unlike n 5 Register _ f.1 in
    omega (arith, a.0, b.0, c.0, d.0, f.0, g.0)

unnamed : (x : Option Stage) (f : Fields) → None ≡ running_at x f → None ≡ x
unnamed (Some g) f e = absurd (let y : ◌≡◌ {A = ℕ} 0 1 = cc in omega arith)
unnamed None f e = refl

-- the code's tests, in another order
in_order : (u p o i : Bool) (s : Session) → cond p (cond o (cond u i false) false) false ≡ is_session (cond u (cond p (cond (o && i) (Held s) Refused) Refused) Refused)
in_order true true true true s = refl
in_order true true true false s = refl
in_order true true false i s = refl
in_order true false o i s = refl
in_order false true true i s = refl
in_order false true false i s = refl
in_order false false o i s = refl

none : (a b c : Bool) → cond a (cond b (cond c false false) false) false ≡ false
none true true true = refl
none true true false = refl
none true false c = refl
none false b c = refl

module _ (r : List ℕ) where
  abbrev l : Limits
  l = limits_of (settings_read r)

  -- the test of the point that was read
  point_test : (p : Point) → Some p ≡ point_of (fields_read r)
      → point_holds l (settings_read r).size (settings_read r).pairs.count (byte r 6) r ≡ point_in_range l (settings_read r).size (settings_read r).pairs.count (byte r 6) p
  unfolding point_holds running_holds
  point_test p e =
      by_point r (λ q. point_holds l (settings_read r).size (settings_read r).pairs.count (byte r 6) r ≡ point_in_range l (settings_read r).size (settings_read r).pairs.count (byte r 6) q)
      (λ g z s. let b : stage_code g < 6 = stage_below g in rw (eq-eqb (byte r 7) 0 z, ← s, lt-ltb (stage_code g) 6 b, stage_again g))
      (λ z. rw (ne_eqb (byte r 7) 0 z))
      p e

  -- without a point the test of it fails
  no_point_test : None ≡ point_of (fields_read r) → point_holds l (settings_read r).size (settings_read r).pairs.count (byte r 6) r ≡ false
  unfolding point_holds running_holds point_of fields_read
  no_point_test e =
      by_test (eqb (byte r 7) 0)
      (λ p. rw (p, le-ltb (byte r 10) 6 (no_stage (byte r 10) (unnamed (stage_named (byte r 10)) (fields_read r) (rw p at e)))))
      (λ p. let h : None ≡ Some (ended_read r) = rw p at e in absurd (let y : ◌≡◌ {A = ℕ} 0 1 = cc in omega arith))

  module _ (n : length r ≡ 32) (b : (i : ℕ) → byte r i < 256) where
    pub holds_is : bytes_hold r ≡ is_session (unpacked r)
    unfolding bytes_hold checked_by in_range
    holds_is = go (point_of (fields_read r)) refl
      where
        go : (x : Option Point) → x ≡ point_of (fields_read r) → bytes_hold r ≡ is_session (unpacked r)
        go (Some p) e =
            rw (point_test p e) (in_order (unused r) (spare r) (opening_in_range (settings_read r) (byte r 5) (byte r 6)) (point_in_range l (settings_read r).size (settings_read r).pairs.count (byte r 6) p) (session_read r p))
            ∙ ap is_session (as_checked r n b p (checked_by (session_read r p) r) e refl)
        go None e = rw (no_point_test e) (none (spare r) (opening_in_range (settings_read r) (byte r 5) (byte r 6)) (unused r)) ∙ ap is_session (no_point r e)

-- The code's tests, one after the other as far as one fails, decide as `bytes_hold` does.
in_turn : (a b c d : Bool) → cond (cond (cond a b false) c false) d false ≡ cond a (cond b (cond c d false) false) false
in_turn true true true d = refl
in_turn true true false d = refl
in_turn true false c d = refl
in_turn false b c d = refl

pub tests_hold : (r : List ℕ) → length r ≡ 32 → ((i : ℕ) → byte r i < 256) → (t : Settings) → t ≡ settings_read r → (pages : ℕ) → pages ≡ byte r 6
    → (x y z : Bool) → x ≡ cond (spare r) (opening_in_range t (byte r 5) pages) false → y ≡ cond x (unused r) false
    → z ≡ cond y (point_holds (limits_of t) t.size t.pairs.count pages r) false → z ≡ is_session (unpacked r)
unfolding bytes_hold
tests_hold r n b t et pages ep x y z ex ey ez =
    let h : z ≡ bytes_hold r = ez ∙ rw (ey, ex, et, ep) (in_turn (spare r) _ (unused r) _) in
    h ∙ holds_is r n b

-- The point and the session that a record says are those that it holds.
use Rattle.std.proofs.Common.{Some, None}
use mathlib.Core.Path.{◌≡◌, refl, sym, ap, ◌∙◌}
use mathlib.Core.Bool.{true}
use mathlib.Core.List.{List}
use Prim.Native.Nat.{ℕ}
use native.Mathlib.Omega.{arith}
use borrow.Author.Tests.{eq-eqb, ne_eqb}
use lib.ListN.{length}
use Rattle.c2_acts.specs.declared.Stage.{Stage}
use Rattle.c2_acts.specs.declared.Stage.TheVariants.{Lead, Erase, Write, Read, Close, Register}
use Rattle.c2_session.specs.declared.Point.{Point}
use Rattle.c2_session.specs.declared.Session.{Session}
use Rattle.c2_record.specs.Code.Holds.{is_session}
use Rattle.c2_record.specs.Record.{Unpacked, Held, Refused, stage_code, byte, fields_read, point_of, session_read, unpacked, reached_in}
use Rattle.c2_record.specs.Code.Said.{stage_said, point_said, session_beside}
use Rattle.c2_record.proofs.Laws.Record.{packed_length}
use Rattle.c2_record.proofs.Laws.Claims.{taken}
use Rattle.c2_record.proofs.Laws.Spare.{by_point}

pub stage_again : (g : Stage) → stage_said (stage_code g) ≡ g
unfolding stage_said
stage_again Lead = refl
stage_again Erase = refl
stage_again Write = refl
stage_again Read = refl
stage_again Close = refl
stage_again Register = refl

-- the point that bytes say is the one that their fields tell, if they tell one
point_said_is : (r : List ℕ) (p : Point) → Some p ≡ point_of (fields_read r) → point_said r ≡ p
unfolding point_said
point_said_is r p e =
    by_point r (λ q. point_said r ≡ q)
    (λ g z s. rw (eq-eqb (byte r 7) 0 z, ← s, stage_again g))
    (λ z. rw (ne_eqb (byte r 7) 0 z))
    p e

-- a record that holds a session at a point says that session beside the point
pub held_beside : (r : List ℕ) (s : Session) → unpacked r ≡ Held s → session_beside s.point r ≡ s
unfolding session_beside
held_beside r s e =
    let t = taken s r e in
    let n : length r ≡ 32 = sym (ap length t.bytes) ∙ packed_length s in
    let p : s.point ≡ t.point = sym (ap (λ (x : Session). x.point) t.read) in
    rw (eq-eqb (length r) 32 n) (ap (session_read r) p ∙ t.read)

-- the point that bytes say is that of the session that they hold
pub said_reached : (r : List ℕ) → is_session (unpacked r) ≡ true → Some (point_said r) ≡ reached_in (unpacked r)
said_reached r h = go (unpacked r) refl h
  where
    go : (u : Unpacked) → unpacked r ≡ u → is_session u ≡ true → Some (point_said r) ≡ reached_in u
    go (Held s) e k =
        let t = taken s r e in
        ap Some (point_said_is r t.point t.told ∙ ap (λ (x : Session). x.point) t.read)
    go Refused e k = absurd (let y : ◌≡◌ {A = ℕ} 0 1 = cc in omega arith)

-- where a point is reached a record holds the session beside it, and where none is, none
module _ (r : List ℕ) where
  pub reached_held : (p : Point) → Some p ≡ reached_in (unpacked r) → unpacked r ≡ Held (session_beside p r)
  reached_held p h = go (unpacked r) refl h
    where
      go : (u : Unpacked) → unpacked r ≡ u → Some p ≡ reached_in u → u ≡ Held (session_beside p r)
      go (Held s) e k =
          let q : p ≡ s.point = cc in
          ap Held (sym (held_beside r s e) ∙ ap (λ (x : Point). session_beside x r) (sym q))
      go Refused e k = absurd (let y : ◌≡◌ {A = ℕ} 0 1 = cc in omega arith)

  pub nowhere_refused : None ≡ reached_in (unpacked r) → unpacked r ≡ Refused
  nowhere_refused h = go (unpacked r) h
    where
      go : (u : Unpacked) → None ≡ reached_in u → u ≡ Refused
      go (Held s) k = absurd (let y : ◌≡◌ {A = ℕ} 0 1 = cc in omega arith)
      go Refused k = refl

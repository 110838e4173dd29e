-- A point written into the record of a session makes it that of the session at this point.
use mathlib.Core.Path.{◌≡◌, refl, sym, ap, ◌∙◌}
use mathlib.Core.List.{List}
use Prim.Native.Nat.{ℕ}
use borrow.Author.Tests.{eq-eqb, ne_eqb}
use lib.ListN.{length}
use Rattle.c2_session.specs.declared.Point.{Point}
use Rattle.c2_session.specs.declared.Session.{Session}
use Rattle.c2_session.specs.Code.Advance.{with_point}
use Rattle.c2_record.specs.declared.Fields.{Fields}
use Rattle.c2_record.specs.Record.{Held, fields_of, laid, packed, unpacked}
use Rattle.c2_record.specs.Code.Put.{outcome_put, act_put, place_put, point_put}
use Rattle.c2_record.proofs.Laws.Claims.{unpack_pack}

-- what the code writes: nothing, or the fields one after the other
pub put_none : (p : Point) (r : List ℕ) → (length r ≡ 32 → ⊥) → r ≡ point_put p r
unfolding point_put
put_none p r n = rw (ne_eqb (length r) 32 n)

pub put_fields : (p : Point) (r : List ℕ) → length r ≡ 32 → (f : Fields) → f ≡ fields_of p
    → (x y z : List ℕ) → x ≡ outcome_put f r → y ≡ act_put f x → z ≡ place_put f y → z ≡ point_put p r
unfolding point_put
put_fields p r n f e x y z ex ey ez =
    rw (eq-eqb (length r) 32 n, ← e) (ez ∙ ap (λ (q : List ℕ). place_put f q) (ey ∙ ap (λ (q : List ℕ). act_put f q) ex))

over_packed : (s : Session) (p : Point) → point_put p (packed s) ≡ packed (with_point s p)
unfolding point_put packed laid
over_packed s p = refl

pub put_packs : (r : List ℕ) (s : Session) (p : Point) → unpacked r ≡ Held s → point_put p r ≡ packed (with_point s p)
put_packs r s p e = ap (point_put p) (sym (unpack_pack s r e)) ∙ over_packed s p

-- The claims of specs/Claims.antt, each proved under its name.
use mathlib.Core.Path.{◌≡◌, refl, sym, ap, ◌∙◌}
use mathlib.Core.Bool.{Bool, true, false, ◌&&◌}
use mathlib.Core.List.{List, ◌++◌}
use Prim.Native.Nat.{ℕ, ◌*◌}
use native.Mathlib.Omega.{arith}
use lib.Dec.{eqb}
use lib.ListN.{length}
use Rattle.laws.proofs.Tests.{both}
use Rattle.c2_wire.specs.Exchange.{Outcome, outcome}
use Rattle.c2_wire.specs.Place.{place}
use Rattle.c2_wire.specs.declared.Place.{Place}
use Rattle.settings.specs.Opening.{opening_refusal}
use Rattle.settings.specs.Registers.{is_tidy}
use Rattle.c2_order.specs.Acts.{Act}
use Rattle.c2_order.specs.Order.{session_order}
use Rattle.c2_order.specs.Conversation.{limits, limits_of}
use Rattle.c2_order.proofs.Laws.Conversation.{limits_positive}
use Rattle.c2_session.specs.declared.Point.TheVariants.{Running, Ended}
use Rattle.c2_session.specs.declared.Session.{Session}
use Rattle.c2_acts.specs.Code.Acts.{task_of}
use Rattle.c2_session.specs.Code.Next.{act_at, strobe_point}
use Rattle.c2_range.specs.Range.{in_range, point_in_range}
use Rattle.c2_range.specs.Code.Bounds.{strobes_in, reads_in}
use Rattle.c2_position.specs.Position.{acts_from, at_act, point_position}
use Rattle.c2_position.specs.Claims.{Placed, InOrder, OneSession, EachPoint}
use Rattle.c2_position.proofs.Laws.Position.{Fits, act_here, act_byte}
use Rattle.c2_position.proofs.Laws.Onward.{rest_from, acts_here}
use Rattle.c2_session.specs.Code.Advance.{with_point}
use Rattle.c2_position.proofs.Laws.Advanced.{SessionPoint, fits_of, point_of, position_keeps}
use Rattle.c2_range.proofs.Laws.Bounds.{bounded}
use Rattle.c2_position.proofs.Laws.Range.{place_exists}
use Rattle.c2_position.proofs.Laws.Exchange.{task_exists}
use Rattle.c2_position.proofs.Laws.Before.{acts_end}
use Rattle.c2_position.proofs.Laws.Left.{acts_length, one_at}
use Rattle.c2_position.proofs.Laws.Each.{acts_of, acts_there, point_there}
use Rattle.c2_order.specs.Point

pub in_order : InOrder
unfolding point_position
in_order s image e l = go s.point (point_of s e)
  where
    w : ℕ
    w = (limits_of s.settings).wait

    r : ℕ
    r = (limits_of s.settings).reads

    h : Fits s image
    h = fits_of s image e l

    go : (y : SessionPoint) → point_in_range (limits_of s.settings) s.settings.size s.settings.pairs.count s.pages y ≡ true
        → Placed (limits_of s.settings) (session_order s.settings s.first image) y (point_position s image y)
    go (Running g i j k q c v) f =
        let n = bounded w r s.settings.size s.settings.pairs.count s.pages g i j k q c v f in
        let x = place_exists w (reads_in r (task_of g k)) (strobes_in (task_of g k)) (place q c v) n.place in
        let p = task_exists w r (task_of g k) (act_byte s image h g (act_at g i j k)) s.settings.id _ (place q c v) x in
        let a = acts_here s image h g i j k n.page n.block n.act in
        let b = acts_end s image h g i j k n.page n.block in
        record {
          before = b.0;
          act = act_here s image h g (act_at g i j k);
          later = rest_from s image h g i j k;
          place = place q c v;
          here = ap (λ (z : List Act). at_act z (place q c v)) a;
          whole = ap (λ (z : List Act). b.0 ++ z) (sym a) ∙ b.1;
          strobe = p.inside;
          count = p.counted;
          bits = p.sampled_only;
        }
    go (Ended n o) f = refl

-- what is seen of a point of the order: whether it is running, its place, and its outcome
abbrev runs : Point.Point → Bool
runs (Point.running a acts p) = true
runs (Point.ended o) = false

abbrev place_of : Point.Point → Place
place_of (Point.running a acts p) = p
place_of (Point.ended o) = place 0 0 0

abbrev outcome_at : Point.Point → Outcome
outcome_at (Point.running a acts p) = outcome 0
outcome_at (Point.ended o) = o

-- points of a session, in range, that name the same point of the order are the same
module _ (w r : ℕ) (s : Session) (image : List ℕ) (h : Fits s image) where
  abbrev In : SessionPoint → Type 0
  In y = point_in_range (limits w r) s.settings.size s.settings.pairs.count s.pages y ≡ true

  one_point : (y z : SessionPoint) → In y → In z → point_position s image y ≡ point_position s image z → y ≡ z
  unfolding point_position
  one_point (Running g i j k q c v) (Running g₁ i₁ j₁ k₁ q₁ c₁ v₁) e f x =
      let n = bounded w r s.settings.size s.settings.pairs.count s.pages g i j k q c v e in
      let m = bounded w r s.settings.size s.settings.pairs.count s.pages g₁ i₁ j₁ k₁ q₁ c₁ v₁ f in
      let a = acts_here s image h g i j k n.page n.block n.act in
      let b = acts_here s image h g₁ i₁ j₁ k₁ m.page m.block m.act in
      let acts = sym (acts_there (acts_from g s image i j k) (place q c v)) ∙ ap acts_of x ∙ acts_there (acts_from g₁ s image i₁ j₁ k₁) (place q₁ c₁ v₁) in
      let left = sym (acts_length s image h g i j k n.page n.block n.act) ∙ ap length acts ∙ acts_length s image h g₁ i₁ j₁ k₁ m.page m.block m.act in
      let d : act_at g i j k ≡ act_at g₁ i₁ j₁ k₁ = one_at s.settings.pairs.count s.pages s.settings.size h.settings.few_pairs (omega (arith, h.settings.size, h.settings.some)) g g₁ i j k i₁ j₁ k₁ n.page n.block n.act m.page m.block m.act left in
      let p : place q c v ≡ place q₁ c₁ v₁
      = sym (ap (λ (u : List Act). place_of (at_act u (place q c v))) a) ∙ ap place_of x ∙ ap (λ (u : List Act). place_of (at_act u (place q₁ c₁ v₁))) b in
      λ t. strobe_point (d t) (p t)
  one_point (Running g i j k q c v) (Ended n o) e f x =
      let m = bounded w r s.settings.size s.settings.pairs.count s.pages g i j k q c v e in
      let a = acts_here s image h g i j k m.page m.block m.act in
      let z : true ≡ false = sym (ap (λ (u : List Act). runs (at_act u (place q c v))) a) ∙ ap runs x in
      absurd (let y : ◌≡◌ {A = ℕ} 0 1 = cc in omega arith)
  one_point (Ended n o) (Running g i j k q c v) e f x =
      let m = bounded w r s.settings.size s.settings.pairs.count s.pages g i j k q c v f in
      let a = acts_here s image h g i j k m.page m.block m.act in
      let z : false ≡ true = ap runs x ∙ ap (λ (u : List Act). runs (at_act u (place q c v))) a in
      absurd (let y : ◌≡◌ {A = ℕ} 0 1 = cc in omega arith)
  one_point (Ended n o) (Ended n₁ o₁) e f x = let d = ap outcome_at x in λ t. Ended (d t).number (d t).offset

pub one_session : OneSession
one_session s t image e f d p n l x =
    let same : t ≡ with_point s t.point = λ i. record { settings = sym d i; first = sym p i; pages = sym n i; point = t.point } in
    let there = ap (λ (z : Session). point_position z image t.point) same ∙ position_keeps s t.point image t.point in
    let range : point_in_range (limits_of s.settings) s.settings.size s.settings.pairs.count s.pages t.point ≡ true = rw (d, n) (point_of t f) in
    let q = one_point (limits_of s.settings).wait (limits_of s.settings).reads s image (fits_of s image e l) s.point t.point (point_of s e) range (x ∙ there) in
    λ i. record { settings = d i; first = p i; pages = n i; point = q i }

pub each_point : EachPoint
unfolding in_range
each_point s image e l x h =
    let o = both (eqb (opening_refusal s.settings s.first (s.settings.size * s.pages)) 0 && is_tidy s.settings.pairs) (point_in_range (limits_of s.settings) s.settings.size s.settings.pairs.count s.pages s.point) e in
    let p = limits_positive s.settings (fits_of s image e l).settings in
    let y = point_there (limits_of s.settings).wait (limits_of s.settings).reads p.wait p.reads s image (fits_of s image e l) x h in
    record {
      session = with_point s y.0;
      settings = refl;
      first_page = refl;
      pages = refl;
      range = rw o.0 y.1;
      here = position_keeps s y.0 image y.0 ∙ y.2;
    }

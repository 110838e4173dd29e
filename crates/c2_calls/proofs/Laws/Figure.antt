-- The figure that a question tells: it is 0 exactly if the session has ended, and replies taken lower it.
use mathlib.Core.Path.{◌≡◌, refl, sym, ap, ◌∙◌}
use mathlib.Core.Bool.{true, false}
use mathlib.Core.List.{List}
use mathlib.Core.Logic.{◌↔◌, ⊎_elim}
use Prim.Native.Nat.{ℕ, ◌+◌, ◌≤◌}
use native.Mathlib.Omega.{arith}
use borrow.Author.Tests.{eqb-true}
use lib.Dec.{eqb}
use lib.ListN.{length, length-replicate}
use Rattle.laws.proofs.Tests.{passes, by_test}
use Rattle.exchange.specs.Calls.{call_done}
use Rattle.numbers.specs.Numbers.{running, other_image}
use Rattle.laws.specs.Bytes.{Bytes}
use Rattle.settings.specs.declared.Settings.{Settings}
use Rattle.c2_wire.specs.Exchange.{Outcome, taken, outcome_of}
use Rattle.c2_wire.specs.declared.Place.{Place}
use Rattle.c2_order.specs.Acts.{Act}
use Rattle.c2_order.specs.Order.{session_order}
use Rattle.c2_order.specs.Conversation.{Positive, limits_of}
use Rattle.c2_order.specs.Point.{reached}
use Rattle.c2_order.specs.Figure.{figure}
use Rattle.c2_order.specs.Claims.{ZeroWhenEnded}
use Rattle.c2_order.proofs.Laws.Claims.{figure_zero, figure_falls}
use Rattle.c2_session.specs.declared.Point.TheVariants.{Running, Ended}
use Rattle.c2_session.specs.declared.Session.{Session}
use Rattle.c2_range.specs.Claims.{PointStands}
use Rattle.c2_range.proofs.Laws.Range.{within_ranges}
use Rattle.c2_position.specs.Position.{position}
use Rattle.c2_position.specs.Claims.{Placed}
use Rattle.c2_position.proofs.Laws.Claims.{in_order}
use Rattle.c2_record.specs.Record.{Unpacked, Held, Refused, packed, unpacked}
use Rattle.c2_order.proofs.Laws.Conversation.{limits_positive}
use Rattle.c2_position.proofs.Laws.Advanced.{SessionPoint, fits_of}
use Rattle.c2_record.proofs.Laws.Claims.{unpacked_exactly}
use Rattle.c2_outcome.specs.Outcome.{number_of}
use Rattle.c2_opening.specs.Opened.{image_length, exchange_at, session_fed}
use Rattle.c2_opening.proofs.Laws.Follows.{Lent, outcome_now, lent_after}
use Rattle.c2_calls.specs.Calls.{taking, asking, held_number, refusal, untouched, refused_answer, taken_answer, blank, remaining_answer, does}
use Rattle.c2_calls.specs.Family.{C2, told_left}
use Rattle.c2_calls.specs.Claims.{figure_told, LeftAsAsked, ToldZero, ToldFalls}
use Rattle.c2_calls.proofs.Laws.Claims.{opening_of, placed_exists, held_follows, lent_held, blank_bytes, figure_of_any}
use Rattle.c2_order.specs.Point

positive : (s : Session) (image : List ℕ) → Lent s image → Positive (limits_of s.settings)
positive s image h = limits_positive s.settings (fits_of s image h.range h.whole).settings

-- the figure of the point where a session stands is 0 exactly if the session has ended
module _ (r : List ℕ) (s : Session) (e : unpacked r ≡ Held s) where
  abbrev x : Point.Point
  x = position s (blank s)

  lent : Lent s (blank s)
  lent = lent_held r (blank s) s e (blank_bytes (image_length s)) (length-replicate (image_length s) 0)

  zero_there : ZeroWhenEnded (limits_of s.settings) x
  zero_there =
      figure_zero (limits_of s.settings) s.settings s.first (blank s) (positive s (blank s) lent) (opening_of s (blank s) ((unpacked_exactly s r).0 e).settings lent) x
      (placed_exists (limits_of s.settings) (session_order s.settings s.first (blank s)) s.point x (in_order s (blank s) lent.range lent.whole))

  number_zero : (y : SessionPoint) → PointStands (limits_of s.settings) s.settings.size s.settings.pairs.count s.pages y → Placed (limits_of s.settings) (session_order s.settings s.first (blank s)) y x
      → figure (limits_of s.settings) x ≡ 0 ↔ (number_of y ≡ running → ⊥)
  number_zero (Running g i j k q c v) u h =
      ((λ f. absurd (let o = zero_there.zero_ended f in never (sym h.here ∙ o.1))), (λ f. absurd (f refl)))
    where
      never : {a : Act} {acts : List Act} {p : Place} {o : Outcome} → Point.running a acts p ≡ Point.ended o → ⊥
      never q = let z : ◌≡◌ {A = ℕ} 0 1 = cc in omega arith
  number_zero (Ended n o) u h =
      ((λ f g. ⊎_elim (λ p. omega arith) (λ p. omega (arith, p.0)) u.number), (λ f. zero_there.ended_zero _ h))

  told_zero_held : figure (limits_of s.settings) x ≡ 0 ↔ ((outcome_of (exchange_at s (blank s))).number ≡ running → ⊥)
  told_zero_held =
      let n = ap (λ (o : Outcome). o.number) (outcome_now s (blank s) lent) in
      rw n (number_zero s.point (within_ranges s lent.range).point (in_order s (blank s) lent.range lent.whole))

pub left_as_asked : LeftAsAsked
unfolding call_done refusal does untouched
left_as_asked r = go (unpacked r) refl
  where
    go : (u : Unpacked) → unpacked r ≡ u → told_left r ≡ figure_told r
    go (Held s) e = rw (e, told_left, figure_told)
    go Refused e = rw (e, told_left, figure_told)

pub told_zero : ToldZero
unfolding call_done refusal does untouched
told_zero r = go (unpacked r) refl
  where
    go : (u : Unpacked) → unpacked r ≡ u → figure_told r ≡ 0 ↔ ((call_done C2 (asking r)).number ≡ running → ⊥)
    go (Held s) e = rw (e, figure_told) (told_zero_held r s e)
    go Refused e = rw (e, figure_told) ((λ f g. omega arith), (λ f. refl))

-- what an accepted call leaves: the figure at the point that the replies reach
falls_held : (r image rs : List ℕ) (s : Session) → unpacked r ≡ Held s → Bytes image → length image ≡ image_length s
    → told_left (packed (session_fed s image rs)) + taken (exchange_at s image) rs ≤ figure (limits_of s.settings) (position s (blank s))
falls_held r image rs s e b w =
    let g = held_follows r s image rs e b w in
    let h = lent_held r image s e b w in
    let after = session_fed s image rs in
    let k = lent_after s image rs h in
    let f = figure_falls (limits_of s.settings) s.settings s.first image (positive s image h) (opening_of s image ((unpacked_exactly s r).0 e).settings h) (position s image)
    (placed_exists (limits_of s.settings) (session_order s.settings s.first image) s.point (position s image) (in_order s image h.range h.whole)) rs in
    let told : told_left (packed (session_fed s image rs)) ≡ figure (limits_of s.settings) (reached (limits_of s.settings) (position s image) rs) =
    ap (λ (u : Unpacked). (remaining_answer u).steps) g.held ∙ sym (figure_of_any after image k.range k.whole)
    ∙ ap (λ (z : Settings). figure (limits_of z) (position after image)) g.settings ∙ ap (figure (limits_of s.settings)) g.point in
    omega (arith, f, told, figure_of_any s image h.range h.whole)

left_falls : (r image rs buffer : List ℕ) (place : ℕ) → Bytes image
    → told_left (call_done C2 (taking r image rs buffer place)).held + (call_done C2 (taking r image rs buffer place)).answer.taken ≤ told_left r
unfolding call_done refusal does untouched refused_answer taken_answer
left_falls r image rs buffer place b = go (unpacked r) refl
  where
    go : (u : Unpacked) → unpacked r ≡ u
        → told_left (call_done C2 (taking r image rs buffer place)).held + (call_done C2 (taking r image rs buffer place)).answer.taken ≤ told_left r
    go (Held s) e = by_test (eqb (held_number (Held s) (length image) (length rs) (length buffer) place) 0) accepted refused
      where
        accepted : eqb (held_number (Held s) (length image) (length rs) (length buffer) place) 0 ≡ true
            → told_left (call_done C2 (taking r image rs buffer place)).held + (call_done C2 (taking r image rs buffer place)).answer.taken ≤ told_left r
        accepted t =
            let a = passes (eqb (length image) (image_length s)) _ other_image (omega arith) (eqb-true _ 0 t) in
            let q : told_left r ≡ (remaining_answer (Held s)).steps = ap (λ (u : Unpacked). (remaining_answer u).steps) e in
            rw (q, e, t) (falls_held r image rs s e b (eqb-true (length image) (image_length s) a.0))

        refused : eqb (held_number (Held s) (length image) (length rs) (length buffer) place) 0 ≡ false
            → told_left (call_done C2 (taking r image rs buffer place)).held + (call_done C2 (taking r image rs buffer place)).answer.taken ≤ told_left r
        refused t = rw (e, t) (omega arith)
    go Refused e = rw e (omega arith)

pub told_falls : ToldFalls
told_falls r image rs buffer place b =
    rw (← left_as_asked r, ← left_as_asked (call_done C2 (taking r image rs buffer place)).held) (left_falls r image rs buffer place b)

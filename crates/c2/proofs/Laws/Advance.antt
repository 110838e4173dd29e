-- What a call that takes replies answers and leaves, at each of its returns, as
-- c2_calls says it (`done C2`).
use mathlib.Core.Path.{◌≡◌, refl, sym, ap, ◌∙◌}
use mathlib.Core.List.{List, ◌++◌}
use Prim.Native.Nat.{ℕ, ◌+◌, ◌<◌, ◌≤◌}
use borrow.Author.Tests.{le-leb, lt-leb, eq-eqb, ne_eqb}
use lib.ListN.{length, take, drop}
use Rattle.numbers.specs.Numbers.{bad_record, other_image, no_room}
use Rattle.c2_wire.specs.Exchange.{Exchange, Outcome, fed, steps, outcome_of}
use Rattle.c2_session.specs.declared.Session.{Session}
use Rattle.c2_session.specs.declared.Point.{Point}
use Rattle.std.proofs.Common.{Some}
use Rattle.c2_record.specs.Record.{Held, Refused, packed, unpacked, reached_in}
use Rattle.c2_record.specs.Code.Said.{session_beside}
use Rattle.c2_record.proofs.Laws.Said.{reached_held}
use Rattle.exchange.specs.Calls.{call_done}
use Rattle.c2_calls.specs.declared.Advanced.{Advanced}
use Rattle.c2_opening.specs.Opened.{image_length, exchange_at, session_fed}
use Rattle.c2_calls.specs.Calls.{taking, refusal, untouched, refused_answer, taken_answer, steps_written, does}
use Rattle.c2_calls.specs.Family.{C2}
use Rattle.c2_outcome.specs.Outcome.{number_of, offset_of}
use Rattle.c2.specs.Code.Loop.{ran, wrote}
use Rattle.c2_opening.proofs.Laws.Follows.{Lent, outcome_is}
use Rattle.c2.proofs.Laws.Loop.Exchange.{ran_is, wrote_is}
use Rattle.c2_wire.specs.Exchange

-- answer, step buffer and record after a call that takes replies
abbrev pub Leaves : (record₀ image replies buffer : List ℕ) → (place : ℕ) → Advanced → (buffer₁ record₁ : List ℕ) → Type 0
Leaves r image rs buffer place a b r₁ =
    (a ≡ (call_done C2 (taking r image rs buffer place)).answer)
    × ((b ≡ (call_done C2 (taking r image rs buffer place)).steps) × (r₁ ≡ (call_done C2 (taking r image rs buffer place)).held))

-- the session beside the point that was unpacked is the one that the record holds
pub session_held : (r : List ℕ) (p : Point) → Some p ≡ reached_in (unpacked r) → (s : Session) → s ≡ session_beside p r → unpacked r ≡ Held s
session_held r p h s e = reached_held r p h ∙ ap Held (sym e)

module _ (r image rs buffer : List ℕ) (place : ℕ) (a : Advanced) where
  pub refuses_record : unpacked r ≡ Refused → a ≡ refused_answer bad_record → Leaves r image rs buffer place a buffer r
  unfolding call_done refusal untouched
  refuses_record e f = rw e (f, (refl, refl))

  module _ (s : Session) (e : unpacked r ≡ Held s) where
    pub refuses_image : (length image ≡ image_length s → ⊥) → a ≡ refused_answer other_image → Leaves r image rs buffer place a buffer r
    unfolding call_done refusal untouched
    refuses_image g f = rw (e, ne_eqb (length image) (image_length s) g) (f, (refl, refl))

    pub refuses_room : length image ≡ image_length s → length buffer < place + length rs → a ≡ refused_answer no_room → Leaves r image rs buffer place a buffer r
    unfolding call_done refusal untouched
    refuses_room g h f = rw (e, eq-eqb (length image) (image_length s) g, lt-leb (place + length rs) (length buffer) h) (f, (refl, refl))

    -- an accepted call: what the loop ran and wrote is what the exchange says
    pub accepts : Lent s image → place + length rs ≤ length buffer → (x : Session) (n : ℕ) (b r₁ : List ℕ)
        → x ≡ ran image s rs → n ≡ length (wrote image s rs)
        → (a.number ≡ number_of x.point) × (a.offset ≡ offset_of x.point) × (a.taken ≡ n)
        → b ≡ take place buffer ++ (wrote image s rs ++ drop (length (wrote image s rs)) (drop place buffer))
        → r₁ ≡ packed x → Leaves r image rs buffer place a b r₁
    unfolding call_done refusal does taken_answer steps_written Exchange.taken
    accepts l h x n b r₁ p q f g k =
        let w : wrote image s rs ≡ steps (exchange_at s image) rs = wrote_is s image rs l in
        let y : x ≡ session_fed s image rs = p ∙ ran_is image s rs in
        rw (e, eq-eqb (length image) (image_length s) l.whole, le-leb (place + length rs) (length buffer) h) (
          (λ t. record { number = number_same t; offset = offset_same t; taken = taken_same t }),
          (g ∙ ap (λ (z : List ℕ). take place buffer ++ (z ++ drop (length z) (drop place buffer))) w, k ∙ ap packed y),
        )
      where
        number_same : a.number ≡ (outcome_of (fed (exchange_at s image) rs)).number
        number_same = f.0 ∙ ap (λ (z : Session). number_of z.point) (p ∙ ran_is image s rs) ∙ sym (ap (λ (z : Outcome). z.number) (outcome_is s image rs l))

        offset_same : a.offset ≡ (outcome_of (fed (exchange_at s image) rs)).offset
        offset_same = f.1 ∙ ap (λ (z : Session). offset_of z.point) (p ∙ ran_is image s rs) ∙ sym (ap (λ (z : Outcome). z.offset) (outcome_is s image rs l))

        taken_same : a.taken ≡ length (steps (exchange_at s image) rs)
        taken_same = f.2 ∙ q ∙ ap length (wrote_is s image rs l)

-- What a question is answered: the figure by arithmetic is the order's, whatever the image's bytes.
use mathlib.Core.Path.{◌≡◌, sym, ap, ◌∙◌}
use mathlib.Core.List.{List}
use Prim.Native.Nat.{ℕ}
use lib.ListN.{length-replicate}
use Rattle.numbers.specs.Numbers.{bad_record}
use Rattle.c2_wire.specs.Exchange.{Outcome}
use Rattle.c2_session.specs.declared.Session.{Session}
use Rattle.c2_figure.specs.Code.Left.{steps_left}
use Rattle.c2_figure.proofs.Laws.Left.{counts}
use Rattle.c2_record.specs.Record.{Held, Refused, unpacked}
use Rattle.exchange.specs.Calls.{call_done}
use Rattle.c2_calls.specs.declared.Remaining.{Remaining}
use Rattle.c2_opening.specs.Opened.{image_length}
use Rattle.c2_calls.specs.Calls.{asking, refusal, untouched, blank, does}
use Rattle.c2_calls.specs.Family.{C2}
use Rattle.c2_outcome.specs.Outcome.{number_of}
use Rattle.c2_opening.proofs.Laws.Follows.{Lent, outcome_now}
use Rattle.c2_calls.proofs.Laws.Claims.{lent_held, blank_bytes}

pub asks_refused : (r : List ℕ) (a : Remaining) → unpacked r ≡ Refused → a ≡ record { number = bad_record; steps = 0 } → a ≡ call_done C2 (asking r)
unfolding call_done refusal untouched
asks_refused r a e f = rw e f

pub asks_held : (r : List ℕ) (s : Session) (a : Remaining) → unpacked r ≡ Held s → a.number ≡ number_of s.point
    → a.steps ≡ steps_left s → a ≡ call_done C2 (asking r)
unfolding call_done refusal does
asks_held r s a held f g =
    let l : Lent s (blank s) = lent_held r (blank s) s held (blank_bytes (image_length s)) (length-replicate (image_length s) 0) in
    rw held
    (λ t. record {
      number = (f ∙ sym (ap (λ (o : Outcome). o.number) (outcome_now s (blank s) l))) t;
      steps = (g ∙ sym (counts s (blank s) l.range l.whole)) t;
    })

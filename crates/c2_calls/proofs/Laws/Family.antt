-- C2's calls go on by their replies, so what `exchange` says of lists of calls holds of them.
use mathlib.Core.Path.{◌≡◌, sym, ap, ◌∙◌}
use mathlib.Core.List.{List, [], ◌++◌, append-nil}
use Prim.Native.Nat.{ℕ, ◌+◌, ◌≤◌}
use native.Mathlib.Omega.{arith}
use borrow.Author.Tests.{eq-eqb, leb-true, le-leb}
use lib.Dec.{eqb, leb}
use lib.ListN.{length, take, drop, length-replicate}
use lib.Seq.{take-append_seam, drop-append_seam, length-take-le}
use Rattle.laws.proofs.Tests.{passes}
use Rattle.exchange.specs.Calls.{GoesOn, ListsAreReplies}
use Rattle.exchange.proofs.Laws.Calls.{lists_are_replies}
use Rattle.numbers.specs.Numbers.{other_image, no_room}
use Rattle.c2_wire.specs.Exchange.{Exchange, asks, fed, steps, outcome_of}
use Rattle.c2_wire.proofs.Laws.Exchange.{fed_append, steps_append, taken_append}
use Rattle.settings.specs.declared.Settings.{Settings}
use Rattle.c2_order.specs.Conversation.{limits_of}
use Rattle.c2_order.specs.Point.{Point}
use Rattle.c2_order.specs.Figure.{figure}
use Rattle.c2_order.specs.Claims.{Opening, exchange_of, point_after}
use Rattle.c2_session.specs.declared.Session.{Session}
use Rattle.c2_record.specs.Record.{Unpacked, Held, packed, unpacked}
use Rattle.c2_position.specs.Position.{position}
use Rattle.c2_opening.specs.Opened.{opened_session, image_length, session_fed}
use Rattle.c2_opening.proofs.Laws.Follows.{outcome_now}
use Rattle.c2_calls.specs.declared.Remaining.{Remaining}
use Rattle.c2_calls.specs.Calls.{opening, taking, asking, held_number, refusal, TakingDone, taken_answer, steps_written, takes, blank, remaining_answer, does}
use Rattle.c2_calls.specs.Claims.{Follows}
use Rattle.c2_calls.specs.Family.{Told, told_left, hears, replies_of, C2, session_after, by_replies}
use Rattle.c2_calls.proofs.Laws.Claims.{first_is_reset, replies_follow, parts_join, lent_held, blank_bytes, figure_of_any}
use Rattle.c2_wire.specs.Exchange

-- what a step buffer holds from the place on, as far as steps were written
written : (e : Exchange) (rs : List ℕ) (place : ℕ) (buffer : List ℕ) → place ≤ length buffer
    → take (Exchange.taken e rs) (drop place (steps_written e rs place buffer)) ≡ steps e rs
unfolding steps_written Exchange.taken
written e rs place buffer h =
    let l : length (take place buffer) ≡ place = length-take-le place buffer h in
    ap (λ (x : List ℕ). take (length (steps e rs)) x) (rw l at (drop-append_seam (take place buffer) (steps e rs ++ drop (length (steps e rs)) (drop place buffer))))
    ∙ take-append_seam (steps e rs) (drop (length (steps e rs)) (drop place buffer))

-- an accepted call has room for the steps
room : (image rs buffer : List ℕ) (place : ℕ) (s : Session) → held_number (Held s) (length image) (length rs) (length buffer) place ≡ 0
    → place + length rs ≤ length buffer
room image rs buffer place s ok =
    let a = passes (eqb (length image) (image_length s)) _ other_image (omega arith) ok in
    let b = passes (leb (place + length rs) (length buffer)) 0 no_room (omega arith) a.1 in
    leb-true (place + length rs) (length buffer) b.0

-- what holds of the session after replies to an accepted opening
module _ (t : Settings) (first : ℕ) (image : List ℕ) (o : Opening t first image) where
  pub after : (rs : List ℕ) → Follows t first image rs
  after rs = replies_follow t first image rs o.settings o.bytes o.accepted

  -- what a question is answered that is lent the session's record
  pub asked : (rs : List ℕ)
      → remaining_answer (unpacked (packed (session_after t first image rs)))
      ≡ record { number = (outcome_of (fed (exchange_of (limits_of t) t first image) rs)).number; steps = figure (limits_of t) (point_after (limits_of t) t first image rs) }
  asked rs =
      let s = session_after t first image rs in
      let f = after rs in
      let here = lent_held (packed s) image s f.held o.bytes f.whole in
      let there = lent_held (packed s) (blank s) s f.held (blank_bytes (image_length s)) (length-replicate (image_length s) 0) in
      let n = outcome_now s (blank s) there ∙ sym (outcome_now s image here) ∙ ap outcome_of f.left in
      let g = sym (figure_of_any s image here.range f.whole) ∙ ap (λ (z : Settings). figure (limits_of z) (position s image)) f.settings
      ∙ ap (λ (x : Point). figure (limits_of t) x) f.point in
      rw f.held (λ i. record { number = (n i).number; steps = g i })

  pub left_told : (rs : List ℕ) → told_left (packed (session_after t first image rs)) ≡ figure (limits_of t) (point_after (limits_of t) t first image rs)
  left_told rs = ap (λ (a : Remaining). a.steps) (asked rs)

  -- the record after replies, and what the session is to say
  abbrev kept : (replies : List ℕ) → List ℕ
  kept qs = packed (session_after t first image qs)

  abbrev said : Exchange
  said = exchange_of (limits_of t) t first image

  abbrev by : (replies : List ℕ) → Told
  by rs = by_replies t first image rs

  -- an accepted call that takes replies goes on from those before
  module _ (qs rs buffer : List ℕ) (place : ℕ) (ok : held_number (unpacked (kept qs)) (length image) (length rs) (length buffer) place ≡ 0) where
    fine : held_number (Held (session_after t first image qs)) (length image) (length rs) (length buffer) place ≡ 0
    fine = ap (λ (x : Unpacked). held_number x (length image) (length rs) (length buffer) place) (sym (after qs).held) ∙ ok

    done_is : takes (unpacked (kept qs)) (kept qs) image rs buffer place
        ≡ record { answer = taken_answer (fed said qs) rs; steps = steps_written (fed said qs) rs place buffer; held = kept (qs ++ rs) }
    done_is =
        let joins = parts_join (opened_session t first (length image)) image qs rs in
        ap (λ (u : Unpacked). takes u (kept qs) image rs buffer place) (after qs).held
        ∙ (λ i. record { answer = taken_answer ((after qs).left i) rs; steps = steps_written ((after qs).left i) rs place buffer; held = packed (joins i) })

    pub takes_on : hears (by qs) (taking (kept qs) image rs buffer place) (does (taking (kept qs) image rs buffer place)) ≡ by (qs ++ rs)
    unfolding does hears by_replies taken_answer
    takes_on =
        let p = room image rs buffer place (session_after t first image qs) fine in
        let w = written (fed said qs) rs place buffer (omega arith) in
        let more = ap (λ (x : List ℕ). steps said qs ++ x) w ∙ sym (steps_append said qs rs) in
        let sum = sym (taken_append said qs rs) in
        let out = ap outcome_of (sym (fed_append said qs rs)) in
        let left = left_told (qs ++ rs) in
        ap (λ (d : TakingDone). hears (by qs) (taking (kept qs) image rs buffer place) d) done_is
        ∙ (λ i. record { held = kept (qs ++ rs); first_step = asks said; steps = more i; taken = sum i; outcome = out i; left = left i })

  -- an accepted question changes nothing of what the driver has
  pub asks_on : (qs : List ℕ) → hears (by qs) (asking (kept qs)) (does (asking (kept qs))) ≡ by qs
  unfolding does hears by_replies
  asks_on qs =
      let a = asked qs in
      λ i. record {
        held = kept qs;
        first_step = asks said;
        steps = steps said qs;
        taken = Exchange.taken said qs;
        outcome = record { number = (a i).number; offset = (outcome_of (fed said qs)).offset };
        left = (a i).steps;
      }

  -- an accepted opening tells what no replies do
  pub opens : (before : Told) (held : List ℕ) → hears before (opening held image t first) (does (opening held image t first)) ≡ by []
  unfolding does hears by_replies opened_session session_fed fed steps Exchange.taken outcome_of
  opens before held =
      let s = session_after t first image [] in
      let f = after [] in
      let n = outcome_now s image (lent_held (packed s) image s f.held o.bytes f.whole) in
      let said = sym n ∙ ap outcome_of f.left in
      let left = left_told [] in
      λ i. record { held = packed s; first_step = sym (first_is_reset t first image) i; steps = []; taken = 0; outcome = said i; left = left i }

  pub goes_on : GoesOn C2 image (by_replies t first image)
  unfolding refusal replies_of by_replies
  goes_on qs (opening r i u n) e h = absurd h
  goes_on qs (taking r i rs buffer place) e h =
      let ok = rw (h.0, h.1) at e in
      rw (h.0, h.1) (takes_on qs rs buffer place ok)
  goes_on qs (asking r) e h = rw h (asks_on qs ∙ ap by (sym (append-nil qs)))

  pub c2_lists : ListsAreReplies C2 image (by_replies t first image)
  c2_lists = lists_are_replies C2 image (by_replies t first image) goes_on

  -- a single call after the opening is accepted where there is room
  pub accepts : (rs buffer : List ℕ) → length rs ≤ length buffer → refusal (taking (kept []) image rs buffer 0) ≡ 0
  unfolding refusal
  accepts rs buffer h =
      let f = after [] in
      rw (f.held, eq-eqb (length image) _ f.whole, le-leb (0 + length rs) (length buffer) (omega arith))

-- The claims of specs/Claims.antt, each proved under its name; Figure has those of the figure told.
use mathlib.Core.Path.{◌≡◌, refl, sym, ap, ◌∙◌}
use mathlib.Core.Bool.{cond}
use mathlib.Core.List.{List, [], ◌∷◌}
use mathlib.Core.Logic.{◌⊎◌, inl, inr, ⊎_elim}
use Prim.Native.Nat.{ℕ, zero, suc, ◌/◌, ◌<◌}
use native.Mathlib.Omega.{arith}
use borrow.Author.Tests.{eqb-true, eq-eqb, ne_eqb, ltb-true}
use lib.Dec.{eqb, ltb}
use lib.ListN.{length, get_or, replicate, length-replicate}
use Rattle.laws.proofs.Tests.{both, by_test}
use Rattle.exchange.specs.Calls.{call_done}
use Rattle.numbers.specs.Numbers.{running}
use Rattle.laws.specs.Bytes.{Bytes}
use Rattle.c2_wire.specs.Step.{reset, off, code}
use Rattle.c2_wire.specs.Exchange.{Exchange, Outcome, asks, fed}
use Rattle.c2_wire.specs.Frames.{strobes}
use Rattle.settings.specs.declared.Settings.{Settings}
use Rattle.settings.specs.Accepted.{InBytes, tidied}
use Rattle.settings.specs.Registers.{tidy, is_tidy}
use Rattle.settings.proofs.Laws.Accepted.{tidied_bytes}
use Rattle.settings.proofs.Laws.Opening.{tidied_opening}
use Rattle.c2_order.specs.Acts.{Act}
use Rattle.c2_order.specs.Order.{lead, preparation, order, session_order}
use Rattle.c2_order.specs.Conversation.{Limits, limits_of, conversation}
use Rattle.c2_order.specs.Point.{Stands, ExistsIn, reached}
use Rattle.c2_order.specs.Claims.{Opening, exchange_of, LastNumber}
use Rattle.c2_order.proofs.Laws.Claims.{driven_on}
use Rattle.c2_order.proofs.Laws.Ends.{ends_so}
use Rattle.c2_acts.specs.declared.Stage.TheVariants.{Lead}
use Rattle.c2_session.specs.declared.Point.TheVariants.{Running, Ended}
use Rattle.c2_session.specs.declared.Session.{Session}
use Rattle.c2_session.specs.Code.Advance.{advanced}
use Rattle.c2_outcome.specs.Outcome.{number_of}
use Rattle.c2_range.specs.Range.{opening_in_range, in_range, point_in_range}
use Rattle.c2_range.specs.Claims.{PointStands}
use Rattle.c2_range.proofs.Laws.Range.{within_ranges}
use Rattle.c2_position.specs.Position.{point_position, position}
use Rattle.c2_position.specs.Claims.{Placed}
use Rattle.c2_position.proofs.Laws.Advanced.{SessionPoint, advances}
use Rattle.c2_position.proofs.Laws.Step.{asks_step}
use Rattle.c2_position.proofs.Laws.Claims.{in_order, one_session}
use Rattle.c2_figure.proofs.Laws.Left.{counts}
use Rattle.c2_record.specs.Record.{Held, packed, unpacked}
use Rattle.c2_record.proofs.Laws.Claims.{pack_unpack, unpacked_exactly}
use Rattle.c2_opening.specs.Opened.{opened_session, image_length, session_fed}
use Rattle.c2_calls.specs.Calls.{opening, taking, asking, opening_number, refusal, OpeningDone, untouched, refused_answer, does, blank}
use Rattle.c2_calls.specs.Family.{C2, session_after}
use Rattle.c2_calls.specs.Claims.{RefusedKeeps, OpeningAnswers, NamedAlike, UnnamedAlike, RepliesFollow, HeldFollows, HeldEnds, PartsJoin, FigureOfAny}
use Rattle.c2_opening.proofs.Laws.Opened.{begins_lent, begins_at, begins_so}
use Rattle.c2_opening.proofs.Laws.Follows.{Lent, lent_advances, outcome_is, exchange_after, lent_after}
use Rattle.c2_order.specs.Point

-- a session stands at the point of the order that the replies reach
point_reached : (s : Session) (image rs : List ℕ) → Lent s image → position (session_fed s image rs) image ≡ reached (limits_of s.settings) (position s image) rs
unfolding session_fed reached advanced
point_reached s image [] h = refl
point_reached s image (r ∷ rs) h =
    point_reached (advanced s r image) image rs (lent_advances s image r h)
    ∙ ap (λ (x : Point.Point). reached (limits_of s.settings) x rs) (advances s image h.range h.whole r)

-- replies leave a session's settings and pages alone
settings_stay : (s : Session) (image rs : List ℕ) → (session_fed s image rs).settings ≡ s.settings
unfolding session_fed advanced
settings_stay s image [] = refl
settings_stay s image (r ∷ rs) = settings_stay (advanced s r image) image rs

first_stays : (s : Session) (image rs : List ℕ) → (session_fed s image rs).first ≡ s.first
unfolding session_fed advanced
first_stays s image [] = refl
first_stays s image (r ∷ rs) = first_stays (advanced s r image) image rs

pages_stay : (s : Session) (image rs : List ℕ) → (session_fed s image rs).pages ≡ s.pages
unfolding session_fed advanced
pages_stay s image [] = refl
pages_stay s image (r ∷ rs) = pages_stay (advanced s r image) image rs

pub replies_follow : RepliesFollow
unfolding opened_session
replies_follow t first image rs i b e =
    let l = begins_lent t first image e i.id b in
    let h = lent_after (opened_session t first (length image)) image rs l in
    record {
      settings = settings_stay (opened_session t first (length image)) image rs;
      first_page = first_stays (opened_session t first (length image)) image rs;
      pages = pages_stay (opened_session t first (length image)) image rs;
      held = pack_unpack (session_after t first image rs) (rw (settings_stay (opened_session t first (length image)) image rs) (tidied_bytes t i)) h.range;
      whole = h.whole;
      point = point_reached (opened_session t first (length image)) image rs l ∙ ap (λ (x : Point.Point). reached (limits_of t) x rs) (begins_at t first image e);
      left = sym (exchange_after (opened_session t first (length image)) image rs l)
          ∙ ap (λ (x : Exchange). fed x rs) (begins_so t first image e);
    }

-- a session in range, lent its image, is one that its opening would accept
pub opening_of : (s : Session) (image : List ℕ) → InBytes s.settings → Lent s image → Opening s.settings s.first image
unfolding in_range
opening_of s image i h =
    let p = both (opening_in_range s.settings s.first s.pages) (point_in_range (limits_of s.settings) s.settings.size s.settings.pairs.count s.pages s.point) h.range in
    record { settings = i; bytes = h.bytes; accepted = rw h.whole (eqb-true _ 0 (both _ (is_tidy s.settings.pairs) p.0).0) }

-- a point of the order at which a session is placed exists there
pub placed_exists : (l : Limits) (order : List Act) (y : SessionPoint) (x : Point.Point) → Placed l order y x → ExistsIn l order x
placed_exists l order (Running g i j k q c v) x h = inl h
placed_exists l order (Ended n o) x h = inr (record { number = n; offset = o }, h)

pub held_follows : HeldFollows
unfolding session_fed
held_follows r s image rs e b w =
    let x = (unpacked_exactly s r).0 e in
    let lent : Lent s image = record { id = x.settings.id; bytes = b; range = x.ranges; whole = w } in
    let after = session_fed s image rs in
    let h = lent_after s image rs lent in
    let here = in_order s image lent.range lent.whole in
    let point = point_reached s image rs lent in
    let left = sym (exchange_after s image rs lent) in
    let out = outcome_is s image rs lent in
    record {
      settings = settings_stay s image rs;
      first_page = first_stays s image rs;
      pages = pages_stay s image rs;
      held = pack_unpack after (rw (settings_stay s image rs) x.settings) h.range;
      stands = rw (settings_stay s image rs, first_stays s image rs) at (in_order after image h.range h.whole);
      point = point;
      only = λ t i d p n q.
          one_session t after image i h.range (d ∙ sym (settings_stay s image rs)) (p ∙ sym (first_stays s image rs)) (n ∙ sym (pages_stay s image rs))
          (rw (d, n) w) (q ∙ sym point);
      left = left;
      step = asks_step after image h.range h.whole ∙ ap asks left;
      number = sym (ap (λ (o : Outcome). o.number) out);
      offset = sym (ap (λ (o : Outcome). o.offset) out);
      driven = driven_on (limits_of s.settings) s.settings s.first image (opening_of s image x.settings lent) (position s image)
          (placed_exists (limits_of s.settings) (session_order s.settings s.first image) s.point (position s image) here) rs;
    }

-- a session in range that runs stands at an act of its order
runs_there : (l : Limits) (order : List Act) (size pairs pages : ℕ) (y : SessionPoint) (x : Point.Point) → Placed l order y x
    → PointStands l size pairs pages y → number_of y ≡ running → Stands l order x
runs_there l order size pairs pages (Running g i j k q c v) x h p e = h
runs_there l order size pairs pages (Ended n o) x h p e = absurd (⊎_elim (λ a. omega arith) (λ a. omega arith) p.number)

-- the number of a session whose point of the order is this, where each end of that point is known
number_known : (s : Session) (image : List ℕ) (y : SessionPoint) (x : Point.Point) → point_position s image y ≡ x
    → ((o : Outcome) → x ≡ Point.ended o → LastNumber o.number) → (number_of y ≡ running) ⊎ LastNumber (number_of y)
unfolding point_position
number_known s image (Running g i j k q c v) x e f = inl refl
number_known s image (Ended n o) x e f = inr (f (record { number = n; offset = o }) (sym e))

pub held_ends : HeldEnds
held_ends r s image rs e n b w =
    let h = (unpacked_exactly s r).0 e in
    let lent : Lent s image = record { id = h.settings.id; bytes = b; range = h.ranges; whole = w } in
    let here = in_order s image lent.range lent.whole in
    let order = session_order s.settings s.first image in
    let runs = runs_there (limits_of s.settings) order s.settings.size s.settings.pairs.count s.pages s.point (position s image) here (within_ranges s lent.range).point n in
    number_known (session_fed s image rs) image (session_fed s image rs).point (reached (limits_of s.settings) (position s image) rs) (point_reached s image rs lent)
    (ends_so (limits_of s.settings) s.settings s.first image (opening_of s image h.settings lent) (position s image) runs rs)

pub parts_join : PartsJoin
unfolding session_fed
parts_join s image [] rs = refl
parts_join s image (q ∷ qs) rs = parts_join (advanced s q image) image qs rs

-- the session that a record holds, lent an image of its length
pub lent_held : (r image : List ℕ) (s : Session) → unpacked r ≡ Held s → Bytes image → length image ≡ image_length s → Lent s image
lent_held r image s e b l =
    let h = (unpacked_exactly s r).0 e in
    record { id = h.settings.id; bytes = b; range = h.ranges; whole = l }

pub blank_bytes : (n : ℕ) → Bytes (replicate n 0)
blank_bytes zero = tt
blank_bytes (suc n) = (omega arith, blank_bytes n)

pub refused_keeps : RefusedKeeps
unfolding call_done untouched refused_answer
refused_keeps (opening r image t first) n = rw (ne_eqb (refusal (opening r image t first)) 0 n) (refl, refl, refl)
refused_keeps (taking r image rs buffer place) n = rw (ne_eqb (refusal (taking r image rs buffer place)) 0 n) (refl, refl, refl, refl, refl)
refused_keeps (asking r) n = rw (ne_eqb (refusal (asking r)) 0 n) (refl, refl)

-- the first step is the reset
pub first_is_reset : (t : Settings) (first : ℕ) (image : List ℕ) → asks (exchange_of (limits_of t) t first image) ≡ code reset
unfolding asks conversation session_order order preparation lead strobes code
first_is_reset t first image = refl

pub opening_answers : OpeningAnswers
unfolding call_done does
opening_answers held image t first e =
    rw (eq-eqb (refusal (opening held image t first)) 0 e) (record { number = refl; step = sym (first_is_reset t first image) })

-- what an opening does, by what a session keeps of its settings
unfoldable by_kept : (held image : List ℕ) (first : ℕ) → Settings → OpeningDone
by_kept r image first v =
    let n = opening_number (length r) v first (length image) in
    cond (eqb n 0)
    (record {
      answer = record { number = 0; step = code reset };
      held = packed (record { settings = v; first = first; pages = length image / v.size; point = Running Lead 0 0 0 0 0 0 });
    })
    (record { answer = record { number = n; step = code off }; held = r })

kept_decides : (held image : List ℕ) (first : ℕ) (t : Settings)
    → call_done C2 (opening held image t first) ≡ by_kept held image first (tidied t)
unfolding call_done refusal opening_number does untouched opened_session by_kept
kept_decides r image first t = rw (tidied_opening t first (length image))

-- an entry that a session keeps, of a list that is the same where it is named
entry_alike : (n i x y : ℕ) → (i < n → x ≡ y) → cond (ltb i n) x 0 ≡ cond (ltb i n) y 0
entry_alike n i x y h = by_test (ltb i n) (λ e. rw e (h (ltb-true i n e))) (λ e. rw e)

kept_alike : (t u : Settings) → NamedAlike t u → tidied t ≡ tidied u
unfolding tidy
kept_alike t u h =
    let n = t.pairs.count in
    let kept : List ℕ → ℕ → ℕ = λ xs i. cond (ltb i n) (get_or xs i 0) 0 in
    let r : (i : ℕ) → kept t.pairs.registers i ≡ kept u.pairs.registers i = λ i. entry_alike n i _ _ (h.registers i) in
    let v : (i : ℕ) → kept t.pairs.values i ≡ kept u.pairs.values i = λ i. entry_alike n i _ _ (h.values i) in
    rw (h.id, h.fpdat, h.size, h.count, h.wait, r 0, r 1, r 2, r 3, v 0, v 1, v 2, v 3, h.pairs)

pub unnamed_alike : UnnamedAlike
unnamed_alike r image t u first h =
    kept_decides r image first t ∙ ap (by_kept r image first) (kept_alike t u h) ∙ sym (kept_decides r image first u)

pub figure_of_any : FigureOfAny
figure_of_any s image e l = counts s image e l ∙ sym (counts s (blank s) e (length-replicate (image_length s) 0))

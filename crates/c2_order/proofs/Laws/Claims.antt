-- The claims of specs/Claims.antt, each proved under its name.
use mathlib.Core.Path.{◌≡◌, refl, sym, ap, ◌∙◌}
use mathlib.Core.Bool.{Bool, true, false, not, cond, ◌||◌}
use mathlib.Core.List.{List, [], ◌∷◌}
use Prim.Native.Nat.{ℕ, ◌+◌, ◌*◌, zero, suc, ◌-◌, ◌/◌, ◌≤◌}
use native.Mathlib.Omega.{arith}
use lib.Dec.{eqb}
use lib.ListN.{length, drop}
use Rattle.laws.proofs.Tests.{both}
use Rattle.c2_wire.specs.Step.{drives}
use Rattle.c2_wire.specs.Field.{master}
use Rattle.c2_wire.specs.Exchange.{Exchange, fed, taken}
use Rattle.c2_wire.specs.Frames.{Strobe, plain, sampled, waits, strobes, frame}
use Rattle.c2_wire.specs.Place.{rest_of, remaining}
use Rattle.c2_wire.specs.declared.Frame.TheVariants.{AddressRead, DataRead}
use Rattle.c2_wire.proofs.Laws.Exchange.{fed_append, steps_append, taken_append, way_replies, Own, own_ended, own_fed}
use Rattle.c2_wire.proofs.Laws.Frames.{masters, masters_frame, own_strobes}
use Rattle.settings.specs.declared.Settings.{Settings}
use Rattle.c2_order.specs.Acts.{Act, send, poll, expect}
use Rattle.c2_order.specs.Order.{session_order}
use Rattle.c2_order.specs.Conversation.{Limits, Positive, limits, limits_of, polling, conversation}
use Rattle.c2_order.specs.Point.{Point, running, ended, strobes_of, ExistsIn, begin, next, follow_up, left_to_say, reached}
use Rattle.c2_order.specs.Figure.{figure, pair_cost, page_cost}
use Rattle.c2_order.specs.Claims.{Opening, point_after, exchange_of, PointsFollow, PointsExist, PartsInARow, DrivenByMaster, DrivenOn, ZeroWhenEnded, FigureZero, FigureFalls, FigureDrops, FigureBounds, FigureStarts, FigureStartsPaper, FigureReached}
use Rattle.c2_order.proofs.Laws.Valid.{Sound, Every, none, more, masters_of, Valid, begin_valid}
use Rattle.c2_order.proofs.Laws.Point.{begin_says, next_says, next_valid}
use Rattle.c2_order.proofs.Laws.Stands.{exists_valid, begin_ends, reached_ends, ends_exist}
use Rattle.c2_order.proofs.Laws.Figure.{begin_figure, figure_ended, figure_running, row_falls, next_drops}
use Rattle.c2_order.proofs.Laws.Figure.Start.{costs_session}
use Rattle.c2_order.proofs.Laws.Order.{every_session, sound}
use Rattle.c2_order.proofs.Laws.Figure.Reached.{passable, way_acts}
use Rattle.settings.proofs.Laws.Opening.{Opened, opened}
use Rattle.exchange.specs.Exchange as Shared

-- what holds of points after replies
reached_valid : (l : Limits) → Positive l → (x : Point) → Valid l x → (rs : List ℕ) → Valid l (reached l x rs)
unfolding reached
reached_valid l h x v [] = v
reached_valid l h x v (r ∷ rs) = reached_valid l h (next l x r) (next_valid l h x v r) rs

reached_says : (l : Limits) → Positive l → (x : Point) → Valid l x → (rs : List ℕ) → left_to_say l (reached l x rs) ≡ fed (left_to_say l x) rs
unfolding reached fed
reached_says l h x v [] = refl
reached_says l h x v (r ∷ rs) =
    reached_says l h (next l x r) (next_valid l h x v r) rs ∙ ap (λ (e : Exchange). fed e rs) (next_says l h x v r)

module _ (l : Limits) (h : Positive l) (s : Settings) (first : ℕ) (image : List ℕ) (o : Opening s first image) where
  start_valid : Valid l (begin (session_order s first image))
  start_valid = begin_valid l h (session_order s first image) (every_session Sound sound s o.settings.id first image o.bytes)

  valid_after : (rs : List ℕ) → Valid l (point_after l s first image rs)
  valid_after rs = reached_valid l h (begin (session_order s first image)) start_valid rs

pub points_follow : PointsFollow
points_follow l s first image h o rs =
    reached_says l h (begin (session_order s first image)) (start_valid l h s first image o) rs
    ∙ ap (λ (e : Exchange). fed e rs) (begin_says l h (session_order s first image))

pub points_exist : PointsExist
points_exist l s first image h o rs =
    let acts = session_order s first image in
    ends_exist acts l (point_after l s first image rs) (valid_after l h s first image o rs) (reached_ends acts l (begin acts) rs (begin_ends acts [] acts refl))

-- a point that exists in a session's order is valid
valid_there : (l : Limits) (s : Settings) (first : ℕ) (image : List ℕ) → Opening s first image → (x : Point) → ExistsIn l (session_order s first image) x → Valid l x
valid_there l s first image o x e = exists_valid l (session_order s first image) (every_session Sound sound s o.settings.id first image o.bytes) x e

pub parts_in_a_row : PartsInARow
parts_in_a_row e rs qs = record { steps_joined = steps_append e rs qs; taken_summed = taken_append e rs qs; left = fed_append e rs qs }

-- every step of a session's exchange that drives C2D is the master's
own_polling : (w n : ℕ) (ok : ℕ → Bool) (e : Exchange) → Own e → Own (polling w n ok e)
unfolding polling
own_polling w zero ok e h = own_ended
own_polling w (suc n) ok e h = own_strobes w (frame AddressRead 0) 0 0 _ (masters_frame AddressRead 0) (λ x. go (ok x) (own_polling w n ok e h))
  where
    go : (t : Bool) → Own (polling w n ok e) → Own (cond t e (polling w n ok e))
    go true g = h
    go false g = g

own_conversation : (l : Limits) (acts : List Act) → Every Sound acts → Own (conversation l acts)
unfolding conversation
own_conversation l [] none = own_ended
own_conversation l (send ss ∷ acts) (more p f) = own_strobes l.wait ss 0 0 _ p.own (λ _. own_conversation l acts f)
own_conversation l (poll ok ∷ acts) (more p f) = own_polling l.wait l.reads ok _ (own_conversation l acts f)
own_conversation l (expect x o ∷ acts) (more p f) =
    own_strobes l.wait (frame DataRead 0) 0 0 _ (masters_frame DataRead 0) (λ y. go (eqb y x) (own_conversation l acts f))
  where
    go : (t : Bool) → Own (conversation l acts) → Own (cond t (conversation l acts) (Shared.ended o))
    go true g = g
    go false g = own_ended

-- the same from any place of an act's frame on
masters_drop : (n : ℕ) (ss : List Strobe) → masters ss ≡ true → masters (drop n ss) ≡ true
unfolding masters
masters_drop zero ss m = m
masters_drop (suc n) [] m = m
masters_drop (suc n) (plain f s ∷ ss) m = masters_drop n ss (both (not (drives s) || master f) (masters ss) m).1
masters_drop (suc n) (sampled f ∷ ss) m = masters_drop n ss m
masters_drop (suc n) (waits ∷ ss) m = masters_drop n ss m

own_rest : (l : ℕ) (ss : List Strobe) (z n v : ℕ) (k : ℕ → Exchange) → masters ss ≡ true → ((x : ℕ) → Own (k x)) → Own (rest_of l ss z n v k)
unfolding rest_of strobes masters
own_rest l [] z n v k m h = h v
own_rest l (plain f s ∷ ss) z n v k m h = own_strobes l (plain f s ∷ ss) n v k m h
own_rest l (sampled f ∷ ss) z n v k m h = own_strobes l (sampled f ∷ ss) n v k m h
own_rest l (waits ∷ ss) z n v k m h = own_strobes (l - z) (waits ∷ []) 0 0 (λ _. strobes l ss n v k) refl (λ _. own_strobes l ss n v k m h)

own_follow_up : (l : Limits) (a : Act) (acts : List Act) (n x : ℕ) → Own (conversation l acts) → Own (follow_up l a acts n x)
unfolding follow_up
own_follow_up l (send ss) acts n x h = h
own_follow_up l (poll ok) acts n x h = go (ok x)
  where
    go : (t : Bool) → Own (cond t (conversation l acts) (polling l.wait (l.reads - suc n) ok (conversation l acts)))
    go true = h
    go false = own_polling l.wait (l.reads - suc n) ok (conversation l acts) h
own_follow_up l (expect y o) acts n x h = go (eqb x y)
  where
    go : (t : Bool) → Own (cond t (conversation l acts) (Shared.ended o))
    go true = h
    go false = own_ended

own_point : (l : Limits) (x : Point) → Valid l x → Own (left_to_say l x)
unfolding left_to_say remaining
own_point l (running a acts p) v =
    own_rest l.wait (drop p.strobe (strobes_of a)) p.count _ p.bits (follow_up l a acts p.count)
    (masters_drop p.strobe (strobes_of a) (masters_of a v.0)) (λ x. own_follow_up l a acts p.count x (own_conversation l acts v.1))
own_point l (ended o) v = own_ended

pub driven_on : DrivenOn
driven_on l s first image o x e rs = own_fed (own_point l x (valid_there l s first image o x e)) rs

pub driven_by_master : DrivenByMaster
driven_by_master l s first image o rs =
    own_fed (own_conversation l (session_order s first image) (every_session Sound sound s o.settings.id first image o.bytes)) rs

-- what holds of the figure
zero_when_ended : (l : Limits) → Positive l → (x : Point) → Valid l x → ZeroWhenEnded l x
zero_when_ended l h (running a acts p) v =
    record {
      ended_zero = λ o e. absurd (let z : ◌≡◌ {A = ℕ} 0 1 = cc in omega arith);
      zero_ended = λ e. absurd (omega (arith, figure_running l h a acts p v));
    }
zero_when_ended l h (ended o) v = record { ended_zero = λ q e. figure_ended l o; zero_ended = λ e. (o, refl) }

pub figure_zero : FigureZero
figure_zero l s first image h o x e = zero_when_ended l h x (valid_there l s first image o x e)

pub figure_falls : FigureFalls
figure_falls l s first image h o x e rs = row_falls l h x (valid_there l s first image o x e) rs

pub figure_drops : FigureDrops
figure_drops l s first image h o x e r = next_drops l h x (valid_there l s first image o x e) r

bounds : (l : Limits) → Positive l → (x : Point) → Valid l x → (rs : List ℕ) → taken (left_to_say l x) rs ≤ figure l x
bounds l h x v rs = omega (arith, row_falls l h x v rs)

pub figure_bounds : FigureBounds
figure_bounds l s first image h o x e rs = bounds l h x (valid_there l s first image o x e) rs

-- no replies take more steps than the figure at the start
pub start_bounds : (l : Limits) (s : Settings) (first : ℕ) (image : List ℕ) → Positive l → Opening s first image
    → (rs : List ℕ) → taken (exchange_of l s first image) rs ≤ figure l (begin (session_order s first image))
start_bounds l s first image h o rs =
    let acts = session_order s first image in
    rw (begin_says l h acts) at (bounds l h (begin acts) (start_valid l h s first image o) rs)

pub figure_starts : FigureStarts
figure_starts l s first image h o =
    let q : Opened s first (length image) = opened s first (length image) o.accepted in
    let B : ℕ = q.settings.blocks in
    let e : s.size / 256 ≡ B = omega (arith, q.settings.size) in
    rw e (begin_figure l h (session_order s first image)
    ∙ costs_session l s B q.settings.size first (length image / s.size) image (omega (arith, q.settings.some)) q.whole)

pub figure_starts_paper : FigureStartsPaper
figure_starts_paper s first image e n o =
    let k : ℕ = length image / s.size in
    let B : ℕ = s.size / 256 in
    let p : Positive (limits_of s) = record { wait = omega arith; reads = omega arith } in
    let page : page_cost (limits 20 256) B ≡ 18648 + 2 * B * 813784 = omega arith in
    figure_starts (limits_of s) s first image p o
    ∙ ap (λ (n : ℕ). 16 + 4 * (14 + s.wait) + n * pair_cost (limits_of s) + k * page_cost (limits_of s) B) n
    ∙ ap (λ (w : ℕ). 16 + 4 * (14 + w) + 0 * pair_cost (limits w 256) + k * page_cost (limits w 256) B) e ∙ ap (λ (m : ℕ). 152 + k * m) page

pub figure_reached : FigureReached
figure_reached l s first image h o =
    let w = way_replies (way_acts l h (session_order s first image) (every_session _ passable s o.settings.id first image o.bytes)) in
    record { replies = w.0; count = w.2 ∙ sym (begin_figure l h (session_order s first image)); ends = w.3 }

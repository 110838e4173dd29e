-- The claims of specs/Whole.antt: lists of calls by the laws of c2_calls, the target by its theorem, and each cut
-- by c2_cut.
use mathlib.Core.Path.{◌≡◌, refl, sym, ap, ◌∙◌, subst⁻¹}
use mathlib.Core.Bool.{true, false}
use mathlib.Core.List.{List, [], ◌∷◌, append-nil}
use Prim.Native.Nat.{ℕ, zero, suc, ◌+◌, ◌*◌, ◌/◌, ◌≤◌}
use native.Mathlib.Omega.{arith}
use borrow.Author.Tests.{eq-eqb, eqb-true}
use lib.Dec.{eqb}
use lib.ListN.{length, take, drop, replicate, length-replicate}
use Rattle.laws.proofs.Tests.{passes, by_test}
use Rattle.exchange.specs.Calls.{call_done, call_heard, told, in_a_row, MayFollow}
use Rattle.numbers.specs.Numbers.{running, bad_record}
use Rattle.numbers.specs.Numbers
use Rattle.c2_wire.specs.Exchange.{Exchange, ended, ask, at, Outcome, outcome, taken, fed, outcome_of}
use Rattle.settings.specs.Accepted.{settings_refusal}
use Rattle.settings.specs.Opening.{opening_refusal}
use Rattle.settings.proofs.Laws.Accepted.{facts}
use Rattle.settings.proofs.Laws.Opening.{settings_pass}
use Rattle.c2_order.specs.Order.{Page, pages, rising, session_order}
use Rattle.c2_order.specs.Conversation.{limits_of}
use Rattle.c2_order.specs.Point.{begin, reached}
use Rattle.c2_order.specs.Figure.{figure}
use Rattle.c2_order.specs.Claims.{Opening, exchange_of}
use Rattle.c2_order.proofs.Laws.Conversation.{limits_positive}
use Rattle.c2_order.proofs.Laws.Point.{begin_says}
use Rattle.c2_order.proofs.Laws.Claims.{start_bounds, points_exist, figure_falls}
use Rattle.c2_target.specs.declared.Target.{Target}
use Rattle.c2_target.specs.Delays.{Setup, setup}
use Rattle.c2_target.specs.Target.{fresh}
use Rattle.c2_target.specs.Steps.{own_replies, left_by}
use Rattle.c2_target.specs.Steps
use Rattle.c2_target.proofs.Laws.Known.{Lent, known_says}
use Rattle.c2_play.specs.Playing.{Played, whole_step}
use Rattle.c2_play.specs.Pages.{with_pages}
use Rattle.c2_play.specs.Job.{Job, first_of, job_pages, programmed}
use Rattle.c2_play.proofs.Laws.Playing.{played_out, played_left}
use Rattle.c2_play.proofs.Laws.Programmed.{Suits, Programmed}
use Rattle.c2_play.proofs.Laws.Programmed as Play
use Rattle.c2_target.proofs.Laws.Steps.{Lasts}
use Rattle.c2_play.proofs.Laws.OwnReplies.{sent, OwnReplies, own_along, own_left, own_ends, enough_end, out_given}
use Rattle.c2_play.proofs.Laws.Fresh.{fresh_suits}
use Rattle.c2_play.proofs.Laws.Rise.{rising_length}
use Rattle.c2_play.proofs.Laws.Job.{rising_pages, session_named, session_meets, job_opening, job_programmed, job_turned_away}
use Rattle.c2_cut.specs.Cut.{Cut}
use Rattle.c2_cut.proofs.Laws.Again.{numbers, pages_again, same_place}
use Rattle.c2_cut.proofs.Laws.Unprepared.{cut_turned_away}
use Rattle.c2_cut.proofs.Laws.ByReplies.{cuts_by_replies}
use Rattle.c2_calls.specs.Calls.{Call, taking, opening_number, refusal}
use Rattle.c2_calls.specs.Family.{C2, Told, replies_of, by_replies}
use Rattle.c2_calls.proofs.Laws.Claims.{refused_keeps}
use Rattle.c2_calls.proofs.Laws.Family.{c2_lists, accepts}
use Rattle.c2_calls.proofs.Laws.Family as Lists
use Rattle.c2_whole.specs.Whole.{opening_call, at_opening, Begins, anew, Bench, replies, bench_after, Ready, prepares, steps_sent, bench_cut, Own, CallsProgram, CallsAgain, CallsAlike, LikeOneCall, CallsExist, FreshReady}
use Rattle.c2_whole.proofs.Laws.Target.{stands, bench, ready, replies_alike, given_alike}
use Rattle.c2_whole.proofs.Laws.Bench.{suits_along, ended_along}

module _ (j : Job) (held : List ℕ) (g : Begins held j) where
  abbrev first : ℕ
  first = first_of j.pages

  halves : (length held ≡ 32) × (opening_refusal j.settings first (length j.image) ≡ 0)
  unfolding refusal opening_number
  halves = let p = passes (eqb (length held) 32) _ bad_record (omega arith) g.accepted in (eqb-true (length held) 32 p.0, p.1)

  opening_of : Opening j.settings first j.image
  opening_of = job_opening j g.proper halves.1

  -- the opening tells what no replies do
  starts : (before : Told) → at_opening before held j ≡ by_replies j.settings first j.image []
  unfolding call_heard call_done
  starts before = rw (eq-eqb (refusal (opening_call held j)) 0 g.accepted) (Lists.opens j.settings first j.image opening_of before held)

  -- a list of calls tells what its replies in a row come to
  told_are : (before : Told) (calls : List Call) → MayFollow C2 j.image (at_opening before held j) calls
      → told C2 before (opening_call held j ∷ calls) ≡ by_replies j.settings first j.image (in_a_row C2 calls)
  unfolding told
  told_are before calls m =
      ap (λ (x : Told). told C2 x calls) (starts before) ∙ c2_lists j.settings first j.image opening_of calls (rw (starts before) at m)

  -- the most steps to come and the replies taken, after replies in a row
  bounds : (rs : List ℕ) → (by_replies j.settings first j.image rs).left + (by_replies j.settings first j.image rs).taken
      ≤ (by_replies j.settings first j.image []).left
  unfolding by_replies reached
  bounds rs =
      let acts = session_order j.settings first j.image in
      let p = limits_positive j.settings (facts j.settings (settings_pass j.settings first (length j.image) halves.1)) in
      let there = points_exist (limits_of j.settings) j.settings first j.image p opening_of [] in
      rw (begin_says (limits_of j.settings) p acts) at (figure_falls (limits_of j.settings) j.settings first j.image p opening_of (begin acts) there rs)

  -- one call after the opening that takes these replies: it is accepted, its replies in a row are these, and it
  -- may follow
  abbrev one : (before : Told) → (rs buffer : List ℕ) → Call
  one before rs buffer = taking (at_opening before held j).held j.image rs buffer 0

  one_accepted : (before : Told) (rs buffer : List ℕ) → length rs ≤ length buffer → refusal (one before rs buffer) ≡ 0
  unfolding by_replies
  one_accepted before rs buffer h = rw (starts before) (accepts j.settings first j.image opening_of rs buffer h)

  one_row : (before : Told) (rs buffer : List ℕ) → length rs ≤ length buffer → in_a_row C2 (one before rs buffer ∷ []) ≡ rs
  unfolding in_a_row replies_of
  one_row before rs buffer h = rw (eq-eqb (refusal (one before rs buffer)) 0 (one_accepted before rs buffer h)) (append-nil rs)

  one_follows : (before : Told) (rs buffer : List ℕ) → MayFollow C2 j.image (at_opening before held j) (one before rs buffer ∷ [])
  one_follows before rs buffer = ((λ _. (refl, refl)), tt)

-- pages of the same numbers
same_numbers : (size n first o q : ℕ) (a b : List ℕ) → numbers (pages size o (rising first n) a) ≡ numbers (pages size q (rising first n) b)
unfolding pages rising
same_numbers size zero first o q a b = refl
same_numbers size (suc n) first o q a b = ap (λ (xs : List ℕ). first ∷ xs) (same_numbers size n (suc first) (o + size) (q + size) (drop size a) (drop size b))

-- an exchange whose outcome is not running has ended
over : (z : Exchange) → ((outcome_of z).number ≡ running → ⊥) → (q : Outcome) × (z ≡ ended q)
unfolding outcome_of
over (ended q) h = (q, refl)
over (ask a k) h = absurd (h refl)

module _ (j : Job) (held : List ℕ) (g : Begins held j) (rs : List ℕ) (b : Bench) (r : Ready j.settings b) where
  abbrev e : Exchange
  e = exchange_of (limits_of j.settings) j.settings (first_of j.pages) j.image

  abbrev x : Told
  x = by_replies j.settings (first_of j.pages) j.image rs

  abbrev u : Setup
  u = setup j.settings b.wanted b.delays

  abbrev y : Target
  y = (stands j.settings b r).target

  abbrev m : Suits (limits_of j.settings) u y b.flash
  m = (stands j.settings b r).suits

  ok : settings_refusal j.settings ≡ 0
  ok = settings_pass j.settings (first_of j.pages) (length j.image) (opening_of j held g).accepted

  lent : Lent u
  lent = record { id = g.proper.settings.id; delays = r.delays; wait = m.some }

  lasts : Lasts u y b.flash
  lasts = record { bytes = r.flash; exists = m.state }

  sized : length b.flash ≡ j.settings.size * j.settings.count
  sized = (known_says u y b.flash m.state).flash

  here : b ≡ bench b.wanted b.delays y b.flash
  here i = record { wanted = b.wanted; target = (stands j.settings b r).state i; flash = b.flash; delays = b.delays }

  -- the target after steps, and its replies, by the definitions of the session's side
  at_steps : (xs : List ℕ) → bench_after j.settings b xs ≡ bench b.wanted b.delays (left_by u y b.flash xs).target (left_by u y b.flash xs).flash
  at_steps xs = ap (λ (z : Bench). bench_after j.settings z xs) here ∙ given_alike j.settings b.wanted b.delays ok g.proper.settings.wait lent xs y b.flash lasts

  sent_is : steps_sent (by_replies j.settings (first_of j.pages) j.image rs) ≡ sent e rs
  unfolding by_replies
  sent_is = refl

  replies_there : replies j.settings b (take (taken e rs) (steps_sent (by_replies j.settings (first_of j.pages) j.image rs)))
      ≡ own_replies u y b.flash (take (taken e rs) (sent e rs))
  replies_there =
      ap (λ (l : List ℕ). replies j.settings b (take (taken e rs) l)) sent_is
      ∙ ap (λ (z : Bench). replies j.settings z (take (taken e rs) (sent e rs))) here
      ∙ replies_alike j.settings b.wanted b.delays ok g.proper.settings.wait lent (take (taken e rs) (sent e rs)) y b.flash lasts

  own_there : OwnReplies u y b.flash e rs → Own j.settings b (by_replies j.settings (first_of j.pages) j.image rs) rs
  unfolding by_replies
  own_there h = h ∙ sym replies_there

  -- the run to its end against that target
  abbrev out : Played
  out = played_out (whole_step u) e y b.flash

  module _ (own : Own j.settings b (by_replies j.settings (first_of j.pages) j.image rs) rs) where
    own_is_own : OwnReplies u y b.flash e rs
    unfolding by_replies
    own_is_own = own ∙ replies_there

    -- where these replies have ended the session, it has ended as the run to its end has
    at_end : (q : Outcome) → fed e rs ≡ ended q → outcome_of (fed e rs) ≡ outcome_of out.left
    at_end q h =
        ap outcome_of (own_left u e y b.flash rs own_is_own)
        ∙ ap (λ (z : Played). outcome_of z.left) (own_ends u (taken e rs) e y b.flash rs q own_is_own h (omega arith))

    pub ends : figure (limits_of j.settings) (begin (session_order j.settings (first_of j.pages) j.image)) ≤ length rs
        → x.outcome ≡ outcome_of out.left
    unfolding by_replies reached fed
    ends h =
        let p = limits_positive j.settings (facts j.settings ok) in
        let q = enough_end e (figure (limits_of j.settings) (begin (session_order j.settings (first_of j.pages) j.image))) rs
        (start_bounds (limits_of j.settings) j.settings (first_of j.pages) j.image p (opening_of j held g)) h in
        at_end q.0 q.1

    pub as_ended : (x.outcome.number ≡ running → ⊥) → x.outcome ≡ outcome_of out.left
    unfolding by_replies
    as_ended h = let q = over (fed e rs) h in at_end q.0 q.1

    -- the flash after n of the steps
    abbrev F : ℕ → List ℕ
    F n = (bench_cut j b (by_replies j.settings (first_of j.pages) j.image rs) n).flash

    flash_there : (n : ℕ) → F n ≡ (left_by u y b.flash (take n (sent e rs))).flash
    flash_there n =
        ap (λ (l : List ℕ). (bench_after j.settings b (take n l)).flash) sent_is
        ∙ ap (λ (z : Bench). z.flash) (at_steps (take n (sent e rs)))

    -- where the settings' pairs leave the wanted values
    out_programmed : prepares j b ≡ true → Programmed (programmed j b.flash) out
    out_programmed leaves = job_programmed j b.wanted b.delays y b.flash leaves g.proper (halves j held g).1 m

    pub holds : prepares j b ≡ true → x.outcome ≡ outcome Numbers.done → (n : ℕ) → x.taken ≤ n → F n ≡ programmed j b.flash
    unfolding by_replies
    holds leaves d n l =
        let z : x.outcome.number ≡ running → ⊥ =
        λ q. let w : Numbers.done ≡ running = sym (ap (λ (o : Outcome). o.number) d) ∙ q in omega arith in
        let q = over (fed e rs) z in
        let there = ended_along (limits_of j.settings) u e y b.flash rs own_is_own q.0 q.1 n l in
        flash_there n ∙ ap (λ (s : Steps.State). s.flash) there ∙ (out_programmed leaves).holds

    -- where they do not
    out_turned_away : prepares j b ≡ false → Play.TurnedAway u e y b.flash
    out_turned_away differs = job_turned_away j b.wanted b.delays y b.flash differs g.proper (halves j held g).1 m

    pub unchanged : prepares j b ≡ false → (n : ℕ) → F n ≡ b.flash
    unchanged differs n =
        let k = own_along u n e y b.flash rs own_is_own in
        flash_there n ∙ ap (λ (s : Steps.State). s.flash) k.1 ∙ (out_turned_away differs).same k.0

    -- either way
    clean : out.target.collision ≡ false
    clean = by_test (prepares j b) (λ q. (out_programmed q).clean) (λ q. (out_turned_away q).clean)

    abbrev left : ℕ → Steps.State
    left n = left_by u y b.flash (take n (sent e rs))

    suits_there : (n : ℕ) → Suits (limits_of j.settings) u (left n).target (left n).flash
    suits_there n = suits_along (limits_of j.settings) u e y b.flash rs own_is_own lent m clean n

    pub stays_ready : (n : ℕ) → Ready j.settings (bench_cut j b x n)
    stays_ready n =
        rw (sent_is, at_steps (take n (sent e rs)))
        (ready j.settings b.wanted b.delays _ _ ok g.proper.settings.wait (suits_there n))

    pub still_wanted : (n : ℕ) → (bench_cut j b x n).wanted ≡ b.wanted
    still_wanted n = rw (sent_is, at_steps (take n (sent e rs)))

    flash_sized : (n : ℕ) → length (F n) ≡ j.settings.size * j.settings.count
    flash_sized n = ap length (flash_there n) ∙ (known_says u _ _ (suits_there n).state).flash

    abbrev CutOf : List Page → (n : ℕ) → (now : List ℕ) → Type 0
    CutOf ps n now = Cut (limits_of j.settings) j.settings ps rs n b.flash now

    cut_there : (n : ℕ) → CutOf (rising_pages j.settings (first_of j.pages) j.image) n (F n)
    unfolding session_order
    cut_there n =
        let l = limits_of j.settings in
        let ps : List Page = rising_pages j.settings (first_of j.pages) j.image in
        let meets = session_meets l u (first_of j.pages) j.image y b.flash (opening_of j held g) m in
        by_test (prepares j b)
        (λ q. subst⁻¹ (CutOf ps n) (flash_there n) (cuts_by_replies l u ps y b.flash rs q meets own_is_own n))
        (λ q. cut_turned_away l u ps y b.flash rs q meets own_is_own n (F n) (unchanged q n))

    pub cut_is : (n : ℕ) → CutOf (job_pages j) n (F n)
    cut_is n = subst⁻¹ (λ (ns : List ℕ). CutOf (pages j.settings.size 0 ns j.image) n (F n)) g.proper.rising (cut_there n)

    pub again_is : (n : ℕ) (lent2 image : List ℕ) → Begins lent2 (anew j image)
        → programmed (anew j image) (F n) ≡ programmed (anew j image) b.flash
    again_is n lent2 image g2 =
        let t = j.settings in
        let first : ℕ = first_of j.pages in
        let c = cut_there n in
        let ps : List Page = rising_pages t first j.image in
        let qs : List Page = rising_pages t first image in
        let count : length image / t.size ≡ length j.image / t.size =
        sym (rising_length (length image / t.size) first)
        ∙ ap length (sym g2.proper.rising ∙ g.proper.rising)
        ∙ rising_length (length j.image / t.size) first in
        let nums : numbers qs ≡ numbers ps =
        ap (λ (k : ℕ). numbers (pages t.size 0 (rising first k) image)) count
        ∙ same_numbers t.size (length j.image / t.size) first 0 0 image j.image in
        let here : (f : List ℕ) → programmed (anew j image) f ≡ with_pages t.size qs f =
        λ f. ap (λ (l : List ℕ). with_pages t.size (pages t.size 0 l image) f) g2.proper.rising in
        here (F n)
        ∙ pages_again t qs b.flash (F n) (session_named t first image (opening_of (anew j image) lent2 g2)) sized (flash_sized n)
        (λ q hq off. c.unnamed q hq (λ i p a eq. let z = same_place qs ps nums i p a in off i z.0 z.1 (z.2 ∙ eq)))
        ∙ sym (here b.flash)

pub calls_program : CallsProgram
unfolding by_replies reached
calls_program j held before calls g m =
    let rs = in_a_row C2 calls in
    let e = told_are j held g before calls m in
    record {
      refused = refused_keeps;
      told_is = e;
      bounded = rw (e, starts j held g before) (bounds j held g rs);
      against = λ b r own leaves.
          let o = rw e at own in
          let p = out_programmed j held g rs b r o leaves in
          rw (e, starts j held g before) (record {
            ends = λ h. ends j held g rs b r o h ∙ p.ended;
            as_done = λ h. as_ended j held g rs b r o h ∙ p.ended;
            holds = holds j held g rs b r o leaves;
          });
      turned_away = λ b r own differs.
          let o = rw e at own in
          let p = out_turned_away j held g rs b r o differs in
          rw (e, starts j held g before) (record {
            unchanged = unchanged j held g rs b r o differs;
            ends = λ h. ends j held g rs b r o h ∙ p.ended;
            as_turned_away = λ h. as_ended j held g rs b r o h ∙ p.ended;
          });
      cut = λ b r own n.
          let o = rw e at own in
          rw e (record {
            pages = cut_is j held g rs b r o n;
            ready = stays_ready j held g rs b r o n;
            wanted = still_wanted j held g rs b r o n;
            again = again_is j held g rs b r o n;
          });
    }

pub calls_alike : CallsAlike
calls_alike j held before calls others g m n q =
    told_are j held g before calls m
    ∙ ap (λ (rs : List ℕ). by_replies j.settings (first_of j.pages) j.image rs) q
    ∙ sym (told_are j held g before others n)

pub like_one_call : LikeOneCall
like_one_call j held buffer before calls g m h =
    calls_alike j held before calls (one j held g before (in_a_row C2 calls) buffer ∷ []) g m (one_follows j held g before (in_a_row C2 calls) buffer)
    (sym (one_row j held g before (in_a_row C2 calls) buffer h))

pub fresh_ready : FreshReady
fresh_ready t w f ds ok byte a n h d = ready t w ds f fresh ok byte (fresh_suits t w ds f ok a n h d)

-- one call that takes the target's replies to the end
pub calls_exist : CallsExist
unfolding by_replies outcome_of
calls_exist j held before b g r =
    let t = j.settings in
    let s = stands t b r in
    let v = setup t b.wanted b.delays in
    let z = exchange_of (limits_of t) t (first_of j.pages) j.image in
    let out = played_out (whole_step v) z s.target b.flash in
    let rs = out.replies in
    let k = out_given v z s.target b.flash in
    let buffer : List ℕ = replicate (length rs) 0 in
    let room : length rs ≤ length buffer = omega (arith, length-replicate {A = ℕ} (length rs) 0) in
    let row = one_row j held g before rs buffer room in
    let follow = one_follows j held g before rs buffer in
    let same = told_are j held g before (one j held g before rs buffer ∷ []) follow ∙ ap (λ (qs : List ℕ). by_replies t (first_of j.pages) j.image qs) row in
    record {
      calls = one j held g before rs buffer ∷ [];
      follow = follow;
      own = rw (same, row) (own_there j held g rs b r k.own);
      ended = ap (λ (x : Told). x.outcome) same ∙ ap outcome_of (played_left (whole_step v) _ z s.target b.flash)
          ∙ by_test (prepares j b)
          (λ q. rw q (job_programmed j b.wanted b.delays s.target b.flash q g.proper (halves j held g).1 s.suits).ended)
          (λ q. rw q (job_turned_away j b.wanted b.delays s.target b.flash q g.proper (halves j held g).1 s.suits).ended);
    }

-- the target as the first session left it is one to which the whole claim applies again
pub calls_again : CallsAgain
calls_again j held before calls b n g m r own leaves image held_anew knew later g2 m2 own2 =
    let x = told C2 before (opening_call held j ∷ calls) in
    let cut = (calls_program j held before calls g m).cut b r own n in
    let whole = calls_program (anew j image) held_anew knew later g2 m2 in
    let a = whole.against (bench_cut j b x n) cut.ready own2 (rw cut.wanted leaves) in
    record {
      against = a;
      unmarked = λ k. (whole.cut (bench_cut j b x n) cut.ready own2 k).ready.unmarked;
      as_if_first = λ d k h. a.holds d k h ∙ cut.again held_anew image g2;
    }

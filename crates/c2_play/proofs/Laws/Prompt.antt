-- A target without delays answers at once: a WAIT is one strobe and a poll one read. So a session that ends
-- done against it takes as many replies as its acts cost by limits of one strobe and one read.
use mathlib.Core.Path.{◌≡◌, refl, sym, ap, ◌∙◌}
use mathlib.Core.Bool.{Bool, true, false, cond, ◌&&◌}
use mathlib.Core.List.{List, [], ◌∷◌}
use Prim.Native.Nat.{ℕ, zero, suc, ◌+◌, ◌-◌, ◌*◌, ◌/◌}
use native.Mathlib.Nat.{zero-mod}
use native.Mathlib.Omega.{arith}
use lib.Dec.{eqb}
use lib.ListN.{length}
use Rattle.laws.proofs.Tests.{by_test}
use Rattle.numbers.specs.Numbers.{done, poll_limit_reached}
use Rattle.c2_wire.specs.Bits.{bits, bit, odd}
use Rattle.c2_wire.specs.Step.{Step, released, driven, reset, pause, off, drives}
use Rattle.c2_wire.specs.Exchange.{Exchange, ended, Outcome, outcome_of}
use Rattle.c2_wire.specs.Frames.{sends, ins_code, frame, waiting, strobes, framed}
use Rattle.c2_wire.specs.Place.{longest}
use Rattle.c2_wire.specs.declared.Frame.TheVariants.{AddressRead, DataRead}
use Rattle.settings.specs.declared.Settings.{Settings}
use Rattle.settings.specs.Registers.{no_pairs, pairs_from, are_registers, are_pairs, leave_all}
use Rattle.c2_order.specs.Acts.{Act, send, poll, expect, reset_pulse, pause_20_ms, address_write, data_write}
use Rattle.c2_order.specs.Order.{pages, rising, order, session_order}
use Rattle.c2_order.specs.Conversation.{limits, limits_of, polling, conversation}
use Rattle.c2_order.specs.Figure.{cost, costs}
use Rattle.c2_order.proofs.Laws.Valid.{Every, none, more}
use Rattle.c2_order.proofs.Laws.Order.{Ground, every_session}
use Rattle.c2_order.proofs.Laws.Figure.Start.{costs_session}
use Rattle.settings.proofs.Laws.Opening.{Opened, opened, settings_pass}
use Rattle.c2_target.specs.declared.Command.{Command}
use Rattle.c2_target.specs.declared.Output.{Output}
use Rattle.c2_target.specs.declared.Effect.{Effect}
use Rattle.c2_target.specs.declared.Effect.TheVariants.{Nothing, SetAddress, Write, CountDown, Read}
use Rattle.c2_target.specs.declared.Point.{Point}
use Rattle.c2_target.specs.declared.Point.TheVariants.{Start, Ins, WriteLength, ReadLength, Address, Data, LongData, Wait, Waiting, Send, Stop}
use Rattle.c2_target.specs.declared.Met.{Met}
use Rattle.c2_target.specs.declared.Device.{Device}
use Rattle.c2_target.specs.declared.Link.{Link}
use Rattle.c2_target.specs.declared.Target.{Target}
use Rattle.c2_target.specs.Delays.{Setup, setup, delay, next_place}
use Rattle.c2_target.specs.Commands.{some_output}
use Rattle.c2_target.specs.Interface.{Acted, link, device, in_busy, out_ready, linked, shown, given, late_of, put_byte, get_byte, counted, begun, none_met, frame_does}
use Rattle.c2_target.specs.Strobes.{line, marked, sending, frame_begins, after_ins, after_write_length, after_read_length, after_address, after_data, value_sent, after_wait, strobed_at}
use Rattle.c2_target.proofs.Laws.KnownPoint.{not_both}
use Rattle.c2_target.proofs.Laws.Known.{Lent, known_says}
use Rattle.c2_target.proofs.Laws.Steps.{setup_accepted}
use Rattle.c2_target.specs.Target.{fresh, cleared, after_reset, after_pause, stepped}
use Rattle.c2_play.specs.Playing.{Played, played}
use Rattle.c2_play.specs.Pages.{up_to}
use Rattle.c2_play.specs.Claims.{RepliesWithoutDelays}
use Rattle.c2_play.proofs.Laws.Playing.{duration, played_out, out_count}
use Rattle.c2_play.proofs.Laws.Frames.{idle, heard}
use Rattle.c2_play.proofs.Laws.Onto.{Refuses}
use Rattle.c2_play.proofs.Laws.Refuses.{refuses_append, refuses_up_to}
use Rattle.c2_play.proofs.Laws.WholeStep.{out_stepped}
use Rattle.c2_play.proofs.Laws.Job.{session_programmed, session_enough}
use Rattle.c2_play.proofs.Laws.Fresh.{fresh_suits}

-- the target between two frames, with nothing left of d and e
abbrev quiet : (place : ℕ) → (collision : Bool) → (address : ℕ) → (on : Bool) → (keys : ℕ) → Met → Command → Output → Target
quiet p c a on n m x o = idle p c (device a on n m (link x o 0 0))

pub data Quiet : Target → Type 0 where
  is_quiet : (p : ℕ) (c : Bool) (a : ℕ) (on : Bool) (n : ℕ) (m : Met) (x : Command) (o : Output) → Quiet (quiet p c a on n m x o)

cond_same : (b : Bool) (l : Link) → cond b l l ≡ l
cond_same true l = refl
cond_same false l = refl

-- without delays no e is left either
late_none : (o : Output) (p : ℕ) → late_of [] o p ≡ 0
unfolding late_of delay
late_none o p = go (some_output o)
  where
    go : (b : Bool) → ◌≡◌ {A = ℕ} (cond b 0 0) 0
    go true = refl
    go false = refl

-- a sum that computes over any number
unfoldable pub sum : ℕ → ℕ → ℕ
sum zero m = m
sum (suc n) m = suc (sum n m)

sum_is : (n m : ℕ) → sum n m ≡ n + m
unfolding sum
sum_is zero m = omega arith
sum_is (suc n) m = omega (arith, sum_is n m)

-- the target without delays whose device wants no pairs, with this limit of a WAIT
abbrev undelayed : Settings → (wait : ℕ) → Setup
undelayed s l = record { settings = s; wait = l; wanted = no_pairs; delays = [] }

-- Without delays a WAIT has no zeros, whatever its limit: it might as well be 1.
module _ (s : Settings) (l : ℕ) where
  sent_alike : (e : Effect) (d : Device) (f : List ℕ) → value_sent (undelayed s l) e d f ≡ value_sent (undelayed s 1) e d f
  unfolding value_sent
  sent_alike Nothing d f = refl
  sent_alike (SetAddress a) d f = refl
  sent_alike (Write b) d f = refl
  sent_alike CountDown d f = refl
  sent_alike Read d f = refl

  wait_alike : (z n : ℕ) (e : Effect) (d : Device) (f : List ℕ) → after_wait (undelayed s l) z n e d f ≡ after_wait (undelayed s 1) z n e d f
  unfolding after_wait
  wait_alike z n e d f = rw (sent_alike e d f)

  does_alike : (e : Effect) (d : Device) (p : ℕ) (f : List ℕ) → frame_does (undelayed s l) e d p f ≡ frame_does (undelayed s 1) e d p f
  unfolding frame_does put_byte get_byte
  does_alike Nothing d p f = refl
  does_alike (SetAddress a) d p f = refl
  does_alike (Write b) d p f = refl
  does_alike CountDown d p f = refl
  does_alike Read d p f = refl

  strobed_alike : (p : Point) (t : Target) (f : List ℕ) (x : Step) → strobed_at (undelayed s l) p t f x ≡ strobed_at (undelayed s 1) p t f x
  unfolding strobed_at delay
  strobed_alike Start t f x = refl
  strobed_alike (Ins n v) t f x = refl
  strobed_alike (WriteLength n v) t f x = refl
  strobed_alike (ReadLength n v) t f x = refl
  strobed_alike (Address n v) t f x = refl
  strobed_alike (Data n v) t f x = refl
  strobed_alike (LongData n) t f x = refl
  strobed_alike (Wait n e) t f x = rw (zero-mod l, wait_alike 0 n e t.device f)
  strobed_alike (Waiting z n e) t f x = rw (wait_alike z n e t.device f)
  strobed_alike (Send n v e) t f x = refl
  strobed_alike (Stop e) t f x = rw (does_alike e t.device t.place f)

  stepped_alike : (t : Target) (f : List ℕ) (x : Step) → stepped (undelayed s l) t f x ≡ stepped (undelayed s 1) t f x
  unfolding stepped
  stepped_alike t f released = strobed_alike t.point t f released
  stepped_alike t f (driven b) = strobed_alike t.point t f (driven b)
  stepped_alike t f reset = refl
  stepped_alike t f pause = refl
  stepped_alike t f off = refl

-- a limit of one more than `others`, of a session; that of the target does not matter
module _ (s : Settings) (others : ℕ) where
  abbrev u : Setup
  u = undelayed s 1

  -- how a run ends (`ends`), and the replies that it takes (`count`)
  abbrev pub ends : Exchange → Target → List ℕ → ℕ
  ends e t f = (outcome_of (played_out (stepped u) e t f).left).number

  abbrev pub count : Exchange → Target → List ℕ → ℕ
  count e t f = duration (stepped u) e t f

  -- after n replies a run goes on with another exchange, from a target between two frames
  pub record Passes (n : ℕ) (e : Exchange) (t : Target) (f : List ℕ) (k : Exchange) : Type 0 where
    pub target : Target
    pub flash : List ℕ
    pub between : Quiet target
    pub counts : count e t f ≡ sum n (count k target flash)
    pub same_end : ends e t f ≡ ends k target flash

  abbrev conv : List Act → Exchange
  conv acts = conversation (limits (suc others) 256) acts

  -- An act of a session that ends done takes one strobe a WAIT and one read a poll.
  unfoldable pub Prompt : Act → Type 0
  Prompt a = (acts : List Act) (t : Target) (f : List ℕ) → Quiet t → Refuses (a ∷ []) → ends (conv (a ∷ acts)) t f ≡ done
      → Passes (cost (limits 1 1) a) (conv (a ∷ acts)) t f (conv acts)

  -- key writes that are counted once another frame has begun
  abbrev kept : ℕ → ℕ
  kept n = cond (eqb n 3) 0 n

  resets : Prompt reset_pulse
  unfolding sum Prompt cost longest conversation strobes played duration outcome_of stepped after_reset cleared
  resets acts _ f (is_quiet p c a on n m x o) r d =
      record { target = quiet p c 0 false 0 _ _ _; flash = f; between = is_quiet _ _ _ _ _ _ _ _; counts = refl; same_end = refl }

  pauses : Prompt pause_20_ms
  unfolding sum Prompt cost longest conversation strobes played duration outcome_of stepped after_pause
  pauses acts _ f (is_quiet p c a on n m x o) r d =
      record { target = quiet p c a _ n m x o; flash = f; between = is_quiet _ _ _ _ _ _ _ _; counts = refl; same_end = refl }

  addresses : (b : ℕ) → Prompt (address_write b)
  unfolding sum Prompt cost longest conversation strobes played duration outcome_of frame sends ins_code bits bit odd drives stepped strobed_at line marked begun frame_begins after_ins after_address frame_does
  addresses b acts _ f (is_quiet p c a on n m x o) r d =
      record { target = quiet p c (heard b) on (kept n) m x o; flash = f; between = is_quiet _ _ _ _ _ _ _ _; counts = refl; same_end = refl }

  -- what is left after a Data Write (`written`) and a Data Read (`read`) at its STOP
  abbrev written : (byte place : ℕ) → (address : ℕ) → (on : Bool) → (keys : ℕ) → Met → Command → Output → List ℕ → Acted
  written b p a on n m x o f = frame_does u (Write b) (device a on n m (link x o 0 0)) (next_place [] p) f

  abbrev read : (place : ℕ) → (address : ℕ) → (on : Bool) → (keys : ℕ) → Met → Command → Output → List ℕ → Acted
  read p a on n m x o f = frame_does u Read (device a on n m (link x o 0 0)) (next_place [] p) f

  written_quiet : (b p : ℕ) (c : Bool) (a : ℕ) (on : Bool) (n : ℕ) (m : Met) (x : Command) (o : Output) (f : List ℕ)
      → Quiet (idle (written b p a on n m x o f).place c (written b p a on n m x o f).device)
  unfolding frame_does put_byte delay
  written_quiet b p c a on n m x o f =
      by_test (linked s (device a on n m (link x o 0 0))) (λ e. rw (e, late_none) (is_quiet _ _ _ _ _ _ _ _)) (λ e. rw e (is_quiet _ _ _ _ _ _ _ _))

  read_quiet : (p : ℕ) (c : Bool) (a : ℕ) (on : Bool) (n : ℕ) (m : Met) (x : Command) (o : Output) (f : List ℕ)
      → Quiet (idle (read p a on n m x o f).place c (read p a on n m x o f).device)
  unfolding frame_does get_byte
  read_quiet p c a on n m x o f =
      by_test (linked s (device a on n m (link x o 0 0)))
      (λ e.
      by_test (out_ready (link x o 0 0)) (λ r. rw (e, r, late_none) (is_quiet _ _ _ _ _ _ _ _)) (λ r. rw (e, r) (is_quiet _ _ _ _ _ _ _ _)))
      (λ e. rw e (is_quiet _ _ _ _ _ _ _ _))

  writes : (b : ℕ) → Prompt (data_write b)
  unfolding sum Prompt cost longest conversation strobes waiting played duration outcome_of frame sends ins_code bits bit odd drives stepped strobed_at line marked begun frame_begins after_ins after_write_length after_data after_wait sending delay
  writes b acts _ f (is_quiet p c a on n m x o) r d =
      record {
        target = idle (written (heard b) p a on (kept n) m x o f).place c (written (heard b) p a on (kept n) m x o f).device;
        flash = (written (heard b) p a on (kept n) m x o f).flash;
        between = written_quiet (heard b) p c a on (kept n) m x o f;
        counts = refl;
        same_end = refl;
      }

  -- a Data Read from there, whatever follows it
  reads : (k : ℕ → Exchange) (p : ℕ) (c : Bool) (a : ℕ) (on : Bool) (n : ℕ) (m : Met) (x : Command) (o : Output) (f : List ℕ)
      → Passes 15 (framed (suc others) (frame DataRead 0) k) (quiet p c a on n m x o) f (k (heard (given s (device a on (kept n) m (link x o 0 0)) f)))
  unfolding sum strobes waiting played duration outcome_of frame sends ins_code bits bit odd drives stepped strobed_at line marked begun frame_begins after_ins after_read_length after_wait value_sent sending delay
  reads k p c a on n m x o f =
      record {
        target = idle (read p a on (kept n) m x o f).place c (read p a on (kept n) m x o f).device;
        flash = (read p a on (kept n) m x o f).flash;
        between = read_quiet p c a on (kept n) m x o f;
        counts = refl;
        same_end = refl;
      }

  expects : (y : ℕ) (bad : Outcome) → Prompt (expect y bad)
  unfolding Prompt cost longest conversation Refuses frame sends ins_code bits played duration outcome_of
  expects y bad acts _ f (is_quiet p c a on n m x o) r d =
      let v : ℕ = heard (given s (device a on (kept n) m (link x o 0 0)) f) in
      let w = reads (λ z. cond (eqb z y) (conv acts) (ended bad)) p c a on n m x o f in
      by_test (eqb v y)
      (λ e. record { target = w.target; flash = w.flash; between = w.between; counts = rw e at w.counts; same_end = rw e at w.same_end })
      (λ e. absurd (refused bad.number (sym (rw e at w.same_end) ∙ d) r.0))
    where
      refused : (m : ℕ) → m ≡ done → eqb m done ≡ false → ⊥
      refused m e h = not_both (sym (rw e at h))

  -- what an Address Read shows
  abbrev seen : (address : ℕ) → (on : Bool) → Command → Output → ℕ
  seen a on x o = heard (shown s (device a on 0 none_met (link x o 0 0)))

  looks : (k : ℕ → Exchange) (p : ℕ) (c : Bool) (a : ℕ) (on : Bool) (n : ℕ) (m : Met) (x : Command) (o : Output) (f : List ℕ)
      → (count (framed (suc others) (frame AddressRead 0) k) (quiet p c a on n m x o) f ≡ sum 12 (count (k (seen a on x o)) (quiet p c a on (kept n) m x o) f))
      × (ends (framed (suc others) (frame AddressRead 0) k) (quiet p c a on n m x o) f ≡ ends (k (seen a on x o)) (quiet p c a on (kept n) m x o) f)
  unfolding sum strobes played duration outcome_of frame sends ins_code bits bit odd drives stepped strobed_at line marked begun frame_begins after_ins sending shown linked frame_does counted in_busy
  looks k p c a on n m x o f =
      let e = cond_same (on && eqb a s.fpdat) (link x o 0 0) in (
        ap (λ (l : Link). sum 12 (count (k (seen a on x o)) (idle p c (device a on (kept n) m l)) f)) e,
        ap (λ (l : Link). ends (k (seen a on x o)) (idle p c (device a on (kept n) m l)) f) e,
      )

  -- a read that does not satisfy a poll is shown again, up to the limit
  polls_out : (ok : ℕ → Bool) (k : Exchange) (left p : ℕ) (c : Bool) (a : ℕ) (on : Bool) (n : ℕ) (m : Met) (x : Command) (o : Output) (f : List ℕ)
      → ok (seen a on x o) ≡ false → ends (polling (suc others) left ok k) (quiet p c a on n m x o) f ≡ poll_limit_reached
  unfolding polling played duration outcome_of
  polls_out ok k zero p c a on n m x o f h = refl
  polls_out ok k (suc left) p c a on n m x o f h =
      (looks (λ z. cond (ok z) k (polling (suc others) left ok k)) p c a on n m x o f).1 ∙ rw h (polls_out ok k left p c a on (kept n) m x o f h)

  polls : (ok : ℕ → Bool) → Prompt (poll ok)
  unfolding Prompt cost longest conversation polling frame sends ins_code bits
  polls ok acts _ f (is_quiet p c a on n m x o) r d =
      let w = looks (λ z. cond (ok z) (conv acts) (polling (suc others) 255 ok (conv acts))) p c a on n m x o f in
      by_test (ok (seen a on x o))
      (λ e.
      record { target = quiet p c a on (kept n) m x o; flash = f; between = is_quiet _ _ _ _ _ _ _ _; counts = rw e at w.0; same_end = rw e at w.1 })
      (λ e. absurd (let z : poll_limit_reached ≡ done = sym (polls_out ok (conv acts) 256 p c a on n m x o f e) ∙ d in omega (arith, z)))

  pub prompt : Ground Prompt
  prompt =
      record {
        resets = resets;
        pauses = pauses;
        addresses = addresses;
        writes = writes;
        takes = polls _;
        readies = polls _;
        expects = λ y bad h e. expects y bad;
      }

  first_refuses : (a : Act) (acts : List Act) → Refuses (a ∷ acts) → Refuses (a ∷ []) × Refuses acts
  unfolding Refuses
  first_refuses (send ss) acts h = (tt, h)
  first_refuses (poll ok) acts h = (tt, h)
  first_refuses (expect y bad) acts h = ((h.0, tt), h.1)

  -- a session that ends done takes as many replies as its acts cost
  pub replies_cost : (acts : List Act) → Every Prompt acts → Refuses acts → (t : Target) (f : List ℕ) → Quiet t → ends (conv acts) t f ≡ done
      → count (conv acts) t f ≡ costs (limits 1 1) acts
  unfolding costs conversation duration Prompt
  replies_cost [] none r t f q d = refl
  replies_cost (a ∷ acts) (more g gs) r t f q d =
      let h = first_refuses a acts r in
      let w = g acts t f q h.0 d in
      w.counts ∙ sum_is (cost (limits 1 1) a) (count (conv acts) w.target w.flash)
      ∙ ap (λ (m : ℕ). cost (limits 1 1) a + m) (replies_cost acts gs h.1 w.target w.flash w.between (sym w.same_end ∙ d))

pub replies_without_delays : RepliesWithoutDelays
unfolding session_order order fresh cleared Refuses pairs_from are_registers are_pairs leave_all
replies_without_delays s first image f n o l b h =
    let acts = session_order s first image in
    let ps = pages s.size 0 (rising first (length image / s.size)) image in
    let x : Opened s first (length image) = opened s first (length image) o.accepted in
    let B : ℕ = x.settings.blocks in
    let a = settings_pass s first (length image) o.accepted in
    let suits = fresh_suits s no_pairs [] f a refl l b tt in
    let lent : Lent (setup s no_pairs []) = record { id = o.settings.id; delays = tt; wait = suits.some } in
    let k = known_says (setup s no_pairs []) fresh f suits.state in
    let others : ℕ = s.wait - 1 in
    let limit : s.wait ≡ suc others = omega (arith, suits.some) in
    let e = conversation (limits (suc others) 256) acts in
    let alike : played_out (stepped (setup s no_pairs [])) (conversation (limits_of s) acts) fresh f ≡ played_out (stepped (undelayed s 1)) e fresh f =
    λ i. played_out (λ y g z. stepped_alike s s.wait y g z i) (conversation (limits (limit i) 256) acts) fresh f in
    let out = out_stepped (setup s no_pairs []) lent (setup_accepted (setup s no_pairs []) a refl) (conversation (limits_of s) acts) fresh f b k ∙ alike in
    let p = session_programmed (limits_of s) (setup s no_pairs []) first image fresh f refl o suits in
    let is_done : ends s others e fresh f ≡ done = sym (ap (λ (z : Played). (outcome_of z.left).number) out) ∙ ap (λ (z : Outcome). z.number) p.ended in
    let refuses = refuses_append (up_to s ps) (reset_pulse ∷ []) (refuses_up_to s ps) tt in
    let every = every_session (Prompt s others) (prompt s others) s o.settings.id first image o.bytes in
    let blocks : s.size / 256 ≡ B = omega (arith, x.settings.size) in
    ap (λ (z : Played). length z.replies) (session_enough (setup s no_pairs []) n first image fresh f o h ∙ out)
    ∙ out_count (stepped (undelayed s 1)) e fresh f
    ∙ replies_cost s others acts every refuses fresh f (is_quiet _ _ _ _ _ _ _ _) is_done
    ∙ costs_session (limits 1 1) s B x.settings.size first (length image / s.size) image (omega (arith, x.settings.some)) x.whole
    ∙ ap (λ (m : ℕ). 76 + s.pairs.count * 27 + length image / s.size * m) (omega (arith, blocks))

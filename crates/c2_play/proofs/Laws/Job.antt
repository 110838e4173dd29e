-- A session over pages from a first one on, and a job's: each programs the target.
use mathlib.Core.Path.{◌≡◌, subst, subst⁻¹}
use mathlib.Core.Bool.{false}
use mathlib.Core.List.{List}
use Prim.Native.Nat.{ℕ, zero, suc, ◌-◌, ◌*◌, ◌/◌, ◌≤◌}
use native.Mathlib.Omega.{arith}
use lib.ListN.{length}
use Rattle.c2_wire.specs.Exchange.{Exchange, fed}
use Rattle.settings.specs.declared.Pairs.{Pairs}
use Rattle.settings.specs.declared.Settings.{Settings}
use Rattle.settings.specs.Registers.{pairs_of, leave_all}
use Rattle.settings.specs.Opening.{opening_refusal}
use Rattle.settings.proofs.Laws.Opening.{Opened, opened, settings_pass}
use Rattle.c2_order.specs.Order.{Page, pages, rising, order, session_order}
use Rattle.c2_order.specs.Conversation.{Limits, limits_of, conversation}
use Rattle.c2_order.specs.Point.{begin, reached}
use Rattle.c2_order.specs.Figure.{figure}
use Rattle.c2_order.specs.Claims.{Opening, exchange_of}
use Rattle.c2_order.proofs.Laws.Conversation.{limits_positive}
use Rattle.c2_order.proofs.Laws.Claims.{start_bounds}
use Rattle.c2_target.specs.declared.Target.{Target}
use Rattle.c2_target.specs.Delays.{Setup, setup}
use Rattle.c2_play.specs.Playing.{whole_step, play}
use Rattle.c2_play.specs.Pages.{with_pages}
use Rattle.c2_play.specs.Job.{Job, first_of, Proper, programmed}
use Rattle.c2_play.proofs.Laws.Playing.{played_out, played_enough}
use Rattle.c2_play.proofs.Laws.Named.{Named}
use Rattle.c2_play.proofs.Laws.Programmed.{Suits, Meets, Prepares, Programmed, TurnedAway}
use Rattle.c2_play.proofs.Laws.Rise.{rising_named}
use Rattle.c2_play.proofs.Laws.WholeStep.{pages_programmed, pages_turned_away}
use Rattle.c2_play.proofs.Laws.OwnReplies.{duration_bounded}

-- the pages of a session over an image from a first page on
abbrev pub rising_pages : Settings → (first : ℕ) → (image : List ℕ) → List Page
rising_pages s first image = pages s.size 0 (rising first (length image / s.size)) image

pub session_named : (s : Settings) (first : ℕ) (image : List ℕ) → Opening s first image → Named s (rising_pages s first image)
session_named s first image o =
    let x : Opened s first (length image) = opened s first (length image) o.accepted in
    rising_named s (length image / s.size) first 0 image (omega (arith, x.whole)) o.bytes x.inside

pub session_meets : (l : Limits) (u : Setup) (first : ℕ) (image : List ℕ) (t : Target) (f : List ℕ) → Opening u.settings first image → Suits l u t f
    → Meets l u (rising_pages u.settings first image) t f
session_meets l u first image t f o m =
    record {
      accepted = settings_pass u.settings first (length image) o.accepted;
      bytes = o.settings;
      named = session_named u.settings first image o;
      suits = m;
    }

pub session_programmed : (l : Limits) (u : Setup) (first : ℕ) (image : List ℕ) (t : Target) (f : List ℕ) → Prepares u → Opening u.settings first image → Suits l u t f
    → Programmed (with_pages u.settings.size (rising_pages u.settings first image) f)
    (played_out (whole_step u) (exchange_of l u.settings first image) t f)
unfolding session_order
session_programmed l u first image t f leaves o m =
    pages_programmed l u (rising_pages u.settings first image) t f leaves (session_meets l u first image t f o m)

some_page : (k size n : ℕ) → 1 ≤ n → n ≡ k * size → k ≡ suc (k - 1)
some_page zero size n h e = absurd (omega arith)
some_page (suc k) size n h e = omega arith

-- a session has a page at least, so one whose pairs do not leave the wanted values is turned away
pub session_turned_away : (l : Limits) (u : Setup) (first : ℕ) (image : List ℕ) (t : Target) (f : List ℕ)
    → leave_all (pairs_of u.settings.pairs) (pairs_of u.wanted) ≡ false → Opening u.settings first image → Suits l u t f
    → TurnedAway u (exchange_of l u.settings first image) t f
unfolding session_order rising pages
session_turned_away l u first image t f differs o m =
    let s = u.settings in
    let x : Opened s first (length image) = opened s first (length image) o.accepted in
    let some = some_page (length image / s.size) s.size (length image) x.some x.whole in
    let ps : ℕ → List Page = λ n. pages s.size 0 (rising first n) image in
    subst⁻¹ (λ (n : ℕ). TurnedAway u (conversation l (order s (ps n))) t f) some
    (pages_turned_away l u _ _ t f differs (subst (λ (n : ℕ). Meets l u (ps n) t f) some (session_meets l u first image t f o m)))

-- a session has ended after as many steps as are the most to come at its opening
pub session_enough : (u : Setup) (n first : ℕ) (image : List ℕ) (t : Target) (f : List ℕ) → Opening u.settings first image
    → figure (limits_of u.settings) (begin (session_order u.settings first image)) ≤ n
    → play u n (exchange_of (limits_of u.settings) u.settings first image) t f ≡ played_out (whole_step u) (exchange_of (limits_of u.settings) u.settings first image) t f
unfolding reached fed
session_enough u n first image t f o h =
    let x : Opened u.settings first (length image) = opened u.settings first (length image) o.accepted in
    let p = limits_positive u.settings x.settings in
    let few = start_bounds (limits_of u.settings) u.settings first image p o in
    let e = exchange_of (limits_of u.settings) u.settings first image in
    played_enough (whole_step u) n e t f (duration_bounded u n e t f (λ qs. omega (arith, few qs, h)))

pub job_opening : (j : Job) → Proper j → opening_refusal j.settings (first_of j.pages) (length j.image) ≡ 0
    → Opening j.settings (first_of j.pages) j.image
job_opening j p a = record { settings = p.settings; bytes = p.bytes; accepted = a }

-- a job's session, by what its device wants
module _ (j : Job) (w : Pairs) (ds : List ℕ) (t : Target) (f : List ℕ) where
  abbrev lent : Setup
  lent = setup j.settings w ds

  abbrev exchange : Exchange
  exchange = exchange_of (limits_of j.settings) j.settings (first_of j.pages) j.image

  pub job_programmed : Prepares lent → Proper j → opening_refusal j.settings (first_of j.pages) (length j.image) ≡ 0
      → Suits (limits_of j.settings) lent t f → Programmed (programmed j f) (played_out (whole_step lent) exchange t f)
  job_programmed leaves p a m =
      subst⁻¹ (λ (ns : List ℕ). Programmed (with_pages j.settings.size (pages j.settings.size 0 ns j.image) f) (played_out (whole_step lent) exchange t f))
      p.rising (session_programmed (limits_of j.settings) lent (first_of j.pages) j.image t f leaves (job_opening j p a) m)

  pub job_turned_away : leave_all (pairs_of j.settings.pairs) (pairs_of w) ≡ false → Proper j
      → opening_refusal j.settings (first_of j.pages) (length j.image) ≡ 0 → Suits (limits_of j.settings) lent t f
      → TurnedAway lent exchange t f
  job_turned_away differs p a m = session_turned_away (limits_of j.settings) lent (first_of j.pages) j.image t f differs (job_opening j p a) m

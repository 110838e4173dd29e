-- What a session supposes of the target, and what it leaves behind.
use mathlib.Core.Path.{◌≡◌}
use mathlib.Core.Bool.{true, false}
use mathlib.Core.List.{List}
use Prim.Native.Nat.{ℕ, ◌≤◌}
use Rattle.numbers.specs.Numbers.{done, bad_status}
use Rattle.laws.specs.Bytes.{Bytes}
use Rattle.c2_wire.specs.Exchange.{Exchange, outcome, outcome_of}
use Rattle.settings.specs.Accepted.{settings_refusal, InBytes}
use Rattle.settings.specs.Registers.{pairs_of, are_pairs, leave_all}
use Rattle.c2_order.specs.Order.{Page, order}
use Rattle.c2_order.specs.Conversation.{Limits, conversation}
use Rattle.settings.specs.declared.Settings.{Settings}
use Rattle.c2_target.specs.declared.Target.{Target}
use Rattle.c2_target.specs.Delays.{Setup}
use Rattle.c2_target.specs.Known.{known}
use Rattle.c2_play.specs.Playing.{Played, whole_step, play}
use Rattle.c2_play.proofs.Laws.Playing.{played_out}
use Rattle.c2_play.proofs.Laws.Named.{Named}

-- What a session supposes of the target: the pairs that its device wants are accepted; it is fresh or in any
-- state that exists, with no mark, any flash of size times count bytes and any delays. The session's WAIT
-- limit is no lower than the target's, and its reads are enough for a delay of one byte.
pub record Suits (limits : Limits) (u : Setup) (t : Target) (f : List ℕ) : Type 0 where
  pub wanted : are_pairs u.settings.fpdat u.wanted ≡ true
  pub state : known u t f ≡ true
  pub unmarked : t.collision ≡ false
  pub flash : Bytes f
  pub delays : Bytes u.delays
  pub some : 1 ≤ u.wait
  pub wait : u.wait ≤ limits.wait
  pub reads : 256 ≤ limits.reads

-- Settings are accepted, the pages are that device's, and the target is one that a session may meet.
pub record Meets (l : Limits) (u : Setup) (ps : List Page) (t : Target) (f : List ℕ) : Type 0 where
  pub accepted : settings_refusal u.settings ≡ 0
  pub bytes : InBytes u.settings
  pub named : Named u.settings ps
  pub suits : Suits l u t f

-- The pairs of the settings leave the wanted values: the premise of demand 3 (document 02, e).
abbrev pub Prepares : Setup → Type 0
Prepares u = leave_all (pairs_of u.settings.pairs) (pairs_of u.wanted) ≡ true

-- the exchange of a session over some pages
abbrev pub exchange_over : Limits → Settings → List Page → Exchange
exchange_over l s ps = conversation l (order s ps)

-- Played to its end an exchange has ended with 13; no collision is marked; and after any number of steps the
-- flash is as it was.
pub record TurnedAway (u : Setup) (e : Exchange) (t : Target) (f : List ℕ) : Type 0 where
  pub ended : outcome_of (played_out (whole_step u) e t f).left ≡ outcome bad_status
  pub clean : (played_out (whole_step u) e t f).target.collision ≡ false
  pub same : (n : ℕ) → (play u n e t f).flash ≡ f

-- A run has ended done, the flash is this one, and no collision is marked.
pub record Programmed (flash : List ℕ) (x : Played) : Type 0 where
  pub ended : outcome_of x.left ≡ outcome done
  pub holds : x.flash ≡ flash
  pub clean : x.target.collision ≡ false

-- What the target is given besides its state, the flash and a step; and its delays (document 01, "The
-- modelled target").
use Rattle.std.specs.Prelude.{cond, List, ℕ, ◌+◌, ltb, length, get_or}
use Rattle.settings.specs.declared.Pairs.{Pairs}
use Rattle.settings.specs.declared.Settings.{Settings}

-- What the target is lent: settings, the limit of a WAIT (which sends as many zeros as its delay modulo
-- this), the pairs that the device wants (document 02, e), and the delay list.
pub record Setup : Type 0 where
  pub settings : Settings
  pub wait : ℕ
  pub wanted : Pairs
  pub delays : List ℕ

-- The target's limit of a WAIT is that of its settings (document 02, d); document 01's 20 is that of old units.
abbrev pub setup : Settings → (wanted : Pairs) → (delays : List ℕ) → Setup
setup s w ds = record { settings = s; wait = s.wait; wanted = w; delays = ds }

-- a place of the delay list: one at or past its end is the start
unfoldable pub list_place : List ℕ → (place : ℕ) → ℕ
list_place ds p = cond (ltb p (length ds)) p 0

-- the delay at a place of the list, 0 where the list is empty
unfoldable pub delay : List ℕ → (place : ℕ) → ℕ
delay ds p = get_or ds (list_place ds p) 0

-- the place after this one: delays are taken in order
unfoldable pub next_place : List ℕ → (place : ℕ) → ℕ
next_place ds p = list_place ds p + 1

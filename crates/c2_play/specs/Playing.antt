-- A run: an exchange played against the target for any number of steps. Each reply is the target's own to the
-- step before, and nobody else writes the flash.
use Rattle.std.specs.Prelude.{List, [], ◌∷◌, ℕ, zero, suc, eqb}
use Rattle.c2_wire.specs.Bits.{bit}
use Rattle.c2_wire.specs.Step.{Step, code}
use Rattle.c2_wire.specs.Exchange.{Exchange, ended, ask, at}
use Rattle.c2_target.specs.declared.Target.{Target}
use Rattle.c2_target.specs.Delays.{Setup}
use Rattle.c2_target.specs.Strobes.{Turn, turn}
use Rattle.c2_target.specs.Target.{answer, flash_after}

-- What a run has come to: what is left of the exchange, the target and the flash, and the replies that the
-- exchange was given.
pub record Played : Type 0 where
  pub left : Exchange
  pub target : Target
  pub flash : List ℕ
  pub replies : List ℕ

-- a run with one reply more before it
abbrev pub then_played : (reply : ℕ) → Played → Played
then_played r x = record { left = x.left; target = x.target; flash = x.flash; replies = r ∷ x.replies }

-- an exchange played for n steps against whatever answers them; one that has ended gives no more
unfoldable pub played : (Target → List ℕ → Step → Turn) → (n : ℕ) → Exchange → Target → (flash : List ℕ) → Played
played step zero e t f = record { left = e; target = t; flash = f; replies = [] }
played step (suc n) (ended o) t f = record { left = ended o; target = t; flash = f; replies = [] }
played step (suc n) (ask (at g s) k) t f =
    then_played (bit (step t f s).reply) (played step n (k (step t f s).reply) (step t f s).target (step t f s).flash)

-- the target's whole step, refusals included, by the step's byte
unfoldable pub whole_step : Setup → Target → List ℕ → Step → Turn
whole_step u t f s = turn (eqb (answer u t f (code s)).reply 1) (answer u t f (code s)).target (flash_after u t f (code s))

-- an exchange played for n steps against the target
abbrev pub play : Setup → (n : ℕ) → Exchange → Target → (flash : List ℕ) → Played
play u n e t f = played (whole_step u) n e t f

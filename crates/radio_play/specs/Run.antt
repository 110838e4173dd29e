-- A job played against the modelled module.
use Rattle.std.specs.Prelude.{cond, List, [], ◌∷◌, ℕ, eqb, length}
use Rattle.exchange.specs.Exchange.{ended, ask}
use Rattle.radio_target.specs.declared.RadioTarget.{RadioTarget}
use Rattle.radio_target.specs.State.{radio_stepped}
use Rattle.radio_job.specs.declared.Ending.{Ending}
use Rattle.radio_job.specs.Job.{JobExchange, ends_bad}

-- how a job ends, the flash after each message, and the module's state and flash at the end
pub record JobRun : Type 0 where
  pub ending : Ending
  pub flashes : List (List ℕ)
  pub target : RadioTarget
  pub flash : List ℕ

-- a run with one message before it
abbrev pub then_run : (flash : List ℕ) → JobRun → JobRun
then_run f x = record { ending = x.ending; flashes = f ∷ x.flashes; target = x.target; flash = x.flash }

-- a run that ends here
abbrev pub run_ends : Ending → RadioTarget → (flash : List ℕ) → JobRun
run_ends e t f = record { ending = e; flashes = []; target = t; flash = f }

-- Each message goes to the module, and the job takes the reply, if it is as long as expected. The module does
-- not answer a message that it refuses: an empty reply is taken in its place.
unfoldable pub run_job : JobExchange → RadioTarget → (flash : List ℕ) → JobRun
run_job (ended e) t f = run_ends e t f
run_job (ask a k) t f =
    let s = radio_stepped t f a.bytes 256 in
    then_run s.flash
    (cond (eqb (length s.reply) a.expect) (run_job (k s.reply) s.target s.flash) (run_ends ends_bad s.target s.flash))

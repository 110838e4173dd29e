-- For the code: a job's record after a reply, and what is said then. `held_next_is` and `says_next_is` of
-- proofs/Laws/Take are the laws that these are the record of `job_advanced` and what the job then says.
use Rattle.std.specs.Prelude.{Bool, true, false, cond, ◌&&◌, List, ◌++◌, ℕ, eqb, length, take, drop}
use Rattle.exchange.specs.Exchange.{Said}
use Rattle.radio_job.specs.declared.Ending.{Ending}
use Rattle.radio_job.specs.declared.JobPoint.{JobPoint}
use Rattle.radio_job.specs.declared.JobPoint.TheVariants.{TakesConfiguration}
use Rattle.radio_job.specs.Image.{merged}
use Rattle.radio_job.specs.Job.{Message}
use Rattle.radio_point.specs.Code.After.{job_point_after}
use Rattle.radio_record.specs.Record.{mask_of, point_bytes}
use Rattle.radio_say.specs.Code.Say.{point_says}

-- whether a point takes the old configuration
abbrev pub takes_old : JobPoint → Bool
takes_old TakesConfiguration = true
takes_old _ = false

-- a record with the old configuration merged into its page
unfoldable pub merged_held : (held old : List ℕ) → List ℕ
merged_held h o = merged (mask_of h) (take 256 h) o ++ drop 256 h

-- the record with its page after a reply
unfoldable pub held_after : (old : Bool) → (held reply : List ℕ) → List ℕ
held_after t h r = cond (t && eqb (length r) 256) (merged_held h r) h

-- the record with other numbers at its end
unfoldable pub held_at : (bytes : ℕ) → JobPoint → (held : List ℕ) → List ℕ
held_at n p h = take 512 h ++ point_bytes n p

-- the record after a reply: its page, then its numbers
unfoldable pub held_next : JobPoint → (held image reply : List ℕ) → List ℕ
held_next p h im r = held_at (length im) (job_point_after p im r) (held_after (takes_old p) h r)

-- what is said then
unfoldable pub says_next : JobPoint → (held image reply : List ℕ) → Said Message Ending
says_next p h im r = point_says (job_point_after p im r) im (take 256 (held_after (takes_old p) h r))

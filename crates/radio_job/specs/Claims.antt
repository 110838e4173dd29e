-- What is claimed of a job, whatever the replies (request i, C2). Types alone: proofs/Laws/Ends proves it.
use Rattle.std.specs.Prelude.{◌≡◌, List, ℕ, zero, suc, ◌+◌, ◌*◌}
use Rattle.exchange.specs.Exchange.{ended, ask}
use Rattle.radio_job.specs.Image.{JobInput, page_count}
use Rattle.radio_job.specs.Job.{JobExchange, job}

-- a job that has ended after so many replies, whatever they are, and by a number
abbrev pub EndsIn : ℕ → JobExchange → Type 0
EndsIn n (ended e) = e.number ≡ 0 → ⊥
EndsIn zero (ask a k) = ⊥
EndsIn (suc n) (ask a k) = (r : List ℕ) → EndsIn n (k r)

-- C2: the job ends after 3 n + 7 replies at most
abbrev pub JobEnds : Type 0
JobEnds = (g : JobInput) → EndsIn (3 * page_count g.image + 7) (job g)

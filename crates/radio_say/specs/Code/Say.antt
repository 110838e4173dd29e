-- For the code: what a job says at a point, with the buffer. `says_left` of radio_advance, proofs/Laws/Take,
-- is the law that a point says what the job says that it leaves.
use Rattle.std.specs.Prelude.{Bool, cond, ◌&&◌, List, [], ℕ, eqb, leb, length, take}
use Rattle.exchange.specs.Exchange.{Said, said}
use Rattle.radio_job.specs.declared.Ending.{Ending}
use Rattle.radio_job.specs.declared.JobPoint.{JobPoint}
use Rattle.radio_job.specs.Image.{image_fits}
use Rattle.radio_job.specs.Job.{Message}
use Rattle.radio_job.specs.State.{point_leaves, point_fits}
use Rattle.radio_calls.specs.declared.RadioAdvanced.{RadioAdvanced}
use Rattle.radio_calls.specs.Calls.{takes_number, takes_answer, message_put}

-- what a job says at a point; it does not go by the mask
unfoldable pub point_says : JobPoint → (image page : List ℕ) → Said Message Ending
point_says p im c = said (point_leaves p im [] c)

-- what a running job answers: so many bytes to send, and to expect
abbrev pub asks_for : (send expect : ℕ) → RadioAdvanced
asks_for n k = record { number = 0; code = 0; offset = 0; send = n; expect = k }

-- whether there is room for a message, the record has its length, and the point is one of a job with this
-- image
unfoldable pub may_say : JobPoint → (image held out : List ℕ) → Bool
may_say p im h out = leb 256 (length out) && (eqb (length h) 520 && (image_fits (length im) && point_fits (length im) p))

-- what is answered, and the buffer afterwards; otherwise nothing is said
unfoldable pub say_answer : JobPoint → (image held out : List ℕ) → RadioAdvanced
say_answer p im h out = cond (may_say p im h out) (takes_answer (point_says p im (take 256 h))) (takes_number 0)

unfoldable pub say_out : JobPoint → (image held out : List ℕ) → List ℕ
say_out p im h out = cond (may_say p im h out) (message_put (point_says p im (take 256 h)) out) out

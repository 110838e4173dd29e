-- For the code: the point after a reply. `state_is` of radio_advance, proofs/Laws/Take, is the law that it is
-- that of `job_advanced`.
use Rattle.std.specs.Prelude.{cond, ◌&&◌, List, ℕ, ◌+◌, ltb, length, Option, Some, None, Ok, Err}
use Rattle.radio_job.specs.declared.Ending.{Ending}
use Rattle.radio_job.specs.declared.JobPoint.{JobPoint}
use Rattle.radio_job.specs.declared.JobPoint.TheVariants.{Finished}
use Rattle.radio_job.specs.Image.{image_fits, pages_for}
use Rattle.radio_job.specs.Job.{Standing}
use Rattle.radio_job.specs.State.{point_fits}
use Rattle.radio_job.specs.Advance.{reply_ending, next_point}

abbrev pub ending_of_number : (number : ℕ) → Ending
ending_of_number n = record { number = n; code = 0; offset = 0 }

-- the page behind one of the image's, if there is one
abbrev pub page_behind : (page bytes : ℕ) → Option ℕ
page_behind p n = cond (ltb (p + 1) (pages_for n)) (Some (p + 1)) None

-- the next point, or the end that a reply brings
abbrev pub point_by : Standing → JobPoint → (bytes : ℕ) → JobPoint
point_by (Ok _) p n = next_point p n
point_by (Err e) p n = Finished e

-- the point after a reply; one that is none of the job's stays
unfoldable pub job_point_after : JobPoint → (image reply : List ℕ) → JobPoint
job_point_after p im r =
    cond (image_fits (length im) && point_fits (length im) p) (point_by (reply_ending p im r) p (length im)) p

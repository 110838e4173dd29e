-- A job after a reply, point by point: what its record keeps. `advances` of proofs/Laws/Advance is the law
-- that it leaves to say what the reply leaves of the exchange.
use Rattle.std.specs.Prelude.{cond, List, ℕ, ◌+◌, eqb, ltb, length, Ok, Err}
use Rattle.radio_job.specs.declared.JobPoint.{JobPoint}
use Rattle.radio_job.specs.declared.JobPoint.TheVariants.{AsksConfiguration, TakesConfiguration, ErasesArea, FeedsPage}
use Rattle.radio_job.specs.declared.JobPoint.TheVariants.{ErasesConfiguration, SetsConfiguration, SetsByte0, AsksPage, TakesPage}
use Rattle.radio_job.specs.declared.JobPoint.TheVariants.{SetsByte1, Finished}
use Rattle.radio_job.specs.Image.{pages_for, image_page, merged}
use Rattle.radio_job.specs.Job.{Standing, goes_on, ends_done, ends_bad, answer_ending, page_ending}
use Rattle.radio_job.specs.State.{JobState}

-- a reply of this length goes on
unfoldable pub length_ending : (expect : ℕ) → (reply : List ℕ) → Standing
length_ending n r = cond (eqb (length r) n) goes_on (Err ends_bad)

-- an end in place of going on
abbrev pub last_ending : Standing → Standing
last_ending (Ok _) = Err ends_done
last_ending (Err e) = Err e

-- how a job stands after a reply
abbrev pub reply_ending : JobPoint → (image reply : List ℕ) → Standing
reply_ending AsksConfiguration im r = answer_ending r
reply_ending TakesConfiguration im r = length_ending 256 r
reply_ending ErasesArea im r = answer_ending r
reply_ending (FeedsPage p) im r = cond (ltb (p + 1) (pages_for (length im))) (length_ending 0 r) (answer_ending r)
reply_ending ErasesConfiguration im r = answer_ending r
reply_ending SetsConfiguration im r = answer_ending r
reply_ending SetsByte0 im r = answer_ending r
reply_ending (AsksPage p) im r = answer_ending r
reply_ending (TakesPage p) im r = cond (eqb (length r) 256) (page_ending p (image_page im p) r) (Err ends_bad)
reply_ending SetsByte1 im r = last_ending (answer_ending r)
reply_ending (Finished e) im r = Err e

-- the point after a reply by which a job goes on
abbrev pub next_point : JobPoint → (bytes : ℕ) → JobPoint
next_point AsksConfiguration n = TakesConfiguration
next_point TakesConfiguration n = ErasesArea
next_point ErasesArea n = FeedsPage 0
next_point (FeedsPage p) n = cond (ltb (p + 1) (pages_for n)) (FeedsPage (p + 1)) ErasesConfiguration
next_point ErasesConfiguration n = SetsConfiguration
next_point SetsConfiguration n = SetsByte0
next_point SetsByte0 n = AsksPage 0
next_point (AsksPage p) n = TakesPage p
next_point (TakesPage p) n = cond (ltb (p + 1) (pages_for n)) (AsksPage (p + 1)) SetsByte1
next_point SetsByte1 n = Finished ends_done
next_point (Finished e) n = Finished e

-- the page that is kept after such a reply: the old configuration is merged as it comes
abbrev pub page_kept : JobPoint → (mask page reply : List ℕ) → List ℕ
page_kept TakesConfiguration m c r = merged m c r
page_kept _ m c r = c

-- the state after a reply
abbrev pub job_advanced_by : Standing → JobState → (reply : List ℕ) → JobState
job_advanced_by (Ok _) s r = record s { page = page_kept s.point s.mask s.page r; point = next_point s.point s.bytes }
job_advanced_by (Err e) s r = record s { point = Finished e }

unfoldable pub job_advanced : (image : List ℕ) → JobState → (reply : List ℕ) → JobState
job_advanced im s r = job_advanced_by (reply_ending s.point im r) s r

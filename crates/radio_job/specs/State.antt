-- What a job keeps between two calls, and what it leaves to say there.
use Rattle.std.specs.Prelude.{Bool, true, cond, ◌&&◌, List, [], ℕ, suc, ◌*◌, eqb, ltb, length, drop}
use Rattle.exchange.specs.Exchange.{ended}
use Rattle.numbers.specs.Numbers.{done}
use Rattle.radio_command.specs.Numbers.{bad_message, error_answer, page_differs}
use Rattle.radio_job.specs.declared.Ending.{Ending}
use Rattle.radio_job.specs.declared.JobPoint.{JobPoint}
use Rattle.radio_job.specs.declared.JobPoint.TheVariants.{AsksConfiguration, TakesConfiguration, ErasesArea, FeedsPage}
use Rattle.radio_job.specs.declared.JobPoint.TheVariants.{ErasesConfiguration, SetsConfiguration, SetsByte0, AsksPage, TakesPage}
use Rattle.radio_job.specs.declared.JobPoint.TheVariants.{SetsByte1, Finished}
use Rattle.radio_job.specs.Image.{JobInput, mask_fits, image_fits, pages_for, page_count, image_pages, image_page, merged}
use Rattle.radio_job.specs.Job.{JobExchange, say, unless, confirmed, fetched, fed_pages, page_ending, pages_compared, protects}
use Rattle.radio_job.specs.Job.{sets_byte_0, restores, writes_area}

-- Our data, from the time that the old configuration has come the merged page; the mask; the image's length;
-- and the point reached.
pub record JobState : Type 0 where
  pub page : List ℕ
  pub mask : List ℕ
  pub bytes : ℕ
  pub point : JobPoint

-- the state of a job that has just been opened
abbrev pub opened_job : JobInput → JobState
opened_job g = record { page = g.ours; mask = g.mask; bytes = length g.image; point = AsksConfiguration }

-- what a job leaves to say at a point
abbrev pub point_leaves : JobPoint → (image mask page : List ℕ) → JobExchange
point_leaves AsksConfiguration im m c = fetched 127 (λ old. writes_area (page_count im) (image_pages im) (merged m c old))
point_leaves TakesConfiguration im m c = say [] 256 (λ old. writes_area (page_count im) (image_pages im) (merged m c old))
point_leaves ErasesArea im m c = writes_area (page_count im) (image_pages im) c
point_leaves (FeedsPage p) im m c = fed_pages (drop p (image_pages im)) (restores (image_pages im) c)
point_leaves ErasesConfiguration im m c = restores (image_pages im) c
point_leaves SetsConfiguration im m c = confirmed c (sets_byte_0 (image_pages im) c)
point_leaves SetsByte0 im m c = sets_byte_0 (image_pages im) c
point_leaves (AsksPage p) im m c = pages_compared p (drop p (image_pages im)) (protects c)
point_leaves (TakesPage p) im m c =
    say [] 256 (λ r. unless (page_ending p (image_page im p) r) (pages_compared (suc p) (drop (suc p) (image_pages im)) (protects c)))
point_leaves SetsByte1 im m c = protects c
point_leaves (Finished e) im m c = ended e

unfoldable pub job_left : (image : List ℕ) → JobState → JobExchange
job_left im s = point_leaves s.point im s.mask s.page

-- the ends that there are: code with 42 alone, a byte; offset with 43 alone, in the padded image
unfoldable pub ending_fits : (bytes : ℕ) → Ending → Bool
ending_fits n e =
    cond (eqb e.number error_answer) (ltb e.code 256 && eqb e.offset 0)
    (cond (eqb e.number page_differs) (eqb e.code 0 && ltb e.offset (256 * pages_for n))
    (cond (eqb e.number done) (eqb e.code 0 && eqb e.offset 0)
    (eqb e.number bad_message && (eqb e.code 0 && eqb e.offset 0))))

-- the points that there are: a page is one of the image's
abbrev pub point_fits : (bytes : ℕ) → JobPoint → Bool
point_fits n (FeedsPage p) = ltb p (pages_for n)
point_fits n (AsksPage p) = ltb p (pages_for n)
point_fits n (TakesPage p) = ltb p (pages_for n)
point_fits n (Finished e) = ending_fits n e
point_fits n _ = true

-- the states that there are: what an opening asks of mask, data and image, and a point of its order
unfoldable pub state_fits : JobState → Bool
state_fits s = eqb (length s.page) 256 && (mask_fits s.mask && (image_fits s.bytes && point_fits s.bytes s.point))

-- The record of a job, byte by byte (docs/RADIO_RECORD.md), and the job of a record.
use Rattle.std.specs.Prelude.{cond, ◌&&◌, List, [], ◌∷◌, ◌++◌, ℕ, ◌+◌, ◌*◌, ◌/◌, ◌%◌, eqb, length, take, drop, get_or, Option, Some, None}
use Rattle.std.proofs.Math.Option.{Option as OneOrNone, some, none}
use Rattle.radio_job.specs.declared.JobPoint.{JobPoint}
use Rattle.radio_job.specs.declared.JobPoint.TheVariants.{AsksConfiguration, TakesConfiguration, ErasesArea, FeedsPage}
use Rattle.radio_job.specs.declared.JobPoint.TheVariants.{ErasesConfiguration, SetsConfiguration, SetsByte0, AsksPage, TakesPage}
use Rattle.radio_job.specs.declared.JobPoint.TheVariants.{SetsByte1, Finished}
use Rattle.radio_job.specs.Image.{mask_fits, image_fits}
use Rattle.radio_job.specs.Job.{same_bytes}
use Rattle.radio_job.specs.State.{JobState, point_fits}
use Rattle.radio_record.specs.declared.JobFields.{JobFields}
use Rattle.radio_record.specs.declared.JobKept.{JobKept}

-- a field of one byte (`field_low`); a field of two bytes has its low byte first, then its high byte
-- (`field_high`)
abbrev pub field_low : ℕ → ℕ
field_low x = x % 256

abbrev pub field_high : ℕ → ℕ
field_high x = x / 256 % 256

-- the numbers of a point: its place in the order of the job, with the page where it has one
abbrev pub stage_fields : (stage page : ℕ) → JobFields
stage_fields k p = record { stage = k; page = field_low p; number = 0; code = 0; offset = 0 }

abbrev pub job_point_fields : JobPoint → JobFields
job_point_fields AsksConfiguration = stage_fields 0 0
job_point_fields TakesConfiguration = stage_fields 1 0
job_point_fields ErasesArea = stage_fields 2 0
job_point_fields (FeedsPage p) = stage_fields 3 p
job_point_fields ErasesConfiguration = stage_fields 4 0
job_point_fields SetsConfiguration = stage_fields 5 0
job_point_fields SetsByte0 = stage_fields 6 0
job_point_fields (AsksPage p) = stage_fields 7 p
job_point_fields (TakesPage p) = stage_fields 8 p
job_point_fields SetsByte1 = stage_fields 9 0
job_point_fields (Finished e) = record { stage = 0; page = 0; number = e.number; code = e.code; offset = e.offset }

-- the last eight bytes: 512 and 513 the image's length, 514 and 515 the point, 516 to 519 the end
unfoldable pub fields_laid : (bytes : ℕ) → JobFields → List ℕ
fields_laid n f =
    field_low n ∷ field_high n ∷ f.stage ∷ f.page ∷ field_low f.number ∷ field_low f.code ∷ field_low f.offset
    ∷ field_high f.offset ∷ []

unfoldable pub point_bytes : (bytes : ℕ) → JobPoint → List ℕ
point_bytes n p = fields_laid n (job_point_fields p)

-- the record of a job: bytes 0 to 255 the page, 256 to 511 the mask
unfoldable pub packed_job : JobState → List ℕ
packed_job s = s.page ++ (s.mask ++ point_bytes s.bytes s.point)

-- The numbers that any bytes say: a byte (`kept_byte`), or two bytes, the low one first (`kept_pair`).
abbrev pub kept_byte : List ℕ → ℕ → ℕ
kept_byte r i = get_or r i 0

abbrev pub kept_pair : List ℕ → ℕ → ℕ
kept_pair r i = get_or r i 0 + get_or r (i + 1) 0 * 256

unfoldable pub job_fields_read : List ℕ → JobFields
job_fields_read r =
    record {
      stage = kept_byte r 514;
      page = kept_byte r 515;
      number = kept_byte r 516;
      code = kept_byte r 517;
      offset = kept_pair r 518;
    }

-- the point of a running job by its place in the order, if there is one
abbrev pub later_job_point : (stage page : ℕ) → Option JobPoint
later_job_point k p =
    cond (eqb k 5) (Some SetsConfiguration)
    (cond (eqb k 6) (Some SetsByte0)
    (cond (eqb k 7) (Some (AsksPage p)) (cond (eqb k 8) (Some (TakesPage p)) (cond (eqb k 9) (Some SetsByte1) None))))

abbrev pub stage_point : (stage page : ℕ) → Option JobPoint
stage_point k p =
    cond (eqb k 0) (Some AsksConfiguration)
    (cond (eqb k 1) (Some TakesConfiguration)
    (cond (eqb k 2) (Some ErasesArea)
    (cond (eqb k 3) (Some (FeedsPage p)) (cond (eqb k 4) (Some ErasesConfiguration) (later_job_point k p)))))

-- the point that these numbers tell, if they tell one; with number 0 it is a running job's
unfoldable pub point_read : JobFields → Option JobPoint
point_read f =
    cond (eqb f.number 0) (stage_point f.stage f.page)
    (Some (Finished (record { number = f.number; code = f.code; offset = f.offset })))

-- the job that was read, if image length and point fit and these are its last eight bytes
unfoldable pub numbers_checked : (bytes : ℕ) → JobPoint → (told : List ℕ) → Option JobKept
numbers_checked n p t =
    cond (image_fits n && (point_fits n p && same_bytes (point_bytes n p) t)) (Some (record { bytes = n; point = p })) None

abbrev pub mask_of : List ℕ → List ℕ
mask_of r = take 256 (drop 256 r)

-- the job at the point that was read, if there is a point and the mask fits
abbrev pub kept_at : Option JobPoint → List ℕ → Option JobKept
kept_at (Some p) r = cond (mask_fits (mask_of r)) (numbers_checked (kept_pair r 512) p (drop 512 r)) None
kept_at None r = None

-- what a record keeps, by its numbers
unfoldable pub job_kept : List ℕ → Option JobKept
job_kept r = cond (eqb (length r) 520) (kept_at (point_read (job_fields_read r)) r) None

-- The job that a record keeps. specs/Claims.antt says of which records it is one: the packing of a job that
-- fits.
abbrev pub kept_state : Option JobKept → List ℕ → OneOrNone JobState
kept_state (Some k) r = some (record { page = take 256 r; mask = mask_of r; bytes = k.bytes; point = k.point })
kept_state None r = none

unfoldable pub unpacked_job : List ℕ → OneOrNone JobState
unpacked_job r = kept_state (job_kept r) r

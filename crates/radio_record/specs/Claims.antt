-- What is claimed of a job's record. Types alone: proofs/Laws/Claims proves each.
use Rattle.std.specs.Prelude.{◌≡◌, true, List, ◌↔◌, ℕ, length}
use Rattle.std.proofs.Math.Option.{some, none}
use Rattle.radio_job.specs.State.{JobState, state_fits}
use Rattle.radio_record.specs.Record.{packed_job, unpacked_job}

-- These bytes are the record of a job that fits.
pub record JobRecord (s : JobState) (r : List ℕ) : Type 0 where
  pub fits : state_fits s ≡ true
  pub bytes : packed_job s ≡ r

-- A record is 520 bytes.
abbrev pub PackedLong : Type 0
PackedLong = (s : JobState) → state_fits s ≡ true → length (packed_job s) ≡ 520

-- Exactly the record of a job that fits is unpacked, and to that job. So packing and unpacking gives the job
-- back, and a job has one record only.
abbrev pub JobUnpackedExactly : Type 0
JobUnpackedExactly = (s : JobState) (r : List ℕ) → unpacked_job r ≡ some s ↔ JobRecord s r

-- Exactly what is the record of no job is refused.
abbrev pub JobRefusedExactly : Type 0
JobRefusedExactly = (r : List ℕ) → unpacked_job r ≡ none ↔ ((s : JobState) → JobRecord s r → ⊥)

-- What a job comes to against the modelled module (request i, C3 and C4). Types alone: proofs/Laws/Claims
-- proves each.
use Rattle.std.specs.Prelude.{◌≡◌, List, [], ◌∷◌, ℕ, ◌+◌, ◌*◌, length, get_or}
use Rattle.radio_target.specs.State.{fresh_state}
use Rattle.radio_job.specs.Image.{JobInput, input_refusal, page_count}
use Rattle.radio_job.specs.Job.{job, ends_done, ends_error}
use Rattle.radio_play.specs.Run.{run_job}
use Rattle.radio_play.specs.Flashes.{job_leaves, job_flashes}

-- With code protection off the job ends done, and the flash is `job_leaves`; after each message it is as
-- `job_flashes` says.
abbrev pub JobPrograms : Type 0
JobPrograms =
    (g : JobInput) (f : List ℕ) → input_refusal g ≡ 0 → length f ≡ 33024 → (get_or f 0x7F01 0 ≡ 0 → ⊥)
    → run_job (job g) fresh_state f
    ≡ record { ending = ends_done; flashes = job_flashes g f; target = fresh_state; flash = job_leaves g f }

-- There are 3 n + 7 messages, and so replies.
abbrev pub JobMessages : Type 0
JobMessages = (g : JobInput) (f : List ℕ) → length (job_flashes g f) ≡ 3 * page_count g.image + 7

-- With code protection on it ends with 42, code 1, at the third reply, and the flash is as before.
abbrev pub JobProtected : Type 0
JobProtected =
    (g : JobInput) (f : List ℕ) → length f ≡ 33024 → get_or f 0x7F01 0 ≡ 0
    → run_job (job g) fresh_state f ≡ record { ending = ends_error 1; flashes = f ∷ f ∷ f ∷ []; target = fresh_state; flash = f }

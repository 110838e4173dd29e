-- A job cut after any number of messages, as request h has it for C2: what the flash then holds, and what a
-- new job makes of it. The module has been reset in between: its state is `fresh_state`.
use Rattle.std.specs.Prelude.{◌≡◌, List, [], ◌∷◌, ℕ, zero, suc, ◌+◌, ◌*◌, ◌≤◌, length, drop, replicate, get_or}
use Rattle.exchange.specs.Exchange.{ended, ask, branch}
use Rattle.radio_command.specs.Command.{message_byte}
use Rattle.radio_target.specs.declared.RadioTarget.{RadioTarget}
use Rattle.radio_target.specs.State.{fresh_state, radio_stepped}
use Rattle.radio_job.specs.Image.{JobInput, input_refusal, page_count}
use Rattle.radio_job.specs.Job.{JobExchange, take_reply, job, ends_done}
use Rattle.radio_play.specs.Run.{run_job}
use Rattle.radio_play.specs.Flashes.{configuration_for, job_leaves, job_flashes}

-- the flash after so many messages of a job to the module
unfoldable pub flash_cut : (messages : ℕ) → JobExchange → RadioTarget → (flash : List ℕ) → List ℕ
flash_cut zero e t f = f
flash_cut (suc n) (ended e) t f = f
flash_cut (suc n) (ask a k) t f =
    let s = radio_stepped t f a.bytes 256 in flash_cut n (branch k (take_reply a s.reply)) s.target s.flash

-- the flash after so many messages, where it is this before the first and these after each
unfoldable pub nth_flash : (messages : ℕ) → (flash : List ℕ) → (flashes : List (List ℕ)) → List ℕ
nth_flash zero f fs = f
nth_flash (suc n) f [] = f
nth_flash (suc n) f (x ∷ fs) = nth_flash n x fs

-- a mask that names every byte but 2 and 3
abbrev pub full_mask : List ℕ
full_mask = 0xFF ∷ 0xFF ∷ 0x00 ∷ 0x00 ∷ replicate 252 0xFF

-- the same job again, given the merged page that the first job's record holds once the old configuration is
-- read
abbrev pub job_again : JobInput → (flash : List ℕ) → JobInput
job_again g f = record { image = g.image; mask = full_mask; ours = configuration_for g f }

-- After n messages of a job, over a flash that was f and is now F: F is as `job_flashes` says, an equation
-- for each n; the information page is as before; and code protection is off until the last message, and after
-- it unless the merge sets it.
pub record JobCut (g : JobInput) (f : List ℕ) (n : ℕ) (F : List ℕ) : Type 0 where
  pub holds : F ≡ nth_flash n f (job_flashes g f)
  pub long : length F ≡ 33024
  pub information : drop 32768 F ≡ drop 32768 f
  pub off : n ≤ 3 * page_count g.image + 6 → get_or F 0x7F01 0 ≡ 0 → ⊥
  pub stays_off : (message_byte (configuration_for g f) 1 ≡ 0 → ⊥) → get_or F 0x7F01 0 ≡ 0 → ⊥

abbrev pub JobCuts : Type 0
JobCuts =
    (g : JobInput) (f : List ℕ) → input_refusal g ≡ 0 → length f ≡ 33024 → (get_or f 0x7F01 0 ≡ 0 → ⊥)
    → (n : ℕ) → JobCut g f n (flash_cut n (job g) fresh_state f)

-- Wherever a job was cut before its last message, any new job ends as C3 says of the flash that was left. The
-- old configuration is then the one that is found there: where the first job had erased it and not yet set it
-- again, what the mask does not name is lost.
abbrev pub JobAfterCut : Type 0
JobAfterCut =
    (g h : JobInput) (f : List ℕ) → input_refusal g ≡ 0 → length f ≡ 33024 → (get_or f 0x7F01 0 ≡ 0 → ⊥) → input_refusal h ≡ 0
    → (n : ℕ) → n ≤ 3 * page_count g.image + 6
    → (let F = flash_cut n (job g) fresh_state f in
    run_job (job h) fresh_state F ≡ record { ending = ends_done; flashes = job_flashes h F; target = fresh_state; flash = job_leaves h F })

-- Nothing is lost to a driver that has kept the merged page: the same job given this page leaves the flash as
-- the first job would have.
abbrev pub JobAgainRestores : Type 0
JobAgainRestores =
    (g : JobInput) (f : List ℕ) → input_refusal g ≡ 0 → length f ≡ 33024 → (get_or f 0x7F01 0 ≡ 0 → ⊥)
    → (n : ℕ) → n ≤ 3 * page_count g.image + 6
    → (let F = flash_cut n (job g) fresh_state f in
    run_job (job (job_again g f)) fresh_state F
    ≡ record { ending = ends_done; flashes = job_flashes (job_again g f) F; target = fresh_state; flash = job_leaves g f })

-- The flash that a job leaves, and the flash after each of its messages.
use Rattle.std.specs.Prelude.{List, [], ◌∷◌, ◌++◌, ℕ, zero, suc, ◌*◌, ◌-◌, take, drop, replicate}
use Rattle.radio_command.specs.Command.{message_byte}
use Rattle.radio_flash.specs.Flash.{erased_bytes, flash_page}
use Rattle.radio_job.specs.Image.{JobInput, page_count, padded, merged}

-- the configuration that a job sets: the merge with the page that the flash holds
abbrev pub configuration_for : JobInput → (flash : List ℕ) → List ℕ
configuration_for g f = merged g.mask g.ours (flash_page 127 f)

-- The flash that a job leaves: the padded image, and 0xFF to the end of the program area; of the merge bytes
-- 0, 1 and 4 to 255, bytes 2 and 3 erased; the information page as before.
unfoldable pub job_leaves : JobInput → (flash : List ℕ) → List ℕ
job_leaves g f =
    let c = configuration_for g f in
    padded g.image ++ (erased_bytes (32512 - 256 * page_count g.image)
    ++ ((message_byte c 0 ∷ message_byte c 1 ∷ 0xFF ∷ 0xFF ∷ drop 4 c) ++ drop 32768 f))

-- The flash once the program area is erased, with so many pages of the image, these configuration bytes 0 and
-- 1, and these from byte 4 on.
unfoldable pub flash_with : (image : List ℕ) → (pages b0 b1 : ℕ) → (rest information : List ℕ) → List ℕ
flash_with im i b0 b1 rest info =
    take (256 * i) (padded im) ++ (erased_bytes (32512 - 256 * i) ++ (b0 ∷ b1 ∷ 0xFF ∷ 0xFF ∷ (rest ++ info)))

-- with so many pages of the image and a configuration still erased
abbrev pub flash_fed : (image : List ℕ) → (pages : ℕ) → (information : List ℕ) → List ℕ
flash_fed im i info = flash_with im i 0xFF 0xFF (erased_bytes 252) info

-- after each page that is fed, from this one on
unfoldable pub feeding_flashes : (image : List ℕ) → (page count : ℕ) → (information : List ℕ) → List (List ℕ)
feeding_flashes im i zero info = []
feeding_flashes im i (suc n) info = flash_fed im (suc i) info ∷ feeding_flashes im (suc i) n info

-- After each message: two for the old configuration; WR_PRG_AREA, which erases; the pages; WR_FLASH_PAGE 127;
-- the merged page; byte 0; two for each page read back; byte 1.
unfoldable pub job_flashes : JobInput → (flash : List ℕ) → List (List ℕ)
job_flashes g f =
    let im = g.image in
    let n = page_count im in
    let c = configuration_for g f in
    let info = drop 32768 f in
    let set = flash_with im n (message_byte c 0) 0xFF (drop 4 c) info in
    f ∷ f ∷ flash_fed im 0 info
    ∷ (feeding_flashes im 0 n info
    ++ (flash_fed im n info
    ∷ flash_with im n 0xFF 0xFF (drop 4 c) info
    ∷ set
    ∷ (replicate (2 * n) set
    ++ (job_leaves g f ∷ []))))

-- What the program reports of an image (document 01, "The program"): a session over it run to its end
-- against a fresh modelled target.
use Rattle.std.specs.Prelude.{cond, List, [], ℕ, ◌/◌, eqb, ltb, length, replicate}
use Rattle.numbers.specs.Numbers.{past_last_page}
use Rattle.settings.specs.declared.Settings.{Settings}
use Rattle.settings.specs.Registers.{no_pairs}
use Rattle.settings.specs.Opening.{opening_refusal}
use Rattle.c2_order.specs.Order.{session_order}
use Rattle.c2_order.specs.Conversation.{limits_of}
use Rattle.c2_order.specs.Point.{begin}
use Rattle.c2_order.specs.Figure.{figure}
use Rattle.c2_run.specs.declared.Run.{Run}
use Rattle.c2_run.specs.Run.{run_answer}
use Rattle.c2_report.specs.declared.Report.{Report}

-- ID 0x04, FPDAT 0xB4, 32 pages of 512, the WAIT limit of old units, and no pairs
abbrev pub program_device : Settings
program_device = record { id = 0x04; fpdat = 0xb4; size = 512; count = 32; wait = 20; pairs = no_pairs }

-- its flash, all 0
abbrev pub zero_flash : List ℕ
zero_flash = replicate 16384 0

-- what a run over the image from page 0 answers, without delays, for as many replies as are the most steps to
-- come
abbrev pub image_run : (image : List ℕ) → Run
image_run image = run_answer program_device 0 image zero_flash [] (figure (limits_of program_device) (begin (session_order program_device 0 image)))

-- The number by which an image is refused, or 0: as an opening refuses it, and above 16,384 bytes by 5.
unfoldable pub image_refusal : (image : List ℕ) → ℕ
image_refusal image = cond (ltb 16384 (length image)) past_last_page (opening_refusal program_device 0 (length image))

-- Pages, replies and outcome; a refusal has pages 0, replies 0 and its number.
unfoldable pub reported : (image : List ℕ) → Report
reported image =
    cond (eqb (image_refusal image) 0)
    (record { pages = length image / 512; replies = (image_run image).replies; outcome = (image_run image).number })
    (record { pages = 0; replies = 0; outcome = image_refusal image })

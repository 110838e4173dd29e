-- Worked examples: what a job says after each reply. The image is one page of 0x55, or 300 bytes, two pages;
-- the mask names bytes 0, 1 and 4 to 15, our data are 0x44, the old configuration is 0x11.
use Rattle.std.specs.Prelude.{◌≡◌, List, [], ◌∷◌, ◌++◌, ℕ, replicate}
use Rattle.exchange.specs.Exchange.{Said, asks, ends, brought}
use Rattle.radio_command.specs.declared.CommandName.TheVariants.{RdFlashPage, WrFlashPage, WrFlashByte, WrPrgArea}
use Rattle.radio_command.specs.declared.CommandName.TheVariants.{InfOk, InfError, InfSwVersion}
use Rattle.radio_job.specs.declared.Ending.{Ending}
use Rattle.radio_job.specs.Image.{JobInput, input_refusal}
use Rattle.radio_job.specs.Job.{Message, take_reply, command_message, job, ends_done, ends_bad, ends_error, ends_differing}

abbrev pub example_mask : List ℕ
example_mask = 0xFF ∷ 0xFF ∷ 0x00 ∷ 0x00 ∷ (replicate 12 0xFF ++ replicate 240 0x00)

abbrev pub example_job : (image : List ℕ) → JobInput
example_job im = record { image = im; mask = example_mask; ours = replicate 256 0x44 }

-- what is said after each of these replies
abbrev pub says_after : (image : List ℕ) → (replies : List (List ℕ)) → List (Said Message Ending)
says_after im rs = brought take_reply (job (example_job im)) rs

abbrev pub then_asks : (message : List ℕ) → (expect : ℕ) → Said Message Ending
then_asks m n = asks (record { bytes = m; expect = n })

-- INF_OK, whatever its code is, and the old configuration
abbrev pub ok_reply : List ℕ
ok_reply = command_message InfOk 7 0 0

abbrev pub old_page : List ℕ
old_page = replicate 256 0x11

abbrev pub page_of_55 : List ℕ
page_of_55 = replicate 256 0x55

-- the merged page
abbrev pub merged_page : List ℕ
merged_page = 0x44 ∷ 0x44 ∷ 0x11 ∷ 0x11 ∷ (replicate 12 0x44 ++ replicate 240 0x11)

-- the replies up to the first page that is read back, then these
abbrev pub up_to_compare : List (List ℕ) → List (List ℕ)
up_to_compare rs = ok_reply ∷ old_page ∷ ok_reply ∷ ok_reply ∷ ok_reply ∷ ok_reply ∷ ok_reply ∷ ok_reply ∷ rs

pub record Examples : Type 0 where
  -- one page, to the end; a reply after it is not taken
  pub to_the_end :
      says_after page_of_55 (up_to_compare (page_of_55 ∷ ok_reply ∷ ok_reply ∷ []))
      ≡ then_asks [] 256
      ∷ then_asks (command_message WrPrgArea 1 0 0) 8
      ∷ then_asks page_of_55 8
      ∷ then_asks (command_message WrFlashPage 127 0 0) 8
      ∷ then_asks merged_page 8
      ∷ then_asks (command_message WrFlashByte 0x7F 0x00 0x44) 8
      ∷ then_asks (command_message RdFlashPage 0 0 0) 8
      ∷ then_asks [] 256
      ∷ then_asks (command_message WrFlashByte 0x7F 0x01 0x44) 8
      ∷ ends ends_done
      ∷ []
  -- two pages: no answer to the first, and 0xFF behind the image
  pub two_pages_fed :
      says_after (replicate 300 0x55) (ok_reply ∷ old_page ∷ ok_reply ∷ [] ∷ ok_reply ∷ [])
      ≡ then_asks [] 256
      ∷ then_asks (command_message WrPrgArea 2 0 0) 8
      ∷ then_asks page_of_55 0
      ∷ then_asks (replicate 44 0x55 ++ replicate 212 0xFF) 8
      ∷ then_asks (command_message WrFlashPage 127 0 0) 8
      ∷ []
  -- a page read back that differs in its third byte
  pub third_byte_differs :
      says_after page_of_55 (up_to_compare ((0x55 ∷ 0x55 ∷ replicate 254 0x54) ∷ ok_reply ∷ []))
      ≡ then_asks [] 256
      ∷ then_asks (command_message WrPrgArea 1 0 0) 8
      ∷ then_asks page_of_55 8
      ∷ then_asks (command_message WrFlashPage 127 0 0) 8
      ∷ then_asks merged_page 8
      ∷ then_asks (command_message WrFlashByte 0x7F 0x00 0x44) 8
      ∷ then_asks (command_message RdFlashPage 0 0 0) 8
      ∷ then_asks [] 256
      ∷ ends (ends_differing 2)
      ∷ []
  -- an error answer; no reply where one is expected; another command; an error answer in place of a page
  pub error_reply : says_after page_of_55 (command_message InfError 9 0 0 ∷ []) ≡ ends (ends_error 9) ∷ []
  pub empty_reply : says_after page_of_55 ([] ∷ ok_reply ∷ []) ≡ ends ends_bad ∷ []
  pub other_command : says_after page_of_55 (command_message InfSwVersion 0 0 0 ∷ []) ≡ ends ends_bad ∷ []
  pub error_for_page : says_after page_of_55 (ok_reply ∷ command_message InfError 1 0 0 ∷ []) ≡ then_asks [] 256 ∷ ends ends_bad ∷ []
  -- an answer to a page that is not the last
  pub too_early : says_after (replicate 300 0x55) (ok_reply ∷ old_page ∷ ok_reply ∷ ok_reply ∷ [])
      ≡ then_asks [] 256 ∷ then_asks (command_message WrPrgArea 2 0 0) 8 ∷ then_asks page_of_55 0 ∷ ends ends_bad ∷ []
  -- what an opening asks: 29 before 30; the bounds of the image's length
  pub example_accepted : input_refusal (example_job page_of_55) ≡ 0
  pub no_image_given : input_refusal (example_job []) ≡ 30
  pub names_byte_2 : input_refusal (record { image = []; mask = replicate 256 0xFF; ours = replicate 256 0x44 }) ≡ 29
  pub half_named : input_refusal (record { image = page_of_55; mask = replicate 255 0x00 ++ (0x80 ∷ []); ours = replicate 256 0x44 }) ≡ 29
  pub short_data : input_refusal (record { image = page_of_55; mask = example_mask; ours = replicate 255 0x44 }) ≡ 29

-- The order of a job as an exchange (document 02, i): a message asks, with the number of bytes to expect, and
-- one reply comes back.
use Rattle.std.specs.Prelude.{Bool, true, false, cond, ◌&&◌, ◌==◌, List, [], ◌∷◌, ℕ, suc, ◌+◌, ◌*◌, ◌%◌, eqb, length, zip, Option, Some, None, Result, Ok, Err}
use Rattle.std.specs.List.{prefix_len}
use Rattle.exchange.specs.Exchange.{Exchange, ended, ask, Heard, heard, stops}
use Rattle.numbers.specs.Numbers.{done}
use Rattle.radio_command.specs.declared.CommandName.{CommandName}
use Rattle.radio_command.specs.declared.CommandName.TheVariants.{WrFlashByte, RdFlashPage, WrFlashPage, WrPrgArea, InfOk, InfError}
use Rattle.radio_command.specs.declared.RadioCommand.{RadioCommand}
use Rattle.radio_command.specs.Numbers.{bad_message, error_answer, page_differs}
use Rattle.radio_command.specs.Command.{message_byte, built, read_command}
use Rattle.radio_job.specs.declared.Ending.{Ending}
use Rattle.radio_job.specs.Image.{JobInput, page_count, image_pages, merged}

-- a message to the module, and the length of the reply to it
pub record Message : Type 0 where
  pub bytes : List ℕ
  pub expect : ℕ

-- what is still to be said, by the replies
abbrev pub JobExchange : Type 0
JobExchange = Exchange Message (List ℕ) Ending

-- A job ends: done, by a reply that is none (28), by an error answer (42), by a page that differs (43). To C a
-- job that still runs has number 0.
abbrev pub still_runs : Ending
still_runs = record { number = 0; code = 0; offset = 0 }

abbrev pub ends_done : Ending
ends_done = record { number = done; code = 0; offset = 0 }

abbrev pub ends_bad : Ending
ends_bad = record { number = bad_message; code = 0; offset = 0 }

abbrev pub ends_error : (code : ℕ) → Ending
ends_error c = record { number = error_answer; code = c; offset = 0 }

abbrev pub ends_differing : (offset : ℕ) → Ending
ends_differing o = record { number = page_differs; code = 0; offset = o }

-- how a job stands after a reply: it goes on, or has ended
abbrev pub Standing : Type 0
Standing = Result (Unit {0}) Ending

abbrev pub goes_on : Standing
goes_on = Ok tt

-- the rest of a job, unless it has ended
abbrev pub unless : Standing → JobExchange → JobExchange
unless (Ok _) rest = rest
unless (Err e) rest = ended e

-- a reply of another length than expected is none
abbrev pub take_reply : Message → (reply : List ℕ) → Heard (List ℕ) Ending
take_reply m r = cond (eqb (length r) m.expect) (heard r) (stops ends_bad)

abbrev pub say : (message : List ℕ) → (expect : ℕ) → (List ℕ → JobExchange) → JobExchange
say m n k = ask (record { bytes = m; expect = n }) k

-- INF_OK goes on, INF_ERROR ends the job with its code, a byte; any other command is no reply
abbrev pub name_ending : CommandName → (code : ℕ) → Standing
name_ending InfOk c = goes_on
name_ending InfError c = Err (ends_error (c % 256))
name_ending _ c = Err ends_bad

abbrev pub read_ending : Option RadioCommand → Standing
read_ending (Some c) = name_ending c.name c.p0
read_ending None = Err ends_bad

unfoldable pub answer_ending : (reply : List ℕ) → Standing
answer_ending r = read_ending (read_command r)

-- a message that the module must confirm by INF_OK
unfoldable pub confirmed : (message : List ℕ) → JobExchange → JobExchange
confirmed m rest = say m 8 (λ r. unless (answer_ending r) rest)

-- the eight bytes of a command
abbrev pub command_message : CommandName → (p0 p1 p2 : ℕ) → List ℕ
command_message n p0 p1 p2 = built (record { name = n; p0 = p0; p1 = p1; p2 = p2 })

-- a page that the module sends
unfoldable pub fetched : (page : ℕ) → (List ℕ → JobExchange) → JobExchange
fetched p k = confirmed (command_message RdFlashPage p 0 0) (say [] 256 k)

-- pages that the module takes: it answers the last alone
unfoldable pub fed_pages : List (List ℕ) → JobExchange → JobExchange
fed_pages [] rest = rest
fed_pages (p ∷ ps) rest = elim ps [ [] ↦ confirmed p rest | ◌∷◌ q qs ↦ say p 0 (λ _. fed_pages ps rest) ]

-- whether two pages are the same
unfoldable pub same_bytes : List ℕ → List ℕ → Bool
same_bytes [] [] = true
same_bytes [] (y ∷ ys) = false
same_bytes (x ∷ xs) [] = false
same_bytes (x ∷ xs) (y ∷ ys) = eqb x y && same_bytes xs ys

-- how many bytes two pages share before the first that differs
unfoldable pub shared : List ℕ → List ℕ → ℕ
shared xs ys = prefix_len (λ p. p.0 == p.1) (zip xs ys)

-- how a job stands after a page of the image was read back
unfoldable pub page_ending : (page : ℕ) → (wanted reply : List ℕ) → Standing
page_ending i p r = cond (same_bytes r p) goes_on (Err (ends_differing (256 * i + shared r p)))

-- the pages read back, from this one on, and compared as they come
unfoldable pub pages_compared : (page : ℕ) → List (List ℕ) → JobExchange → JobExchange
pages_compared i [] rest = rest
pages_compared i (p ∷ ps) rest = fetched i (λ r. unless (page_ending i p r) (pages_compared (suc i) ps rest))

-- THE ORDER, from its end. Configuration byte 1, the code protection, is written last.
unfoldable pub protects : (configuration : List ℕ) → JobExchange
protects c = confirmed (command_message WrFlashByte 0x7F 0x01 (message_byte c 1)) (ended ends_done)

-- before it the image's pages are read back and compared, before them configuration byte 0 is written
abbrev pub compares_pages : (pages : List (List ℕ)) → (configuration : List ℕ) → JobExchange
compares_pages ps c = pages_compared 0 ps (protects c)

abbrev pub sets_byte_0 : (pages : List (List ℕ)) → (configuration : List ℕ) → JobExchange
sets_byte_0 ps c = confirmed (command_message WrFlashByte 0x7F 0x00 (message_byte c 0)) (compares_pages ps c)

-- before that the configuration page
unfoldable pub restores : (pages : List (List ℕ)) → (configuration : List ℕ) → JobExchange
restores ps c = confirmed (command_message WrFlashPage 127 0 0) (confirmed c (sets_byte_0 ps c))

-- before that the program area
abbrev pub writes_area : (count : ℕ) → (pages : List (List ℕ)) → (configuration : List ℕ) → JobExchange
writes_area n ps c = confirmed (command_message WrPrgArea n 0 0) (fed_pages ps (restores ps c))

-- the whole job: first the old configuration is read
unfoldable pub job : JobInput → JobExchange
job g = fetched 127 (λ old. writes_area (page_count g.image) (image_pages g.image) (merged g.mask g.ours old))

-- One message to the module: which is refused, and what any other gives and leaves.
use Rattle.std.specs.Prelude.{Bool, true, cond, ◌&&◌, List, [], ℕ, suc, ◌+◌, ◌-◌, eqb, ltb, leb, length, Option, Some, None}
use Rattle.radio_command.specs.declared.CommandName.{CommandName}
use Rattle.numbers.specs.Numbers.{no_point, buffer_too_small}
use Rattle.radio_command.specs.Numbers.{bad_message}
use Rattle.radio_command.specs.Command.{message_byte, name_of, command_sum, built}
use Rattle.radio_target.specs.declared.ModulePoint.{ModulePoint}
use Rattle.radio_target.specs.declared.ModulePoint.TheVariants.{Waits, Takes, Loads, Sends}
use Rattle.radio_target.specs.declared.Deed.{Deed}
use Rattle.radio_flash.specs.Flash.{flash_bytes, flash_page, page_set, changed}
use Rattle.radio_target.specs.Deeds.{deed, inf_ok, answers_error, err_checksum, err_unknow_cmd}

-- what a command byte with its parameters does; one that is not in the list is not known
abbrev pub deed_named : Option CommandName → (p0 p1 p2 : ℕ) → (flash : List ℕ) → Deed
deed_named (Some n) p0 p1 p2 f = deed n p0 p1 p2 f
deed_named None p0 p1 p2 f = answers_error err_unknow_cmd

-- what eight bytes with the right head do: the sum is looked at first, then the command
unfoldable pub commanded : (message flash : List ℕ) → Deed
commanded m f =
    let b = message_byte m in
    cond (eqb (b 7) (command_sum (b 2) (b 3) (b 4) (b 5) (b 6))) (deed_named (name_of (b 3)) (b 4) (b 5) (b 6) f)
    (answers_error err_checksum)

-- the messages that a point takes: a command by its length and head, data by their length, or the clock alone
-- while a page is to be sent
abbrev pub is_taken : ModulePoint → (message : List ℕ) → Bool
is_taken Waits m = eqb (length m) 8 && (eqb (message_byte m 0) 0xA5 && (eqb (message_byte m 1) 0x5A && eqb (message_byte m 2) 0xA5))
is_taken (Takes p n) m = eqb (length m) 256
is_taken (Loads n) m = eqb (length m) 256
is_taken (Sends p n) m = eqb (length m) 0

-- the points that there are
abbrev pub is_point : ModulePoint → Bool
is_point Waits = true
is_point (Takes p n) = leb 1 n && leb (p + n) 128
is_point (Loads n) = leb 1 n && leb n 4
is_point (Sends p n) = leb 1 n && leb (p + n) 129

-- what a message gives: the reply, the flash and the point after it
pub record Response : Type 0 where
  pub reply : List ℕ
  pub flash : List ℕ
  pub point : ModulePoint

-- one thing for the last page, another where more follow
abbrev pub last_of : (left : ℕ) → {A : Type 0} → (last more : A) → A
last_of n last more = cond (eqb n 1) last more

-- Data of a page set it; the last page is answered by INF_OK. Data for XRAM are taken and dropped. A page
-- that is to be sent is the reply.
abbrev pub response : ModulePoint → (flash message : List ℕ) → Response
response Waits f m =
    let d = commanded m f in record { reply = built d.answer; flash = changed d.change f; point = d.point }
response (Takes p n) f m =
    record { reply = last_of n (built (inf_ok 0)) []; flash = page_set p m f; point = last_of n Waits (Takes (suc p) (n - 1)) }
response (Loads n) f m = record { reply = []; flash = f; point = last_of n Waits (Loads (n - 1)) }
response (Sends p n) f m = record { reply = flash_page p f; flash = f; point = last_of n Waits (Sends (suc p) (n - 1)) }

-- the number by which a message is refused, tested in this order, or 0
unfoldable pub message_refusal : ModulePoint → (flash message : List ℕ) → (room : ℕ) → ℕ
message_refusal p f m room =
    cond (eqb (length f) flash_bytes && is_point p)
    (cond (ltb room 256) buffer_too_small (cond (is_taken p m) 0 bad_message))
    no_point

-- The record of a session, byte by byte (docs/RECORD.md), and the session of a record (document 01, "What the
-- driver keeps over sleep").
use Rattle.std.specs.Prelude.{Bool, true, false, cond, ◌&&◌, List, [], ◌∷◌, ℕ, ◌+◌, ◌*◌, ◌/◌, ◌%◌, eqb, get_or, Option, Some, None}
use Rattle.laws.specs.Bytes.{low}
use Rattle.settings.specs.declared.Settings.{Settings}
use Rattle.settings.specs.Registers.{pair_at}
use Rattle.c2_acts.specs.declared.Stage.{Stage}
use Rattle.c2_acts.specs.declared.Stage.TheVariants.{Lead, Erase, Write, Read, Close, Register}
use Rattle.c2_session.specs.declared.Point.{Point}
use Rattle.c2_session.specs.declared.Point.TheVariants.{Running, Ended}
use Rattle.c2_session.specs.declared.Session.{Session}
use Rattle.c2_range.specs.Range.{in_range}
use Rattle.c2_record.specs.declared.Fields.{Fields}

-- the length of a record
abbrev pub record_bytes : ℕ
record_bytes = 32

-- the byte of a stage
abbrev pub stage_code : Stage → ℕ
stage_code Lead = 0
stage_code Erase = 1
stage_code Write = 2
stage_code Read = 3
stage_code Close = 4
stage_code Register = 5

-- the fields of a point; those not in use are 0
abbrev pub fields_of : Point → Fields
fields_of (Running g i j k q c v) =
    record { number = 0; offset = 0; stage = stage_code g; page = i; block = j; act = k; strobe = q; count = c; bits = v }
fields_of (Ended n o) =
    record { number = n; offset = o; stage = 0; page = 0; block = 0; act = 0; strobe = 0; count = 0; bits = 0 }

-- A field of one byte is kept to it (`low`); one of two bytes has its low byte first, then its high one.
abbrev pub high : ℕ → ℕ
high x = x / 256 % 256

-- the register of a pair (`low_register`), and its value (`low_value`)
abbrev pub low_register : Settings → (pair : ℕ) → ℕ
low_register t i = low (pair_at t.pairs i).register

abbrev pub low_value : Settings → (pair : ℕ) → ℕ
low_value t i = low (pair_at t.pairs i).value

-- the 32 bytes: 0 to 6 settings and pages, 7 to 9 the outcome, 10 to 17 the point, 18 the WAIT limit, 19 to 27 the
-- pairs, and 28 to 31, which are 0
unfoldable pub laid : Settings → (first pages : ℕ) → Fields → List ℕ
laid t first pages f =
    low t.id ∷ low t.fpdat ∷ low t.size ∷ high t.size ∷ low t.count ∷ low first ∷ low pages ∷
    low f.number ∷ low f.offset ∷ high f.offset ∷
    low f.stage ∷ low f.page ∷ low f.block ∷ low f.act ∷ high f.act ∷ low f.strobe ∷ low f.count ∷ low f.bits ∷
    low t.wait ∷ low t.pairs.count ∷
    low_register t 0 ∷ low_value t 0 ∷ low_register t 1 ∷ low_value t 1 ∷ low_register t 2 ∷ low_value t 2 ∷ low_register t 3 ∷ low_value t 3 ∷
    0 ∷ 0 ∷ 0 ∷ 0 ∷ []

-- the record of a session
unfoldable pub packed : Session → List ℕ
packed s = laid s.settings s.first s.pages (fields_of s.point)

-- The numbers that any bytes say: a byte (`byte`), or two bytes, the low one first (`two_bytes`).
abbrev pub byte : List ℕ → ℕ → ℕ
byte r i = get_or r i 0

abbrev pub two_bytes : List ℕ → ℕ → ℕ
two_bytes r i = get_or r i 0 + get_or r (i + 1) 0 * 256

-- the settings that any bytes say
unfoldable pub settings_read : List ℕ → Settings
settings_read r =
    record {
      id = byte r 0;
      fpdat = byte r 1;
      size = two_bytes r 2;
      count = byte r 4;
      wait = byte r 18;
      pairs = record {
        count = byte r 19;
        registers = byte r 20 ∷ byte r 22 ∷ byte r 24 ∷ byte r 26 ∷ [];
        values = byte r 21 ∷ byte r 23 ∷ byte r 25 ∷ byte r 27 ∷ [];
      };
    }

-- the fields of the point that any bytes say
unfoldable pub fields_read : List ℕ → Fields
fields_read r =
    record {
      number = byte r 7;
      offset = two_bytes r 8;
      stage = byte r 10;
      page = byte r 11;
      block = byte r 12;
      act = two_bytes r 13;
      strobe = byte r 15;
      count = byte r 16;
      bits = byte r 17;
    }

-- the stage of a number, if it has one
unfoldable pub stage_named : ℕ → Option Stage
stage_named n =
    cond (eqb n 0) (Some Lead)
    (cond (eqb n 1) (Some Erase) (cond (eqb n 2) (Some Write) (cond (eqb n 3) (Some Read) (cond (eqb n 4) (Some Close) (cond (eqb n 5) (Some Register) None)))))

-- the point of a running session that these fields tell, if they name a stage
abbrev pub running_at : Option Stage → Fields → Option Point
running_at (Some g) f = Some (Running g f.page f.block f.act f.strobe f.count f.bits)
running_at None f = None

-- the point that these fields tell, if they tell one; with number 0 it is a running session's
unfoldable pub point_of : Fields → Option Point
point_of f = cond (eqb f.number 0) (running_at (stage_named f.stage) f) (Some (Ended f.number f.offset))

-- the session that any bytes say, with this point
abbrev pub session_read : List ℕ → Point → Session
session_read r p = record { settings = settings_read r; first = byte r 5; pages = byte r 6; point = p }

-- whether two lists of bytes are the same
unfoldable pub same : List ℕ → List ℕ → Bool
same [] [] = true
same [] (y ∷ ys) = false
same (x ∷ xs) [] = false
same (x ∷ xs) (y ∷ ys) = eqb x y && same xs ys

-- what a record holds: a session, or nothing that is one
pub data Unpacked : Type 0 where
  Held : Session → Unpacked
  Refused : Unpacked

-- the point that the session of a record has reached, if it holds one
abbrev pub reached_in : Unpacked → Option Point
reached_in (Held s) = Some s.point
reached_in Refused = None

-- the session that was read, if it is in range and these bytes are its record
unfoldable pub checked : Session → List ℕ → Unpacked
checked s r = cond (in_range s) (cond (same (packed s) r) (Held s) Refused) Refused

-- the session at the point that was read, if there is a point
abbrev pub taken_apart : Option Point → List ℕ → Unpacked
taken_apart (Some p) r = checked (session_read r p) r
taken_apart None r = Refused

-- The session that a record holds. specs/Claims.antt says of which records it is one: 32 bytes that are the
-- packing of a session in range.
unfoldable pub unpacked : List ℕ → Unpacked
unpacked r = taken_apart (point_of (fields_read r)) r

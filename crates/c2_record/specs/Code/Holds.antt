-- For the code: the tests of a record, on its bytes. `holds_is` of proofs/Laws/Holds is the law that they pass
-- exactly where the record holds a session.
use Rattle.std.specs.Prelude.{Bool, true, false, cond, List, ℕ, ◌*◌, eqb, ltb}
use Rattle.c2_order.specs.Conversation.{Limits, limits_of}
use Rattle.c2_range.specs.Range.{opening_in_range, running_in_range, ended_in_range}
use Rattle.c2_record.specs.Record.{Unpacked, Held, Refused, byte, two_bytes, settings_read}
use Rattle.c2_record.specs.Code.Spare.{unused, spare}
use Rattle.c2_record.specs.Code.Said.{stage_said}

-- whether a record holds a session
abbrev pub is_session : Unpacked → Bool
is_session (Held s) = true
is_session Refused = false

-- whether the running point that bytes say is one of a session over so many pages of this size
unfoldable pub running_holds : Limits → (size pairs pages : ℕ) → List ℕ → Bool
running_holds l size pairs pages r =
    cond (ltb (byte r 10) 6)
    (running_in_range l.wait l.reads size pairs pages (stage_said (byte r 10)) (byte r 11) (byte r 12) (two_bytes r 13) (byte r 15) (byte r 16) (byte r 17))
    false

-- whether the point that bytes say is in range
unfoldable pub point_holds : Limits → (size pairs pages : ℕ) → List ℕ → Bool
point_holds l size pairs pages r =
    cond (eqb (byte r 7) 0) (running_holds l size pairs pages r) (ended_in_range (size * pages) (byte r 7) (two_bytes r 8))

-- whether 32 bytes pass all tests of a record
unfoldable pub bytes_hold : List ℕ → Bool
bytes_hold r =
    cond (spare r)
    (cond (opening_in_range (settings_read r) (byte r 5) (byte r 6))
    (cond (unused r) (point_holds (limits_of (settings_read r)) (settings_read r).size (settings_read r).pairs.count (byte r 6) r) false) false)
    false

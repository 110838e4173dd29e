-- What is claimed of a session's record (document 01, "What the driver keeps over sleep"). Types alone:
-- proofs/Laws/Claims proves each.
use Rattle.std.specs.Prelude.{◌≡◌, true, List, ◌↔◌, ℕ, length}
use Rattle.laws.specs.Bytes.{Bytes}
use Rattle.settings.specs.Accepted.{InBytes}
use Rattle.c2_session.specs.declared.Session.{Session}
use Rattle.c2_range.specs.Range.{in_range}
use Rattle.c2_record.specs.Record.{record_bytes, Held, Refused, packed, unpacked}

-- These bytes are the record of a session in range, with settings as C has them.
pub record RecordOf (s : Session) (r : List ℕ) : Type 0 where
  pub settings : InBytes s.settings
  pub ranges : in_range s ≡ true
  pub bytes : packed s ≡ r

-- A record is `record_bytes` bytes.
pub record WholeRecord (r : List ℕ) : Type 0 where
  pub size : length r ≡ record_bytes
  pub bytes : Bytes r

abbrev pub PackedWhole : Type 0
PackedWhole = (s : Session) → WholeRecord (packed s)

-- Packing a session in range and unpacking gives that session back.
abbrev pub PackUnpack : Type 0
PackUnpack = (s : Session) → InBytes s.settings → in_range s ≡ true → unpacked (packed s) ≡ Held s

-- What is unpacked is the session of which these bytes are the packing.
abbrev pub UnpackPack : Type 0
UnpackPack = (s : Session) (r : List ℕ) → unpacked r ≡ Held s → packed s ≡ r

-- What is unpacked is in range.
abbrev pub UnpackedInRange : Type 0
UnpackedInRange = (s : Session) (r : List ℕ) → unpacked r ≡ Held s → in_range s ≡ true

-- A session has one record only.
abbrev pub OneRecord : Type 0
OneRecord = (s : Session) (q r : List ℕ) → unpacked q ≡ Held s → unpacked r ≡ Held s → q ≡ r

-- Exactly the record of a session in range is unpacked, and to that session.
abbrev pub UnpackedExactly : Type 0
UnpackedExactly = (s : Session) (r : List ℕ) → unpacked r ≡ Held s ↔ RecordOf s r

-- Exactly what is the record of no session in range is refused.
abbrev pub RefusedExactly : Type 0
RefusedExactly = (r : List ℕ) → unpacked r ≡ Refused ↔ ((s : Session) → RecordOf s r → ⊥)

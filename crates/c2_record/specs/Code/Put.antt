-- For the code: a point written into a record, byte by byte. `put_packs` of proofs/Laws/Put is the law that the
-- record of a session is then that of the session at this point.
use Rattle.std.specs.Prelude.{cond, List, ℕ, eqb, length, set}
use Rattle.laws.specs.Bytes.{low}
use Rattle.c2_session.specs.declared.Point.{Point}
use Rattle.c2_record.specs.declared.Fields.{Fields}
use Rattle.c2_record.specs.Record.{record_bytes, high, fields_of}

-- the bytes of an outcome, 7 to 9, of an act, 10 to 14, and of a place, 15 to 17
abbrev pub outcome_put : Fields → List ℕ → List ℕ
outcome_put f r = set (set (set r 7 (low f.number)) 8 (low f.offset)) 9 (high f.offset)

abbrev pub act_put : Fields → List ℕ → List ℕ
act_put f r =
    set (set (set (set (set r 10 (low f.stage)) 11 (low f.page)) 12 (low f.block)) 13 (low f.act)) 14 (high f.act)

abbrev pub place_put : Fields → List ℕ → List ℕ
place_put f r = set (set (set r 15 (low f.strobe)) 16 (low f.count)) 17 (low f.bits)

-- the record with this point; what is not 32 bytes long stays
unfoldable pub point_put : Point → List ℕ → List ℕ
point_put p r = cond (eqb (length r) record_bytes) (place_put (fields_of p) (act_put (fields_of p) (outcome_put (fields_of p) r))) r

-- For the code: the point that the bytes of a record say, and the session beside it, read without a test. `held_beside`
-- of proofs/Laws/Said is the law that a record that holds a session at a point says that session.
use Rattle.std.specs.Prelude.{cond, List, ℕ, eqb, length}
use Rattle.c2_wire.specs.declared.Place.{Place}
use Rattle.c2_acts.specs.declared.Stage.{Stage}
use Rattle.c2_acts.specs.declared.Stage.TheVariants.{Lead, Erase, Write, Read, Close, Register}
use Rattle.c2_session.specs.declared.At.{At}
use Rattle.c2_session.specs.declared.Point.{Point}
use Rattle.c2_session.specs.declared.Point.TheVariants.{Ended}
use Rattle.c2_session.specs.declared.Session.{Session}
use Rattle.c2_session.specs.Code.Next.{strobe_point}
use Rattle.settings.specs.Registers.{no_pairs}
use Rattle.c2_record.specs.Record.{record_bytes, byte, two_bytes, session_read}

-- the stage that a byte says; one that is no stage's says Register
unfoldable pub stage_said : ℕ → Stage
stage_said n = cond (eqb n 0) Lead (cond (eqb n 1) Erase (cond (eqb n 2) Write (cond (eqb n 3) Read (cond (eqb n 4) Close Register))))

-- the act, and the place in its frame, that bytes say
abbrev pub act_said : List ℕ → At
act_said r = record { stage = stage_said (byte r 10); page = byte r 11; block = byte r 12; act = two_bytes r 13 }

abbrev pub place_said : List ℕ → Place
place_said r = record { strobe = byte r 15; count = byte r 16; bits = byte r 17 }

-- the point that bytes say; with number 0 it is a running session's
unfoldable pub point_said : List ℕ → Point
point_said r = cond (eqb (byte r 7) 0) (strobe_point (act_said r) (place_said r)) (Ended (byte r 7) (two_bytes r 8))

-- what stands for a session where there are not the 32 bytes of one
abbrev pub no_session : Session
no_session =
    record {
      settings = record { id = 0; fpdat = 0; size = 0; count = 0; wait = 0; pairs = no_pairs };
      first = 0;
      pages = 0;
      point = Ended 0 0;
    }

-- the session that 32 bytes say, at this point
unfoldable pub session_beside : Point → List ℕ → Session
session_beside p r = cond (eqb (length r) record_bytes) (session_read r p) no_session

-- The fields of a frame (the maker's note, 2.3), and whose strobes they are.
use Rattle.std.specs.Prelude.{Bool, true, false}

pub data Field : Type 0 where
  START : Field
  INS : Field
  LENGTH : Field
  written_ADDRESS : Field
  read_ADDRESS : Field
  written_DATA : Field
  read_DATA : Field
  WAIT : Field
  STOP : Field
  -- the reset pulse and the wait of 20 ms, which stand in no frame
  RESET : Field
  PAUSE : Field

-- the master may drive only in INS, LENGTH, written ADDRESS and written DATA
unfoldable pub master : Field → Bool
master START = false
master INS = true
master LENGTH = true
master written_ADDRESS = true
master read_ADDRESS = false
master written_DATA = true
master read_DATA = false
master WAIT = false
master STOP = false
master RESET = false
master PAUSE = false

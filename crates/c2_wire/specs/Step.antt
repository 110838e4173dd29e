-- A step, document 01's own term: one byte for the wire (document 01, "One step on the wire").
use Rattle.std.specs.Prelude.{Bool, true, false, ℕ}

pub data Step : Type 0 where
  -- strobe C2CK with C2D released
  released : Step
  -- strobe C2CK with C2D driven to this bit
  driven : Bool → Step
  -- reset pulse: C2CK low at least 20 µs, then high at least 2 µs; C2D released
  reset : Step
  -- wait 20 ms, C2D released
  pause : Step
  -- both drivers off, no strobe: no reply follows
  off : Step

-- the step's byte
unfoldable pub code : Step → ℕ
code released = 0
code (driven false) = 2
code (driven true) = 3
code reset = 4
code pause = 5
code off = 6

-- C2D is driven in this step
unfoldable pub drives : Step → Bool
drives released = false
drives (driven b) = true
drives reset = false
drives pause = false
drives off = false

-- For the comparison: frames by INS code, and what a reply makes of a place, as numbers.
use Rattle.std.specs.Prelude.{cond, ℕ, ◌%◌, eqb}
use Rattle.c2_wire.specs.declared.Frame.{Frame}
use Rattle.c2_wire.specs.declared.Frame.TheVariants.{AddressWrite, AddressRead, DataWrite, DataRead}
use Rattle.c2_wire.specs.declared.Moved.{Moved}
use Rattle.c2_wire.specs.declared.Moved.TheVariants.{Within, Stopped, WaitLimit}
use Rattle.c2_wire_probe.specs.declared.Followed.{Followed}

-- the frame of a code, taken modulo 4
unfoldable pub frame_of : (ins : ℕ) → Frame
frame_of n = cond (eqb (n % 4) 0) DataRead (cond (eqb (n % 4) 1) DataWrite (cond (eqb (n % 4) 2) AddressRead AddressWrite))

-- a move as numbers: 0 another place, 1 the byte sampled, 2 the limit of the WAIT
abbrev pub moved_numbers : Moved → Followed
moved_numbers (Within p) = record { kind = 0; strobe = p.strobe; count = p.count; bits = p.bits }
moved_numbers (Stopped v) = record { kind = 1; strobe = 0; count = 0; bits = v }
moved_numbers WaitLimit = record { kind = 2; strobe = 0; count = 0; bits = 0 }

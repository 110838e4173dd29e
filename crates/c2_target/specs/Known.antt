-- The states that the target may be in, as bounds on their numbers; any other names a point that no frame or
-- command has (document 01, number 17).
use Rattle.std.specs.Prelude.{Bool, true, false, ◌&&◌, ◌||◌, List, ℕ, ◌+◌, ◌*◌, ◌^◌, eqb, ltb, leb, length}
use Rattle.c2_target.specs.declared.Command.{Command}
use Rattle.c2_target.specs.declared.Command.TheVariants.{Ready, ErasePage, EraseConfirm, High, Low, LengthCode, Byte, PastEnd}
use Rattle.c2_target.specs.declared.Output.{Output}
use Rattle.c2_target.specs.declared.Output.TheVariants.{Empty, Status, StatusBlock, Block}
use Rattle.c2_target.specs.declared.Effect.{Effect}
use Rattle.c2_target.specs.declared.Effect.TheVariants.{Nothing, SetAddress, Write, CountDown, Read}
use Rattle.c2_target.specs.declared.Point.{Point}
use Rattle.c2_target.specs.declared.Point.TheVariants.{Start, Ins, WriteLength, ReadLength, Address, Data, LongData, Wait, Waiting, Send, Stop}
use Rattle.c2_target.specs.declared.Link.{Link}
use Rattle.c2_target.specs.declared.Target.{Target}
use Rattle.c2_target.specs.Delays.{Setup}

-- whether fewer bits are heard than the field has, and their value has no bits but those
unfoldable pub hearing : (width heard value : ℕ) → Bool
hearing w n v = ltb n w && ltb v (2 ^ n)

-- whether a number is a byte
unfoldable pub is_byte : ℕ → Bool
is_byte b = ltb b 256

-- whether what a frame does at its STOP exists: the address or byte that it writes is a byte
unfoldable pub known_effect : Effect → Bool
known_effect Nothing = true
known_effect (SetAddress a) = is_byte a
known_effect (Write b) = is_byte b
known_effect CountDown = true
known_effect Read = true

-- Whether so many bits are sent after the WAIT of a frame that does this at its STOP: 8 by a Data Read, none
-- by a write, and with LENGTH 1, 2 or 3 none or 16, 24 or 32. Frames of the address have no WAIT.
unfoldable pub after_its_wait : (left : ℕ) → Effect → Bool
after_its_wait n Nothing = eqb n 0 || (eqb n 16 || (eqb n 24 || eqb n 32))
after_its_wait n (SetAddress a) = false
after_its_wait n (Write b) = eqb n 0 && is_byte b
after_its_wait n CountDown = false
after_its_wait n Read = eqb n 8

-- Whether so many bits of this value are still to be sent: a byte, or up to four of zeros. Frames that write
-- send none.
unfoldable pub is_sent : (left value : ℕ) → Effect → Bool
is_sent n v Nothing = leb n 32 && eqb v 0
is_sent n v (SetAddress a) = false
is_sent n v (Write b) = false
is_sent n v CountDown = leb n 8 && ltb v (2 ^ n)
is_sent n v Read = leb n 8 && ltb v (2 ^ n)

-- Whether a frame has this point. After the first strobe of a WAIT fewer zeros are left than the limit less
-- one.
unfoldable pub known_point : (wait_limit : ℕ) → Point → Bool
known_point l Start = true
known_point l (Ins n v) = hearing 2 n v
known_point l (WriteLength n v) = hearing 2 n v
known_point l (ReadLength n v) = hearing 2 n v
known_point l (Address n v) = hearing 8 n v
known_point l (Data n v) = hearing 8 n v
known_point l (LongData n) = leb 1 n && leb n 32
known_point l (Wait n e) = after_its_wait n e
known_point l (Waiting z n e) = ltb (z + 1) l && after_its_wait n e
known_point l (Send n v e) = leb 1 n && is_sent n v e
known_point l (Stop e) = known_effect e

-- How many of the three key writes may be counted at a point: all three only between two frames, since a START
-- takes them away.
unfoldable pub most_keys : Point → ℕ
most_keys Start = 3
most_keys (Ins n v) = 2
most_keys (WriteLength n v) = 2
most_keys (ReadLength n v) = 2
most_keys (Address n v) = 2
most_keys (Data n v) = 2
most_keys (LongData n) = 2
most_keys (Wait n e) = 2
most_keys (Waiting z n e) = 2
most_keys (Send n v e) = 2
most_keys (Stop e) = 2

-- whether a block may have so many bytes: 1 to 256
unfoldable pub is_count : ℕ → Bool
is_count n = leb 1 n && leb n 256

-- whether a block lies inside the flash
unfoldable pub known_block : (end address count : ℕ) → Bool
known_block end a n = is_count n && leb (a + n) end

-- Whether a command has this point: pages and blocks lie in the flash, an address has two bytes.
unfoldable pub known_command : (count end : ℕ) → Command → Bool
known_command c end Ready = true
known_command c end ErasePage = true
known_command c end (EraseConfirm p) = ltb p c
known_command c end (High w) = true
known_command c end (Low w h) = is_byte h
known_command c end (LengthCode w a) = ltb a 65536
known_command c end (Byte a n) = known_block end a n
known_command c end (PastEnd n) = is_count n

-- whether output of this kind exists: a block lies in the flash
unfoldable pub known_output : (end : ℕ) → Output → Bool
known_output end Empty = true
known_output end (Status ok) = true
known_output end (StatusBlock a n) = known_block end a n
known_output end (Block a n) = known_block end a n

-- Whether the interface exists: its command, its output, and what is left of its two delays, which are bytes.
unfoldable pub known_link : (count end : ℕ) → Link → Bool
known_link c end l = known_command c end l.command && (known_output end l.output && (is_byte l.busy && is_byte l.late))

-- whether the target is in a state that exists: the flash is size times count long, the address is a byte, no
-- more key writes are counted than may be, and point and interface exist
unfoldable pub known : Setup → Target → List ℕ → Bool
known u t f =
    let s = u.settings in
    let d = t.device in
    eqb (length f) (s.size * s.count)
    && (known_point u.wait t.point
    && (leb d.keys (most_keys t.point) && (is_byte d.address && known_link s.count (length f) d.link)))

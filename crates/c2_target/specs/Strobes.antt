-- One strobe: what the target replies, the mark that a drive leaves, and the strobe that comes next (document
-- 01, "Frames" and "The modelled target").
use Rattle.std.specs.Prelude.{Bool, true, cond, ◌||◌, List, ℕ, ◌+◌, ◌-◌, ◌*◌, ◌/◌, ◌%◌, ◌^◌, eqb, ltb}
use Rattle.c2_wire.specs.Bits.{bit, odd}
use Rattle.c2_wire.specs.Step.{Step, released, driven, reset, pause, off, drives}
use Rattle.c2_wire.specs.Frames.{ins_code}
use Rattle.c2_wire.specs.declared.Frame.TheVariants.{AddressRead, DataWrite, DataRead}
use Rattle.settings.specs.declared.Settings.{Settings}
use Rattle.c2_target.specs.declared.Effect.{Effect}
use Rattle.c2_target.specs.declared.Effect.TheVariants.{Nothing, SetAddress, Write, CountDown, Read}
use Rattle.c2_target.specs.declared.Point.{Point}
use Rattle.c2_target.specs.declared.Point.TheVariants.{Start, Ins, WriteLength, ReadLength, Address, Data, LongData, Wait, Waiting, Send, Stop}
use Rattle.c2_target.specs.declared.Device.{Device}
use Rattle.c2_target.specs.declared.Target.{Target}
use Rattle.c2_target.specs.Delays.{Setup, delay, next_place}
use Rattle.c2_target.specs.Interface.{shown, given, begun, frame_does}

abbrev pub target : Point → (place : ℕ) → (collision : Bool) → Device → Target
target x p c d = record { point = x; place = p; collision = c; device = d }

-- What a step gives: the reply, and the target and the flash afterwards.
pub record Turn : Type 0 where
  pub reply : Bool
  pub target : Target
  pub flash : List ℕ

abbrev pub turn : Bool → Target → List ℕ → Turn
turn r t f = record { reply = r; target = t; flash = f }

-- the bit on the line in a strobe of the master's: a released one reads 1
unfoldable pub line : Step → Bool
line released = true
line (driven b) = b
line reset = true
line pause = true
line off = true

-- The collision mark, document 01's own term: driving a strobe that is not the master's sets it for good.
unfoldable pub marked : Step → Bool → Bool
marked x c = drives x || c

-- the value of the bits heard, with one more
abbrev pub with_bit : (heard value : ℕ) → Step → ℕ
with_bit n v x = v + bit (line x) * 2 ^ n

-- the point before so many bits are sent, lowest first, and then the STOP
unfoldable pub sending : (left value : ℕ) → Effect → Point
sending n v e = cond (eqb n 0) (Stop e) (Send n v e)

-- The point after INS, which tells the frame. The status bits that an Address Read shows are fixed at the
-- last INS strobe.
unfoldable pub frame_begins : Settings → Device → (ins : ℕ) → Point
frame_begins s d v =
    cond (eqb v (ins_code DataRead)) (ReadLength 0 0)
    (cond (eqb v (ins_code DataWrite)) (WriteLength 0 0)
    (cond (eqb v (ins_code AddressRead)) (sending 8 (shown s d) CountDown)
    (Address 0 0)))

-- the point after so many bits of INS with this value
unfoldable pub after_ins : Settings → Device → (heard value : ℕ) → Point
after_ins s d n v = cond (ltb n 2) (Ins n v) (frame_begins s d v)

-- The point after so many bits of LENGTH with this value, in a Data Write (`after_write_length`) or a Data
-- Read (`after_read_length`). LENGTH is one less than the number of bytes; only frames with LENGTH 0 write or
-- read any.
unfoldable pub after_write_length : (heard value : ℕ) → Point
after_write_length n v = cond (ltb n 2) (WriteLength n v) (cond (eqb v 0) (Data 0 0) (LongData (8 * (v + 1))))

unfoldable pub after_read_length : (heard value : ℕ) → Point
after_read_length n v = cond (ltb n 2) (ReadLength n v) (Wait (8 * (v + 1)) (cond (eqb v 0) Read Nothing))

-- the point after so many bits of a written ADDRESS with this value
unfoldable pub after_address : (heard value : ℕ) → Point
after_address n v = cond (ltb n 8) (Address n v) (Stop (SetAddress v))

-- the point after so many bits of written DATA with this value
unfoldable pub after_data : (heard value : ℕ) → Point
after_data n v = cond (ltb n 8) (Data n v) (Wait 0 (Write v))

-- the point after a bit of written DATA with LENGTH not 0, of which so many were left
unfoldable pub after_long_data : (left : ℕ) → Point
after_long_data n = cond (ltb 1 n) (LongData (n - 1)) (Wait 0 Nothing)

-- the value of the bits that are sent after a WAIT: a Data Read's byte; frames with LENGTH not 0 read zeros
unfoldable pub value_sent : Setup → Effect → Device → List ℕ → ℕ
value_sent u Nothing d f = 0
value_sent u (SetAddress a) d f = 0
value_sent u (Write b) d f = 0
value_sent u CountDown d f = 0
value_sent u Read d f = given u.settings d f

-- the point after a strobe of a WAIT with so many zeros left: after a zero another strobe of it, after the 1
-- what follows the WAIT
unfoldable pub after_wait : Setup → (zeros left : ℕ) → Effect → Device → List ℕ → Point
after_wait u z n e d f = cond (eqb z 0) (sending n (value_sent u e d f) e) (Waiting (z - 1) n e)

-- A strobe of the master's: the reply is the bit on the line, and only the point moves on.
abbrev pub hears_bit : Target → List ℕ → Step → Point → Turn
hears_bit t f x p = turn (line x) (target p t.place t.collision t.device) f

-- A strobe of the target's that shows this bit. A drive sets the mark and has no other effect.
abbrev pub shows : Bool → Target → List ℕ → Step → Point → (place : ℕ) → Device → Turn
shows b t f x p q d = turn b (target p q (marked x t.collision) d) f

-- what a strobe gives, by the point
unfoldable pub strobed_at : Setup → Point → Target → List ℕ → Step → Turn
strobed_at u Start t f x = shows true t f x (Ins 0 0) t.place (begun t.device)
strobed_at u (Ins n v) t f x = hears_bit t f x (after_ins u.settings t.device (n + 1) (with_bit n v x))
strobed_at u (WriteLength n v) t f x = hears_bit t f x (after_write_length (n + 1) (with_bit n v x))
strobed_at u (ReadLength n v) t f x = hears_bit t f x (after_read_length (n + 1) (with_bit n v x))
strobed_at u (Address n v) t f x = hears_bit t f x (after_address (n + 1) (with_bit n v x))
strobed_at u (Data n v) t f x = hears_bit t f x (after_data (n + 1) (with_bit n v x))
strobed_at u (LongData n) t f x = hears_bit t f x (after_long_data n)
-- a WAIT takes a delay when it begins, and sends that many zeros modulo the limit
strobed_at u (Wait n e) t f x =
    let z = delay u.delays t.place % u.wait in
    shows (eqb z 0) t f x (after_wait u z n e t.device f) (next_place u.delays t.place) t.device
strobed_at u (Waiting z n e) t f x = shows (eqb z 0) t f x (after_wait u z n e t.device f) t.place t.device
strobed_at u (Send n v e) t f x = shows (odd v) t f x (sending (n - 1) (v / 2) e) t.place t.device
-- a frame acts at its STOP
strobed_at u (Stop e) t f x =
    let r = frame_does u e t.device t.place f in
    turn true (target Start r.place (marked x t.collision) r.device) r.flash

abbrev pub strobed : Setup → Target → List ℕ → Step → Turn
strobed u t f x = strobed_at u t.point t f x

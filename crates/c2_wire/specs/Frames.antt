-- The four frames with one data byte (document 01, "Frames"; the maker's note, 2.3), each as the list of its
-- strobes, and the exchange of such a list.
use Rattle.std.specs.Prelude.{cond, List, [], ◌∷◌, ◌++◌, map, ℕ, zero, suc, ◌+◌, ◌*◌, ◌^◌, replicate}
use Rattle.numbers.specs.Numbers.{wait_limit_reached}
use Rattle.c2_wire.specs.Bits.{bits, bit}
use Rattle.c2_wire.specs.Step.{Step, released, driven}
use Rattle.c2_wire.specs.Field.{Field, START, INS, LENGTH, written_ADDRESS, read_ADDRESS, written_DATA, read_DATA, WAIT, STOP}
use Rattle.c2_wire.specs.Exchange.{Exchange, ended, strobe, outcome}
use Rattle.c2_wire.specs.declared.Frame.{Frame}
use Rattle.c2_wire.specs.declared.Frame.TheVariants.{AddressWrite, AddressRead, DataWrite, DataRead}

pub data Strobe : Type 0 where
  -- a step whose reply is not looked at
  plain : Field → Step → Strobe
  -- a released strobe whose reply is the next bit of the byte read
  sampled : Field → Strobe
  -- a WAIT: released strobes until a reply of 1, that reply included
  waits : Strobe

-- START and STOP are released strobes
abbrev pub start : List Strobe
start = plain START released ∷ []

abbrev pub stop : List Strobe
stop = plain STOP released ∷ []

-- a field that the master drives: this many bits of a number
unfoldable pub sends : Field → (width : ℕ) → ℕ → List Strobe
sends f n a = map (λ b. plain f (driven b)) (bits n a)

-- INS codes: data read 0, data write 1, address read 2, address write 3
unfoldable pub ins_code : Frame → ℕ
ins_code DataRead = 0
ins_code DataWrite = 1
ins_code AddressRead = 2
ins_code AddressWrite = 3

-- the strobes of a frame; the byte is the one that a write sends, and a read has none
unfoldable pub frame : Frame → (byte : ℕ) → List Strobe
frame AddressWrite a = start ++ sends INS 2 (ins_code AddressWrite) ++ sends written_ADDRESS 8 a ++ stop
frame AddressRead a = start ++ sends INS 2 (ins_code AddressRead) ++ replicate 8 (sampled read_ADDRESS) ++ stop
frame DataWrite a = start ++ sends INS 2 (ins_code DataWrite) ++ sends LENGTH 2 0 ++ sends written_DATA 8 a ++ waits ∷ stop
frame DataRead a = start ++ sends INS 2 (ins_code DataRead) ++ sends LENGTH 2 0 ++ waits ∷ replicate 8 (sampled read_DATA) ++ stop

-- a WAIT of which this many strobes are left, and what follows it
unfoldable pub waiting : (left : ℕ) → Exchange → Exchange
waiting zero k = ended (outcome wait_limit_reached)
waiting (suc n) k = strobe WAIT released (λ b. cond b k (waiting n k))

-- the exchange of the strobes of a frame, where n bits of value v are sampled already; what follows takes the
-- byte sampled
unfoldable pub strobes : (wait_limit : ℕ) → List Strobe → (n v : ℕ) → (ℕ → Exchange) → Exchange
strobes l [] n v k = k v
strobes l (plain f s ∷ ss) n v k = strobe f s (λ b. strobes l ss n v k)
strobes l (sampled f ∷ ss) n v k = strobe f released (λ b. strobes l ss (suc n) (v + bit b * 2 ^ n) k)
strobes l (waits ∷ ss) n v k = waiting l (strobes l ss n v k)

-- the exchange of a whole frame
abbrev pub framed : (wait_limit : ℕ) → List Strobe → (ℕ → Exchange) → Exchange
framed l ss k = strobes l ss 0 0 k

-- The registers and the Programming Interface behind FPDAT, with its delays d and e: what reads show, and
-- what a frame does at its STOP (document 01, "The modelled target").
use Rattle.std.specs.Prelude.{Bool, true, false, not, cond, ◌&&◌, List, ℕ, ◌+◌, ◌-◌, ◌*◌, eqb, ltb}
use Rattle.c2_wire.specs.Bits.{bit}
use Rattle.settings.specs.declared.Pairs.{Pairs}
use Rattle.settings.specs.declared.Settings.{Settings}
use Rattle.settings.specs.Registers.{pair_at}
use Rattle.c2_target.specs.declared.Command.{Command}
use Rattle.c2_target.specs.declared.Output.{Output}
use Rattle.c2_target.specs.declared.Effect.{Effect}
use Rattle.c2_target.specs.declared.Effect.TheVariants.{Nothing, SetAddress, Write, CountDown, Read}
use Rattle.c2_target.specs.declared.Link.{Link}
use Rattle.c2_target.specs.declared.Met.{Met}
use Rattle.c2_target.specs.declared.Device.{Device}
use Rattle.c2_target.specs.Delays.{Setup, delay, next_place}
use Rattle.c2_target.specs.Commands.{takes_put, some_output, first_byte, other_bytes}

abbrev pub link : Command → Output → (busy late : ℕ) → Link
link c o d e = record { command = c; output = o; busy = d; late = e }

abbrev pub device : (address : ℕ) → (on : Bool) → (keys : ℕ) → Met → Link → Device
device a on n m l = record { address = a; on = on; keys = n; met = m; link = l }

-- a device with another address, with the interface on or off, with so many key writes counted, with these wanted
-- pairs met, or with another interface
abbrev pub with_address : (address : ℕ) → Device → Device
with_address a d = device a d.on d.keys d.met d.link

abbrev pub with_on : (on : Bool) → Device → Device
with_on on d = device d.address on d.keys d.met d.link

abbrev pub with_keys : (keys : ℕ) → Device → Device
with_keys n d = device d.address d.on n d.met d.link

abbrev pub with_met : Met → Device → Device
with_met m d = device d.address d.on d.keys m d.link

abbrev pub with_link : Link → Device → Device
with_link l d = device d.address d.on d.keys d.met l

-- Wanted pairs (document 02, e). After a Data Write of a byte at an address, whether the wanted pair of this number
-- is met: if the address is its register, the byte must be its value; otherwise it is met as before.
abbrev pub met_after : Pairs → (number address byte : ℕ) → (before : Bool) → Bool
met_after w i a b m = cond (ltb i w.count && eqb a (pair_at w i).register) (eqb b (pair_at w i).value) m

unfoldable pub met_written : Pairs → (address byte : ℕ) → Met → Met
met_written w a b m =
    record {
      first = met_after w 0 a b m.first;
      second = met_after w 1 a b m.second;
      third = met_after w 2 a b m.third;
      fourth = met_after w 3 a b m.fourth;
    }

-- nothing was written since the reset, so no wanted pair is met
abbrev pub none_met : Met
none_met = record { first = false; second = false; third = false; fourth = false }

-- whether the device is prepared: every pair that it wants is met
unfoldable pub prepared : Pairs → Met → Bool
prepared w m =
    cond (ltb 0 w.count) m.first true
    && (cond (ltb 1 w.count) m.second true && (cond (ltb 2 w.count) m.third true && cond (ltb 3 w.count) m.fourth true))

-- InBusy: it reads 1 while reads of the delay d are left.
unfoldable pub in_busy : Link → Bool
in_busy l = ltb 0 l.busy

-- OutReady: it reads 0 while InBusy is 1 and for e reads more, and where there is no output.
unfoldable pub out_ready : Link → Bool
out_ready l = not (in_busy l) && (eqb l.late 0 && some_output l.output)

-- the status: bit 1 is InBusy, bit 0 OutReady, and bits 2 to 7 read 0
unfoldable pub status_bits : Link → ℕ
status_bits l = bit (out_ready l) + 2 * bit (in_busy l)

-- whether data bytes go to and from the commands: the address is FPDAT's, and the interface is on
unfoldable pub linked : Settings → Device → Bool
linked s d = d.on && eqb d.address s.fpdat

-- What an Address Read shows: the status at FPDAT, elsewhere the register.
unfoldable pub shown : Settings → Device → ℕ
shown s d = cond (linked s d) (status_bits d.link) d.address

-- What a Data Read gives: output at FPDAT, 0 while OutReady is 0; the ID at address 0; elsewhere 0.
unfoldable pub given : Settings → Device → List ℕ → ℕ
given s d f =
    cond (linked s d) (cond (out_ready d.link) (first_byte d.link.output f) 0)
    (cond (eqb d.address 0) s.id 0)

-- The interface with the place in the delay list and the flash: what a put and a get change.
pub record Served : Type 0 where
  pub link : Link
  pub place : ℕ
  pub flash : List ℕ

abbrev pub served : Link → (place : ℕ) → List ℕ → Served
served l p f = record { link = l; place = p; flash = f }

-- What is left of the delay e (`late_of`) and the place in the delay list (`place_after`) after output takes
-- a further delay e; where there is no output, no delay is taken.
unfoldable pub late_of : List ℕ → Output → (place : ℕ) → ℕ
late_of ds o p = cond (some_output o) (delay ds p) 0

unfoldable pub place_after : List ℕ → Output → (place : ℕ) → ℕ
place_after ds o p = cond (some_output o) (next_place ds p) p

-- A byte put takes a delay d, then e. Output not yet read and what was left of d and e are dropped.
unfoldable pub put_byte : Setup → (prepared : Bool) → Link → (byte place : ℕ) → List ℕ → Served
put_byte u ready l b p f =
    let r = takes_put u.settings ready l.command b f in
    let q = next_place u.delays p in
    served (link r.command r.output (delay u.delays p) (late_of u.delays r.output q)) (place_after u.delays r.output q) r.flash

-- A read takes the first byte of the output away, and where more waits a new e is taken; while OutReady is 0
-- it takes nothing.
unfoldable pub get_byte : Setup → Link → (place : ℕ) → List ℕ → Served
get_byte u l p f =
    let o = other_bytes l.output in
    cond (out_ready l) (served (link l.command o l.busy (late_of u.delays o p)) (place_after u.delays o p) f) (served l p f)

-- An Address Read at FPDAT is one of the d reads, and after those one of the e reads.
unfoldable pub counted : Link → Link
counted l = link l.command l.output (l.busy - 1) (cond (in_busy l) l.late (l.late - 1))

-- How many of the three key writes, 0x02, 0x04, 0x01 at address 0x02, the last Data Writes are, after one
-- more.
unfoldable pub next_keys : (address keys byte : ℕ) → ℕ
next_keys a n b =
    cond (eqb a 0x02) (cond (eqb b 0x02) 1 (cond (eqb b 0x04 && eqb n 1) 2 (cond (eqb b 0x01 && eqb n 2) 3 0))) 0

-- The device after a START: another frame that begins after the third key write takes all three away.
unfoldable pub begun : Device → Device
begun d = with_keys (cond (eqb d.keys 3) 0 d.keys) d

-- What a frame does at its STOP, to the device, to the place in the delay list and to the flash.
pub record Acted : Type 0 where
  pub device : Device
  pub place : ℕ
  pub flash : List ℕ

abbrev pub acted : Device → (place : ℕ) → List ℕ → Acted
acted d p f = record { device = d; place = p; flash = f }

-- what a frame does with this many key writes counted, and with what it changes of the interface
abbrev pub with_served : Device → (keys : ℕ) → Served → Acted
with_served d n r = acted (with_keys n (with_link r.link d)) r.place r.flash

-- what a frame with this effect does at its STOP
unfoldable pub frame_does : Setup → Effect → Device → (place : ℕ) → List ℕ → Acted
frame_does u Nothing d p f = acted d p f
-- an Address Write changes only the address
frame_does u (SetAddress a) d p f = acted (with_address a d) p f
-- a Data Write at FPDAT is a put; elsewhere it writes a register, which only the wanted pairs show
frame_does u (Write b) d p f =
    with_served (with_met (cond (linked u.settings d) d.met (met_written u.wanted d.address b d.met)) d)
    (next_keys d.address d.keys b)
    (cond (linked u.settings d) (put_byte u (prepared u.wanted d.met) d.link b p f) (served d.link p f))
frame_does u CountDown d p f = with_served d d.keys (served (cond (linked u.settings d) (counted d.link) d.link) p f)
frame_does u Read d p f = with_served d d.keys (cond (linked u.settings d) (get_byte u d.link p f) (served d.link p f))

-- The state of a target as C has it, plain numbers, and the target of a state. Numbers that are not in use
-- are 0.
use Rattle.std.specs.Prelude.{Bool, false, cond, ◌&&◌, ℕ, ◌%◌, eqb, Option, Some, None}
use Rattle.laws.specs.Bytes.{low}
use Rattle.c2_wire.specs.Bits.{bit}
use Rattle.c2_target.specs.declared.Command.{Command}
use Rattle.c2_target.specs.declared.Command.TheVariants.{Ready, ErasePage, EraseConfirm, High, Low, LengthCode, Byte, PastEnd}
use Rattle.c2_target.specs.declared.Output.{Output}
use Rattle.c2_target.specs.declared.Output.TheVariants.{Empty, Status, StatusBlock, Block}
use Rattle.c2_target.specs.declared.Effect.{Effect}
use Rattle.c2_target.specs.declared.Effect.TheVariants.{Nothing, SetAddress, Write, CountDown, Read}
use Rattle.c2_target.specs.declared.Point.{Point}
use Rattle.c2_target.specs.declared.Point.TheVariants.{Start, Ins, WriteLength, ReadLength, Address, Data, LongData, Wait, Waiting, Send, Stop}
use Rattle.c2_target.specs.declared.Met.{Met}
use Rattle.c2_target.specs.declared.Target.{Target}
use Rattle.c2_target.specs.Interface.{link, device}
use Rattle.c2_target.specs.Strobes.{target}
use Rattle.c2_target_state.specs.declared.State.{State}
use Rattle.c2_target_state.specs.declared.PointFields.{PointFields}
use Rattle.c2_target_state.specs.declared.CommandFields.{CommandFields}
use Rattle.c2_target_state.specs.declared.OutputFields.{OutputFields}

-- a number kept to two bytes
abbrev pub word : ℕ → ℕ
word x = x % 65536

-- What a frame does at its STOP, as a number (`effect_code`), and the byte that it then writes
-- (`effect_byte`).
unfoldable pub effect_code : Effect → ℕ
effect_code Nothing = 0
effect_code (SetAddress a) = 1
effect_code (Write b) = 2
effect_code CountDown = 3
effect_code Read = 4

unfoldable pub effect_byte : Effect → ℕ
effect_byte (SetAddress a) = low a
effect_byte (Write b) = low b
effect_byte _ = 0

-- the numbers of a point
abbrev pub fields : (point heard value left zeros : ℕ) → Effect → PointFields
fields p n v l z e =
    record { point = p; heard = low n; value = low v; left = low l; zeros = low z; effect = effect_code e; byte = effect_byte e }

unfoldable pub point_fields : Point → PointFields
point_fields Start = fields 0 0 0 0 0 Nothing
point_fields (Ins n v) = fields 1 n v 0 0 Nothing
point_fields (WriteLength n v) = fields 2 n v 0 0 Nothing
point_fields (ReadLength n v) = fields 3 n v 0 0 Nothing
point_fields (Address n v) = fields 4 n v 0 0 Nothing
point_fields (Data n v) = fields 5 n v 0 0 Nothing
point_fields (LongData n) = fields 6 0 0 n 0 Nothing
point_fields (Wait n e) = fields 7 0 0 n 0 e
point_fields (Waiting z n e) = fields 8 0 0 n z e
point_fields (Send n v e) = fields 9 0 v n 0 e
point_fields (Stop e) = fields 10 0 0 0 0 e

-- the numbers of a command
abbrev pub command_numbers : (command : ℕ) → (write : Bool) → (page high start rest : ℕ) → CommandFields
command_numbers c w p h a n = record { command = c; write = bit w; page = low p; high = low h; start = word a; rest = word n }

unfoldable pub command_fields : Command → CommandFields
command_fields Ready = command_numbers 0 false 0 0 0 0
command_fields ErasePage = command_numbers 1 false 0 0 0 0
command_fields (EraseConfirm p) = command_numbers 2 false p 0 0 0
command_fields (High w) = command_numbers 3 w 0 0 0 0
command_fields (Low w h) = command_numbers 4 w 0 h 0 0
command_fields (LengthCode w a) = command_numbers 5 w 0 0 a 0
command_fields (Byte a n) = command_numbers 6 false 0 0 a n
command_fields (PastEnd n) = command_numbers 7 false 0 0 0 n

-- the numbers of the output
abbrev pub output_numbers : (output : ℕ) → (passed : Bool) → (next count : ℕ) → OutputFields
output_numbers o ok a n = record { output = o; passed = bit ok; next = word a; count = word n }

unfoldable pub output_fields : Output → OutputFields
output_fields Empty = output_numbers 0 false 0 0
output_fields (Status ok) = output_numbers 1 ok 0 0
output_fields (StatusBlock a n) = output_numbers 2 false a n
output_fields (Block a n) = output_numbers 3 false a n

-- the state of a target whose point, command and output have these numbers
abbrev pub state_with : Target → PointFields → CommandFields → OutputFields → State
state_with t p c o =
    let d = t.device in
    let l = d.link in
    record {
      place = t.place;
      start = c.start;
      rest = c.rest;
      next = o.next;
      count = o.count;
      point = p.point;
      heard = p.heard;
      value = p.value;
      left = p.left;
      zeros = p.zeros;
      effect = p.effect;
      byte = p.byte;
      collision = bit t.collision;
      address = low d.address;
      on = bit d.on;
      keys = low d.keys;
      met1 = bit d.met.first;
      met2 = bit d.met.second;
      met3 = bit d.met.third;
      met4 = bit d.met.fourth;
      command = c.command;
      write = c.write;
      page = c.page;
      high = c.high;
      output = o.output;
      passed = o.passed;
      busy = low l.busy;
      late = low l.late;
    }

-- the state of a target
unfoldable pub state_of : Target → State
state_of t =
    let l = t.device.link in
    state_with t (point_fields t.point) (command_fields l.command) (output_fields l.output)

-- what a frame does at its STOP, as the numbers of any state say it
unfoldable pub effect_of : (effect byte : ℕ) → Effect
effect_of e b =
    cond (eqb e 0) Nothing (cond (eqb e 1) (SetAddress b) (cond (eqb e 2) (Write b) (cond (eqb e 3) CountDown Read)))

-- the point that the numbers of any state say: past the fields that are heard (`later_point`), and any
-- (`state_point`)
unfoldable pub later_point : State → Point
later_point s =
    let e = effect_of s.effect s.byte in
    cond (eqb s.point 6) (LongData s.left)
    (cond (eqb s.point 7) (Wait s.left e)
    (cond (eqb s.point 8) (Waiting s.zeros s.left e)
    (cond (eqb s.point 9) (Send s.left s.value e)
    (Stop e))))

unfoldable pub state_point : State → Point
state_point s =
    cond (eqb s.point 0) Start
    (cond (eqb s.point 1) (Ins s.heard s.value)
    (cond (eqb s.point 2) (WriteLength s.heard s.value)
    (cond (eqb s.point 3) (ReadLength s.heard s.value)
    (cond (eqb s.point 4) (Address s.heard s.value)
    (cond (eqb s.point 5) (Data s.heard s.value)
    (later_point s))))))

-- the command that the numbers of any state say
unfoldable pub command_of : State → Command
command_of s =
    let w = eqb s.write 1 in
    cond (eqb s.command 0) Ready
    (cond (eqb s.command 1) ErasePage
    (cond (eqb s.command 2) (EraseConfirm s.page)
    (cond (eqb s.command 3) (High w)
    (cond (eqb s.command 4) (Low w s.high)
    (cond (eqb s.command 5) (LengthCode w s.start)
    (cond (eqb s.command 6) (Byte s.start s.rest)
    (PastEnd s.rest)))))))

-- the output that the numbers of any state say
unfoldable pub output_of : State → Output
output_of s =
    cond (eqb s.output 0) Empty
    (cond (eqb s.output 1) (Status (eqb s.passed 1))
    (cond (eqb s.output 2) (StatusBlock s.next s.count)
    (Block s.next s.count)))

-- which wanted pairs are met, as the numbers of any state say it
unfoldable pub met_of : State → Met
met_of s = record { first = eqb s.met1 1; second = eqb s.met2 1; third = eqb s.met3 1; fourth = eqb s.met4 1 }

-- the target that the numbers of any state say
unfoldable pub target_read : State → Target
target_read s =
    target (state_point s) s.place (eqb s.collision 1)
    (device s.address (eqb s.on 1) s.keys (met_of s) (link (command_of s) (output_of s) s.busy s.late))

-- Whether two states are the same, number by number: in the point, the device, the wanted pairs that are met,
-- the command and the output.
unfoldable pub same_point : State → State → Bool
same_point a b =
    eqb a.point b.point
    && (eqb a.heard b.heard
    && (eqb a.value b.value
    && (eqb a.left b.left && (eqb a.zeros b.zeros && (eqb a.effect b.effect && eqb a.byte b.byte)))))

unfoldable pub same_device : State → State → Bool
same_device a b =
    eqb a.place b.place
    && (eqb a.collision b.collision
    && (eqb a.address b.address
    && (eqb a.on b.on && (eqb a.keys b.keys && (eqb a.busy b.busy && eqb a.late b.late)))))

unfoldable pub same_met : State → State → Bool
same_met a b =
    eqb a.met1 b.met1 && (eqb a.met2 b.met2 && (eqb a.met3 b.met3 && eqb a.met4 b.met4))

unfoldable pub same_command : State → State → Bool
same_command a b =
    eqb a.command b.command
    && (eqb a.write b.write
    && (eqb a.page b.page && (eqb a.high b.high && (eqb a.start b.start && eqb a.rest b.rest))))

unfoldable pub same_output : State → State → Bool
same_output a b =
    eqb a.output b.output && (eqb a.passed b.passed && (eqb a.next b.next && eqb a.count b.count))

unfoldable pub same_state : State → State → Bool
same_state a b = same_point a b && (same_device a b && (same_met a b && (same_command a b && same_output a b)))

-- The target of which this is the state. A tag that does not exist, a truth value above 1 and a number that
-- is not in use and not 0 make a state that is no target's.
unfoldable pub target_of : State → Option Target
target_of s = cond (same_state (state_of (target_read s)) s) (Some (target_read s)) None

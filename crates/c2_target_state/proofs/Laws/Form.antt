-- A state is in form exactly if it is the state of the target that it says.
use Rattle.std.proofs.Common.{◌≡◌, ℕ, ◌<◌, Bool, true, false, Some, None, refl, eqb, ltb, arith}
use Rattle.std.proofs.lemmas.Bool.Decides.{nat_tests}
use Rattle.laws.proofs.Tests.{both}
use Rattle.c2_wire.specs.Bits.{bit}
use Rattle.c2_target.specs.declared.Command.{Command}
use Rattle.c2_target.specs.declared.Command.TheVariants.{Ready, ErasePage, EraseConfirm, High, Low, LengthCode, Byte, PastEnd}
use Rattle.c2_target.specs.declared.Output.{Output}
use Rattle.c2_target.specs.declared.Output.TheVariants.{Empty, Status, StatusBlock, Block}
use Rattle.c2_target.specs.declared.Effect.{Effect}
use Rattle.c2_target.specs.declared.Effect.TheVariants.{Nothing, SetAddress, Write, CountDown, Read}
use Rattle.c2_target.specs.declared.Point.{Point}
use Rattle.c2_target.specs.declared.Point.TheVariants.{Start, Ins, WriteLength, ReadLength, Address, Data, LongData, Wait, Waiting, Send, Stop}
use Rattle.c2_target.specs.declared.Target.{Target}
use Rattle.c2_target_state.specs.declared.State.{State}
use Rattle.c2_target_state.specs.declared.PointFields.{PointFields}
use Rattle.c2_target_state.specs.declared.CommandFields.{CommandFields}
use Rattle.c2_target_state.specs.declared.OutputFields.{OutputFields}
use Rattle.c2_target_state.specs.State.{effect_code, effect_byte, point_fields, command_fields, output_fields, state_of, effect_of, later_point, state_point, command_of, output_of, met_of, target_read, target_of}
use Rattle.c2_target_state.specs.Code.Form.{none, effect_in_form, later_in_form, point_in_form, early_in_form, command_in_form, output_in_form, flags_in_form, in_form}
use Rattle.c2_target_state.proofs.Laws.State.{same_itself, same_says}

-- what a frame does at its STOP is in form, in the state of any target
effect_forms : (e : Effect) → effect_in_form (effect_code e) (effect_byte e) ≡ true
unfolding effect_in_form effect_code effect_byte
effect_forms Nothing = refl
effect_forms (SetAddress a) = refl
effect_forms (Write b) = refl
effect_forms CountDown = refl
effect_forms Read = refl

-- the point is in form, in the state of any target
abbrev point_passes : PointFields → Bool
point_passes f = point_in_form f.point f.heard f.value f.left f.zeros f.effect f.byte

point_forms : (p : Point) → point_passes (point_fields p) ≡ true
unfolding point_fields point_in_form later_in_form effect_code effect_byte
point_forms Start = refl
point_forms (Ins n v) = refl
point_forms (WriteLength n v) = refl
point_forms (ReadLength n v) = refl
point_forms (Address n v) = refl
point_forms (Data n v) = refl
point_forms (LongData n) = refl
point_forms (Wait n e) = effect_forms e
point_forms (Waiting z n e) = effect_forms e
point_forms (Send n v e) = effect_forms e
point_forms (Stop e) = effect_forms e

-- truth values are 0 or 1, in the state of any target
flag_forms : (b : Bool) → ltb (bit b) 2 ≡ true
unfolding bit
flag_forms true = refl
flag_forms false = refl

-- the command is in form, in the state of any target
abbrev command_passes : CommandFields → Bool
command_passes f = command_in_form f.command f.write f.page f.high f.start f.rest

command_forms : (c : Command) → command_passes (command_fields c) ≡ true
unfolding command_fields command_in_form early_in_form bit
command_forms Ready = refl
command_forms ErasePage = refl
command_forms (EraseConfirm p) = refl
command_forms (High w) = flag_forms w
command_forms (Low w h) = flag_forms w
command_forms (LengthCode w a) = flag_forms w
command_forms (Byte a n) = refl
command_forms (PastEnd n) = refl

-- the output is in form, in the state of any target
abbrev output_passes : OutputFields → Bool
output_passes f = output_in_form f.output f.passed f.next f.count

output_forms : (o : Output) → output_passes (output_fields o) ≡ true
unfolding output_fields output_in_form bit
output_forms Empty = refl
output_forms (Status true) = refl
output_forms (Status false) = refl
output_forms (StatusBlock a n) = refl
output_forms (Block a n) = refl

-- the truth values that stand in no tag's group are in form, in the state of any target
flags_form : (t : Target) → flags_in_form (state_of t) ≡ true
unfolding flags_in_form state_of
flags_form t =
    let m = t.device.met in
    rw (flag_forms t.collision, flag_forms t.device.on, flag_forms m.first, flag_forms m.second, flag_forms m.third)
    (flag_forms m.fourth)

-- the state of any target is in form
target_forms : (t : Target) → in_form (state_of t) ≡ true
unfolding in_form state_of
target_forms t =
    rw (point_forms t.point, flags_form t, output_forms t.device.link.output)
    (command_forms t.device.link.command)

-- what a frame does at its STOP is read back, from a state in form
effect_code_said : (e b : ℕ) → effect_in_form e b ≡ true → effect_code (effect_of e b) ≡ e
unfolding effect_in_form effect_of effect_code
effect_code_said e b k = grind (arith, nat_tests)

effect_byte_said : (e b : ℕ) → b < 256 → effect_in_form e b ≡ true → effect_byte (effect_of e b) ≡ b
unfolding effect_in_form effect_of effect_byte
effect_byte_said e b small k = grind (arith, nat_tests)

-- truth values are read back, from a state in form
flag_said : (w : ℕ) → ltb w 2 ≡ true → bit (eqb w 1) ≡ w
unfolding bit
flag_said w k = grind (arith, nat_tests)

-- numbers that fit their fields
pub record Small (s : State) : Type 0 where
  pub heard : s.heard < 256
  pub value : s.value < 256
  pub left : s.left < 256
  pub zeros : s.zeros < 256
  pub byte : s.byte < 256
  pub address : s.address < 256
  pub keys : s.keys < 256
  pub page : s.page < 256
  pub high : s.high < 256
  pub busy : s.busy < 256
  pub late : s.late < 256
  pub start : s.start < 65536
  pub rest : s.rest < 65536
  pub next : s.next < 65536
  pub count : s.count < 65536

module _ (s : State) (m : Small s) where
  -- the point is read back, from a state in form
  abbrev point_numbers : PointFields
  point_numbers = record { point = s.point; heard = s.heard; value = s.value; left = s.left; zeros = s.zeros; effect = s.effect; byte = s.byte }

  heard_said : s.point < 6 → none s.left s.zeros s.effect s.byte ≡ true → (eqb s.point 0 ≡ true → none s.heard s.value 0 0 ≡ true)
      → point_fields (state_point s) ≡ point_numbers
  unfolding state_point point_fields effect_code effect_byte
  heard_said l o r = let h = m.heard in let v = m.value in grind (arith, nat_tests)

  later_said : s.heard ≡ 0 → later_in_form s.point s.value s.left s.zeros s.effect s.byte ≡ true
      → point_fields (state_point s) ≡ point_numbers
  unfolding later_in_form state_point later_point point_fields effect_code effect_byte
  later_said h k =
      let l = m.left in
      let v = m.value in
      let z = m.zeros in
      let b = m.byte in
      grind (arith, nat_tests, effect_code_said, effect_byte_said)

  point_said : point_passes point_numbers ≡ true → point_fields (state_point s) ≡ point_numbers
  unfolding point_in_form
  point_said k = grind (arith, nat_tests, heard_said, later_said)

  -- the command is read back, from a state in form
  abbrev command_numbers : CommandFields
  command_numbers = record { command = s.command; write = s.write; page = s.page; high = s.high; start = s.start; rest = s.rest }

  command_said : command_passes command_numbers ≡ true → command_fields (command_of s) ≡ command_numbers
  unfolding command_in_form early_in_form command_of command_fields bit
  command_said k =
      let p = m.page in
      let h = m.high in
      let a = m.start in
      let n = m.rest in
      grind (arith, nat_tests)

  -- the output is read back, from a state in form
  abbrev output_numbers : OutputFields
  output_numbers = record { output = s.output; passed = s.passed; next = s.next; count = s.count }

  output_said : output_passes output_numbers ≡ true → output_fields (output_of s) ≡ output_numbers
  unfolding output_in_form output_of output_fields bit
  output_said k = let a = m.next in let n = m.count in grind (arith, nat_tests)

  -- a state in form is that of the target that it says
  pub state_said : in_form s ≡ true → state_of (target_read s) ≡ s
  unfolding in_form flags_in_form state_of target_read met_of
  state_said k =
      let k1 = both (point_passes point_numbers) _ k in
      let k2 = both (flags_in_form s) _ k1.1 in
      let k3 = both (output_passes output_numbers) _ k2.1 in
      let flags = k2.0 in
      let a = m.address in
      let y = m.keys in
      let b = m.busy in
      let d = m.late in
      rw (point_said k1.0, command_said k3.1, output_said k3.0) (grind (arith, nat_tests, flag_said))

  -- The test of the form decides whether a state is a target's.
  pub held_form : in_form s ≡ true → target_of s ≡ Some (target_read s)
  unfolding target_of
  held_form k = rw (state_said k, same_itself s)

pub no_form : (s : State) → in_form s ≡ false → target_of s ≡ None
unfolding target_of
no_form s k = let e = target_forms (target_read s) in grind (arith, nat_tests, same_says)

-- A command built into a lent buffer: its number, and the buffer afterwards.
use Rattle.std.specs.Prelude.{ℕ, cond, List, ◌++◌, length, drop, nat_lt, Option, Some, None}
use Rattle.numbers.specs.Numbers.{buffer_too_small}
use Rattle.radio_command.specs.declared.CommandName.{CommandName}
use Rattle.radio_command.specs.Numbers.{bad_message}
use Rattle.radio_command.specs.Command.{name_of, built}

-- 28 for a command byte that is not in the list, then 26 for a buffer below eight bytes
abbrev pub number_as : Option CommandName → List ℕ → ℕ
number_as (Some n) out = cond (nat_lt (length out) 8) buffer_too_small 0
number_as None out = bad_message

unfoldable pub building_number : (command : ℕ) → (out : List ℕ) → ℕ
building_number b out = number_as (name_of b) out

-- the eight bytes, and past them what was there; all of it where refused
abbrev pub buffer_as : Option CommandName → (p0 p1 p2 : ℕ) → List ℕ → List ℕ
buffer_as (Some n) p0 p1 p2 out =
    cond (nat_lt (length out) 8) out (built (record { name = n; p0 = p0; p1 = p1; p2 = p2 }) ++ drop 8 out)
buffer_as None p0 p1 p2 out = out

unfoldable pub buffer_built : (command p0 p1 p2 : ℕ) → (out : List ℕ) → List ℕ
buffer_built b p0 p1 p2 out = buffer_as (name_of b) p0 p1 p2 out

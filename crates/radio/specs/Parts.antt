-- A command as C has it (document 02, i): the command byte and the parameters as they stand, or 28 and zeros.
use Rattle.std.specs.Prelude.{Option, Some, None}
use Rattle.radio_command.specs.declared.RadioCommand.{RadioCommand}
use Rattle.radio_command.specs.Numbers.{bad_message}
use Rattle.radio_command.specs.Command.{command_byte}
use Rattle.radio.specs.declared.CommandParts.{CommandParts}

abbrev pub parts_of : RadioCommand → CommandParts
parts_of c = record { number = 0; command = command_byte c.name; p0 = c.p0; p1 = c.p1; p2 = c.p2 }

abbrev pub command_parts : Option RadioCommand → CommandParts
command_parts (Some c) = parts_of c
command_parts None = record { number = bad_message; command = 0; p0 = 0; p1 = 0; p2 = 0 }

-- What building and reading have to do with each other (request i, C0).
use Rattle.std.specs.Prelude.{◌≡◌, ℕ, List, Some}
use Rattle.radio_command.specs.declared.RadioCommand.{RadioCommand}
use Rattle.radio_command.specs.Command.{built, read_command}

-- reading a built command gives it back
abbrev pub BuiltReads : Type 0
BuiltReads = (c : RadioCommand) → read_command (built c) ≡ Some c

-- what reads as a command is that command, built
abbrev pub ReadWasBuilt : Type 0
ReadWasBuilt = (m : List ℕ) (c : RadioCommand) → read_command m ≡ Some c → m ≡ built c

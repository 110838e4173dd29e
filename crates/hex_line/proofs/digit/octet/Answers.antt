-- `hex_line::digit::octet` meets its contract: what is no digit counts as 0, which is 16 % 16.
use Rattle.hex_format.specs.Digits.{octet}
use Rattle.std.proofs.Common.{arith}
use Rattle.hex_line.proofs.digit.octet.Goals as goal

pub returns : goal.returns
unfolding octet
returns c = grind arith

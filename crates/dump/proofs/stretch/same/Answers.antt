-- `dump::stretch::same` meets its contract: as long as the flag is up, the bytes that were passed are equal.
use native.Mathlib.Omega.{arith}
use lib.Seq.{ext_get_or}
use Rattle.dump.proofs.stretch.same.Goals as goal

pub returns : goal.returns
returns c = λ t. ext_get_or 0 _ _ c.requires (λ k h. c.loop-i.invariant t k (omega arith) (omega arith))

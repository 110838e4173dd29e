-- A refusal comes back by a number that is not 0.
use mathlib.Core.Path.{◌≡◌, sym}
use mathlib.Core.Bool.{cond}
use Prim.Native.Nat.{ℕ, ◌<◌}
use native.Mathlib.Omega.{arith}
use borrow.Author.Tests.{ne_eqb}
use lib.Dec.{eqb}
use Rattle.numbers.specs.Numbers.{refusal_number}
use Rattle.numbers.specs.declared.Refusal.{Refusal}
use Rattle.numbers.specs.declared.Refusal.TheVariants.{BadFpdat, BadPageSize, BadPageCount, BadImage, PastLastPage, BadRecord, OtherImage, NoRoom, NoStep, NoPoint, BadWaitLimit, BadPairs, BadLine, BadChecksum, BadHexRecord, SetTwice, NoEndRecord, NoData, BufferTooSmall, BadMessage, BadMask, BadImageLength, BadDumps}

pub refused : (e : Refusal) → 0 < refusal_number e
refused BadFpdat = omega arith
refused BadPageSize = omega arith
refused BadPageCount = omega arith
refused BadImage = omega arith
refused PastLastPage = omega arith
refused BadRecord = omega arith
refused OtherImage = omega arith
refused NoRoom = omega arith
refused NoStep = omega arith
refused NoPoint = omega arith
refused BadWaitLimit = omega arith
refused BadPairs = omega arith
refused BadLine = omega arith
refused BadChecksum = omega arith
refused BadHexRecord = omega arith
refused SetTwice = omega arith
refused NoEndRecord = omega arith
refused NoData = omega arith
refused BufferTooSmall = omega arith
refused BadMessage = omega arith
refused BadMask = omega arith
refused BadImageLength = omega arith
refused BadDumps = omega arith

-- where a test has refused, its number is told, and not what is tested next
pub refused_first : (e : Refusal) (n x : ℕ) → refusal_number e ≡ n → refusal_number e ≡ cond (eqb n 0) x n
refused_first e n x h =
    let z = refused e in
    rw (ne_eqb n 0 (λ q. omega arith), h)

-- where a test has accepted, what is tested next tells the number
pub accepted_first : (n x : ℕ) → 0 ≡ n → x ≡ cond (eqb n 0) x n
accepted_first n x h = rw (sym h)

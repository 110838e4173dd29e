-- The exchange of the C2 wire: a step in its field asks, a bit comes back. Steps written, outcome and replies
-- taken, for any list of replies, are read off the tree (demand 2).
use Rattle.std.specs.Prelude.{Bool, true, false, not, ◌||◌, List, map, ℕ, zero, suc, length}
use Rattle.numbers.specs.Numbers.{running, bad_reply}
use Rattle.exchange.specs.Exchange.{Said, Heard, heard, stops, said, brought}
use Rattle.exchange.specs.Exchange as Shared
pub use Rattle.exchange.specs.Exchange.{ended, ask}
use Rattle.c2_wire.specs.Step.{Step, off, code, drives}
use Rattle.c2_wire.specs.Field.{Field, master}

-- An outcome: the number that comes back, and the image offset beside it (0 but for 14).
pub record Outcome : Type 0 where
  pub number : ℕ
  pub offset : ℕ

abbrev pub outcome : ℕ → Outcome
outcome n = record { number = n; offset = 0 }

-- What the C2 wire asks: a step, in its field.
pub data Ask : Type 0 where
  at : Field → Step → Ask

abbrev pub Exchange : Type 0
Exchange = Shared.Exchange Ask Bool Outcome

abbrev pub strobe : Field → Step → (Bool → Exchange) → Exchange
strobe f s k = ask (at f s) k

-- 0 and 1 are replies; any other number ends the exchange
unfoldable pub read : Ask → (reply : ℕ) → Heard Bool Outcome
read a zero = heard false
read a (suc zero) = heard true
read a (suc (suc r)) = stops (outcome bad_reply)

-- the exchange after one reply (`after`) and after replies in a row (`fed`); an ended exchange takes none
unfoldable pub after : Exchange → (reply : ℕ) → Exchange
unfolding Shared.after read
after e r = Shared.after read e r

unfoldable pub fed : Exchange → (replies : List ℕ) → Exchange
unfolding Shared.fed after
fed e rs = Shared.fed read e rs

-- the byte of what is said: a step, or 6 at the end
abbrev pub said_byte : Said Ask Outcome → ℕ
said_byte (Shared.asks (at f s)) = code s
said_byte (Shared.ends o) = code off

-- the step that an exchange asks for
unfoldable pub asks : Exchange → ℕ
unfolding said
asks e = said_byte (said e)

-- the steps that replies in a row bring, one for each reply taken: the reply that ends the exchange brings 6,
-- and none is taken after it
unfoldable pub steps : Exchange → (replies : List ℕ) → List ℕ
unfolding brought asks after
steps e rs = map said_byte (brought read e rs)

-- how many of the replies in a row are taken
unfoldable pub taken : Exchange → (replies : List ℕ) → ℕ
taken e rs = length (steps e rs)

-- the outcome of an exchange; one that has not ended has the number 0, running
unfoldable pub outcome_of : Exchange → Outcome
outcome_of (ended o) = o
outcome_of (ask a k) = outcome running

-- an exchange that does not drive C2D now, or whose step stands in a field of the master's
unfoldable pub own : Exchange → Bool
own (ended o) = true
own (ask (at f s) k) = not (drives s) || master f

-- The exchange of a list of acts: what is said on the wire, whatever the replies (document 01, "Settings and
-- session"), and the session's limits.
use Rattle.std.specs.Prelude.{Bool, cond, List, [], ◌∷◌, ℕ, zero, suc, ◌<◌, eqb}
use Rattle.numbers.specs.Numbers.{done, poll_limit_reached}
use Rattle.c2_wire.specs.Exchange.{Exchange, ended, outcome}
use Rattle.c2_wire.specs.Frames.{frame, framed}
use Rattle.c2_wire.specs.declared.Frame.TheVariants.{AddressRead, DataRead}
use Rattle.settings.specs.declared.Settings.{Settings}
use Rattle.c2_order.specs.Acts.{Act, send, poll, expect}

-- The limits of a session: the most strobes of a WAIT, and the most reads of a poll.
pub record Limits : Type 0 where
  pub wait : ℕ
  pub reads : ℕ

abbrev pub limits : (wait reads : ℕ) → Limits
limits w r = record { wait = w; reads = r }

-- limits that leave at least one strobe and one read
pub record Positive (l : Limits) : Type 0 where
  pub wait : 0 < l.wait
  pub reads : 0 < l.reads

-- the limits of a session with these settings: their WAIT limit (document 02, d; 20 in document 01), and 256
-- poll reads
abbrev pub limits_of : Settings → Limits
limits_of t = limits t.wait 256

-- a poll of which this many reads are left, and what follows it
unfoldable pub polling : (wait_limit left : ℕ) → (ℕ → Bool) → Exchange → Exchange
polling w zero ok k = ended (outcome poll_limit_reached)
polling w (suc n) ok k = framed w (frame AddressRead 0) (λ s. cond (ok s) k (polling w n ok k))

-- what is said on the wire over a list of acts, one after the other; after the last the session is done
unfoldable pub conversation : Limits → List Act → Exchange
conversation l [] = ended (outcome done)
conversation l (send ss ∷ acts) = framed l.wait ss (λ _. conversation l acts)
conversation l (poll ok ∷ acts) = polling l.wait l.reads ok (conversation l acts)
conversation l (expect x o ∷ acts) = framed l.wait (frame DataRead 0) (λ y. cond (eqb y x) (conversation l acts) (ended o))

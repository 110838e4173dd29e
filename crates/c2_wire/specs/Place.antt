-- A place in a frame: its step, what a reply makes of it, the exchange that is left there with the most
-- strobes of that, and how far a place's numbers go.
use Rattle.std.specs.Prelude.{Bool, cond, List, [], ◌∷◌, ℕ, suc, ◌+◌, ◌-◌, ◌*◌, ◌^◌, ◌%◌, ltb, length, get_or, take, drop}
use Rattle.numbers.specs.Numbers.{wait_limit_reached}
use Rattle.c2_wire.specs.Bits.{bit}
use Rattle.c2_wire.specs.Step.{Step, released, code}
use Rattle.c2_wire.specs.Field.{STOP}
use Rattle.c2_wire.specs.Exchange.{Exchange, ended, outcome}
use Rattle.c2_wire.specs.Frames.{Strobe, plain, sampled, waits, waiting, strobes}
use Rattle.c2_wire.specs.declared.Place.{Place}
use Rattle.c2_wire.specs.declared.Moved.{Moved}
use Rattle.c2_wire.specs.declared.Moved.TheVariants.{Within, Stopped, WaitLimit}

abbrev pub place : (strobe count bits : ℕ) → Place
place i c v = record { strobe = i; count = c; bits = v }

-- the strobe at a place; past the end of the frame it is a STOP
abbrev pub strobe_at : List Strobe → ℕ → Strobe
strobe_at ss i = get_or ss i (plain STOP released)

unfoldable pub strobe_step : Strobe → Step
strobe_step (plain f s) = s
strobe_step (sampled f) = released
strobe_step waits = released

-- the byte of the step at a place
unfoldable pub step_at : List Strobe → ℕ → ℕ
step_at ss i = code (strobe_step (strobe_at ss i))

-- how many of the strobes are sampled
unfoldable pub samples : List Strobe → ℕ
samples [] = 0
samples (plain f s ∷ ss) = samples ss
samples (sampled f ∷ ss) = suc (samples ss)
samples (waits ∷ ss) = samples ss

-- what a reply makes of a place whose reply is not looked at: the next strobe
abbrev pub passes : Place → Moved
passes p = Within (place (p.strobe + 1) p.count p.bits)

-- what a reply makes of a place that is sampled: the next strobe with one bit more, kept to a byte
abbrev pub takes_bit : (weight : ℕ) → Place → Bool → Moved
takes_bit i p b = Within (place (p.strobe + 1) p.count ((p.bits + bit b * 2 ^ i) % 256))

-- what a reply makes of a place in a WAIT: after a 1 the next strobe, after a 0 the same strobe again, until
-- the zero that reaches the limit
abbrev pub waits_on : (wait_limit : ℕ) → Place → Bool → Moved
waits_on l p b =
    cond b (Within (place (p.strobe + 1) 0 p.bits))
    (cond (ltb (p.count + 1) l) (Within (place p.strobe (p.count + 1) p.bits)) WaitLimit)

-- a reply to a strobe that is not the frame's last; bits are sampled lowest first
unfoldable pub follows : (wait_limit : ℕ) → List Strobe → Strobe → Place → Bool → Moved
follows l ss (plain f s) p b = passes p
follows l ss (sampled f) p b = takes_bit (samples (take p.strobe ss)) p b
follows l ss waits p b = waits_on l p b

-- what a reply makes of a place in a frame: a place, the byte sampled once the STOP is answered, or the
-- WAIT's limit
unfoldable pub followed : (wait_limit : ℕ) → List Strobe → Place → Bool → Moved
followed l ss p b = cond (ltb (p.strobe + 1) (length ss)) (follows l ss (strobe_at ss p.strobe) p b) (Stopped p.bits)

-- the exchange that is left where z zeros of the WAIT at its head, if one is there, are seen
unfoldable pub rest_of : (wait_limit : ℕ) → List Strobe → (z n v : ℕ) → (ℕ → Exchange) → Exchange
rest_of l [] z n v k = k v
rest_of l (plain f s ∷ ss) z n v k = strobes l (plain f s ∷ ss) n v k
rest_of l (sampled f ∷ ss) z n v k = strobes l (sampled f ∷ ss) n v k
rest_of l (waits ∷ ss) z n v k = waiting (l - z) (strobes l ss n v k)

-- the exchange that is left at a place of a frame
unfoldable pub remaining : (wait_limit : ℕ) → List Strobe → Place → (ℕ → Exchange) → Exchange
remaining l ss p k = rest_of l (drop p.strobe ss) p.count (samples (take p.strobe ss)) p.bits k

-- the exchange that is left after a reply has moved the place
unfoldable pub moved_to : (wait_limit : ℕ) → List Strobe → Moved → (ℕ → Exchange) → Exchange
moved_to l ss (Within p) k = remaining l ss p k
moved_to l ss (Stopped v) k = k v
moved_to l ss WaitLimit k = ended (outcome wait_limit_reached)

-- The most strobes that a frame takes: each WAIT counts to its limit.
unfoldable pub longest : (wait_limit : ℕ) → List Strobe → ℕ
longest l [] = 0
longest l (plain f s ∷ ss) = suc (longest l ss)
longest l (sampled f ∷ ss) = suc (longest l ss)
longest l (waits ∷ ss) = l + longest l ss

-- the most strobes left of a frame where z zeros of the WAIT at its head, if one is there, are seen
unfoldable pub longest_rest : (wait_limit : ℕ) → List Strobe → (z : ℕ) → ℕ
longest_rest l [] z = 0
longest_rest l (plain f s ∷ ss) z = longest l (plain f s ∷ ss)
longest_rest l (sampled f ∷ ss) z = longest l (sampled f ∷ ss)
longest_rest l (waits ∷ ss) z = (l - z) + longest l ss

-- the most strobes of a frame that are left at a place
unfoldable pub strobes_left : (wait_limit : ℕ) → List Strobe → Place → ℕ
strobes_left l ss p = longest_rest l (drop p.strobe ss) p.count

-- What a place's count is below: the WAIT's limit in a WAIT, and elsewhere that of the reads.
unfoldable pub count_limit : (l r : ℕ) → Strobe → ℕ
count_limit l r (plain f s) = r
count_limit l r (sampled f) = r
count_limit l r waits = l

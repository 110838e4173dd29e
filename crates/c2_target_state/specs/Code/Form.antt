-- For the code, which tells by its numbers whether a state is a target's: tags exist, truth values are 0 or
-- 1, and numbers that are not in use are 0. `held_form` and `no_form` of proofs/Laws/Form are the laws that
-- this is the test of `target_of`.
use Rattle.std.specs.Prelude.{Bool, cond, not, ◌&&◌, ◌||◌, ℕ, ◌+◌, eqb, ltb, leb}
use Rattle.c2_target_state.specs.declared.State.{State}

-- whether all of these are 0
abbrev pub none : (a b c d : ℕ) → Bool
none a b c d = eqb (a + b + c + d) 0

-- whether what a frame does at its STOP is in form: only an address and a byte that is written have a number
unfoldable pub effect_in_form : (effect byte : ℕ) → Bool
effect_in_form e b = eqb e 1 || (eqb e 2 || (ltb e 5 && eqb b 0))

-- whether a point past the fields that the target hears, where no bits are heard, is in form
unfoldable pub later_in_form : (point value left zeros effect byte : ℕ) → Bool
later_in_form p v n z e b =
    cond (eqb p 6) (none v z e b)
    (cond (eqb p 7) (none v z 0 0 && effect_in_form e b)
    (cond (eqb p 8) (eqb v 0 && effect_in_form e b)
    (cond (eqb p 9) (eqb z 0 && effect_in_form e b)
    (eqb p 10 && (none v n z 0 && effect_in_form e b)))))

-- whether a point is in form
unfoldable pub point_in_form : (point heard value left zeros effect byte : ℕ) → Bool
point_in_form p h v n z e b =
    cond (ltb p 6) (none n z e b && (not (eqb p 0) || none h v 0 0)) (eqb h 0 && later_in_form p v n z e b)

-- whether a command before the length code, which has no address and no bytes left, is in form
unfoldable pub early_in_form : (command write page high : ℕ) → Bool
early_in_form c w p h =
    cond (ltb c 2) (none w p h 0)
    (cond (eqb c 2) (none w h 0 0)
    (cond (eqb c 3) (none p h 0 0 && ltb w 2)
    (eqb c 4 && (eqb p 0 && ltb w 2))))

-- whether a command is in form
unfoldable pub command_in_form : (command write page high start rest : ℕ) → Bool
command_in_form c w p h a n =
    cond (eqb c 6) (none w p h 0)
    (cond (eqb c 7) (eqb a 0 && none w p h 0)
    (eqb n 0 && cond (eqb c 5) (none p h 0 0 && ltb w 2) (eqb a 0 && early_in_form c w p h)))

-- whether the output is in form
unfoldable pub output_in_form : (output passed next count : ℕ) → Bool
output_in_form o ok a n = cond (ltb o 2) (eqb (a + n) 0 && leb ok o) (ltb o 4 && eqb ok 0)

-- whether the truth values that stand in no tag's group are 0 or 1
unfoldable pub flags_in_form : State → Bool
flags_in_form s =
    ltb s.collision 2 && (ltb s.on 2 && (ltb s.met1 2 && (ltb s.met2 2 && (ltb s.met3 2 && ltb s.met4 2))))

-- whether a state is in form
unfoldable pub in_form : State → Bool
in_form s =
    point_in_form s.point s.heard s.value s.left s.zeros s.effect s.byte
    && (flags_in_form s
    && (output_in_form s.output s.passed s.next s.count
    && command_in_form s.command s.write s.page s.high s.start s.rest))

-- Laws of exchanges: replies in parts and in a row, what an ended exchange does, ways through an exchange,
-- and exchanges that drive C2D in fields of the master's alone.
use mathlib.Core.Path.{◌≡◌, refl, ap, ◌∙◌}
use mathlib.Core.Bool.{Bool, true, false, not, ◌||◌}
use mathlib.Core.List.{List, [], ◌∷◌, ◌++◌, map}
use Prim.Native.Nat.{ℕ, zero, suc, ◌+◌}
use native.Mathlib.Nat.{zero-add, suc-add}
use lib.ListN.{length, length-append}
use Rattle.c2_wire.specs.Bits.{bit}
use Rattle.c2_wire.specs.Step.{Step, drives}
use Rattle.c2_wire.specs.Field.{Field, master}
use Rattle.c2_wire.specs.Exchange.{Exchange, ended, strobe, Outcome, read, said_byte, after, fed, asks, steps, taken, own}
use Rattle.exchange.specs.Exchange.{brought}
use Rattle.exchange.proofs.Laws.Exchange.{brought_append}

-- a reply of 0 or 1 takes the branch of that bit
pub after_bit : (f : Field) (s : Step) (k : Bool → Exchange) (b : Bool) → after (strobe f s k) (bit b) ≡ k b
unfolding after bit
after_bit f s k true = refl
after_bit f s k false = refl

pub fed_ended : (o : Outcome) (rs : List ℕ) → fed (ended o) rs ≡ ended o
unfolding fed after
fed_ended o [] = refl
fed_ended o (r ∷ rs) = fed_ended o rs

pub steps_ended : (o : Outcome) (rs : List ℕ) → steps (ended o) rs ≡ []
unfolding steps
steps_ended o [] = refl
steps_ended o (r ∷ rs) = refl

-- feeding replies in parts is feeding them in a row
pub fed_append : (e : Exchange) (rs qs : List ℕ) → fed e (rs ++ qs) ≡ fed (fed e rs) qs
unfolding fed
fed_append e [] qs = refl
fed_append e (r ∷ rs) qs = fed_append (after e r) rs qs

map_append : {A B : Type 0} (f : A → B) (xs ys : List A) → map f (xs ++ ys) ≡ map f xs ++ map f ys
map_append f [] ys = refl
map_append f (x ∷ xs) ys = ap (λ (l : _). f x ∷ l) (map_append f xs ys)

pub steps_append : (e : Exchange) (rs qs : List ℕ) → steps e (rs ++ qs) ≡ steps e rs ++ steps (fed e rs) qs
unfolding steps fed
steps_append e rs qs = ap (λ (l : _). map said_byte l) (brought_append read e rs qs) ∙ map_append said_byte (brought read e rs) (brought read (fed e rs) qs)

pub taken_append : (e : Exchange) (rs qs : List ℕ) → taken e (rs ++ qs) ≡ taken e rs + taken (fed e rs) qs
unfolding taken
taken_append e rs qs = ap length (steps_append e rs qs) ∙ length-append (steps e rs) (steps (fed e rs) qs)

-- A way through an exchange: n replies, each taken, that lead to another.
pub data Way : Exchange → ℕ → Exchange → Type 0 where
  here : {e : Exchange} → Way e 0 e
  on : {f : Field} {s : Step} {k : Bool → Exchange} {n : ℕ} {e : Exchange} → (b : Bool) → Way (k b) n e → Way (strobe f s k) (suc n) e

pub way_append : {a b c : Exchange} {m n : ℕ} → Way a m b → Way b n c → Way a (m + n) c
way_append here w = rw zero-add w
way_append (on b v) w = rw suc-add (on b (way_append v w))

-- a way is a list of replies that are all taken
pub way_replies : {e d : Exchange} {n : ℕ} → Way e n d → (rs : List ℕ) × (length rs ≡ n) × (taken e rs ≡ n) × (fed e rs ≡ d)
unfolding taken steps fed
way_replies here = ([], refl, refl, refl)
way_replies (on {f = f} {s = s} {k = k} b w) =
    let h = way_replies w in
    (bit b ∷ h.0, ap suc h.1, rw (after_bit f s k b) (ap suc h.2), rw (after_bit f s k b) h.3)

-- every step of an exchange is the master's own or released
pub data Own : Exchange → Type 0 where
  own_ended : {o : Outcome} → Own (ended o)
  own_strobe : {f : Field} {s : Step} {k : Bool → Exchange} → not (drives s) || master f ≡ true → ((b : Bool) → Own (k b)) → Own (strobe f s k)

own_after : {e : Exchange} → Own e → (r : ℕ) → Own (after e r)
unfolding after
own_after own_ended r = own_ended
own_after (own_strobe p h) zero = h false
own_after (own_strobe p h) (suc zero) = h true
own_after (own_strobe p h) (suc (suc r)) = own_ended

-- an exchange whose steps are all the master's own or released is at such a step whatever the replies
pub own_fed : {e : Exchange} → Own e → (rs : List ℕ) → own (fed e rs) ≡ true
unfolding fed own
own_fed own_ended [] = refl
own_fed (own_strobe p h) [] = p
own_fed o (r ∷ rs) = own_fed (own_after o r) rs

-- an exchange that has not ended takes a reply
pub steps_taken : {f : Field} {s : Step} {k : Bool → Exchange} (e : Exchange) (r : ℕ) (rs : List ℕ) → e ≡ strobe f s k
    → steps e (r ∷ rs) ≡ asks (after e r) ∷ steps (after e r) rs
unfolding steps
steps_taken e r rs p = rw p

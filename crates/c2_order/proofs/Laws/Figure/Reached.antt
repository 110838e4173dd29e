-- Some replies take as many steps as the figure: each WAIT to its last strobe, each poll to its last read,
-- and every byte as expected.
use mathlib.Core.Path.{◌≡◌, refl, sym, ap, ◌∙◌}
use mathlib.Core.Bool.{Bool, true, false, cond}
use mathlib.Core.List.{List, [], ◌∷◌}
use Prim.Native.Nat.{ℕ, zero, suc, ◌+◌, ◌-◌, ◌*◌, ◌^◌, ◌<◌}
use native.Mathlib.Omega.{arith}
use native.Mathlib.Nat.{not-suc-le-zero, pow-succ', mul_assoc, mul_comm, add-mul, zero-mul, mul-one}
use borrow.Author.Tests.{eq-eqb}
use lib.Dec.{eqb}
use lib.ListN.{length}
use Rattle.numbers.specs.Numbers.{done}
use Rattle.c2_wire.specs.Bits.{odd, bits, bit, number}
use Rattle.c2_wire.specs.Exchange.{Exchange, ended, outcome}
use Rattle.c2_wire.specs.Frames.{Strobe, plain, sampled, waits, waiting, strobes, framed, sends, ins_code, frame}
use Rattle.c2_wire.specs.Place.{samples, longest}
use Rattle.c2_wire.specs.declared.Frame.TheVariants.{AddressRead, DataRead}
use Rattle.c2_wire.proofs.Laws.Bits.{length_bits, number_bits}
use Rattle.c2_wire.proofs.Laws.Exchange.{Way, here, on, way_append}
use Rattle.c2_order.specs.Acts.{Act, send, poll, expect, input_taken, output_ready}
use Rattle.c2_order.specs.Conversation.{Limits, Positive, polling, conversation}
use Rattle.c2_order.specs.Figure.{cost, costs}
use Rattle.c2_order.proofs.Laws.Valid.{Every, none, more}
use Rattle.c2_order.proofs.Laws.Order.{Ground}

-- the way through a WAIT to its last strobe
way_waiting : (n : ℕ) (e : Exchange) → 0 < n → Way (waiting n e) n e
unfolding waiting
way_waiting zero e h = absurd (not-suc-le-zero h)
way_waiting (suc zero) e h = on true here
way_waiting (suc (suc n)) e h = on false (way_waiting (suc n) e (omega arith))

weighed : (v n x : ℕ) (b : Bool) → v + bit b * 2 ^ n + x * 2 ^ suc n ≡ v + (bit b + 2 * x) * 2 ^ n
weighed v n x b =
    let p : x * 2 ^ suc n ≡ 2 * x * 2 ^ n = rw (pow-succ' 2 n) (sym (mul_assoc x 2 (2 ^ n)) ∙ ap (λ (m : ℕ). m * 2 ^ n) (mul_comm x 2)) in
    let q : (bit b + 2 * x) * 2 ^ n ≡ bit b * 2 ^ n + 2 * x * 2 ^ n = add-mul (bit b) (2 * x) (2 ^ n) in
    omega (arith, p, q)

-- the way through the strobes of a frame, with these bits sampled
way_strobes : (l : ℕ) → 0 < l → (ss : List Strobe) (n v : ℕ) (k : ℕ → Exchange) (bs : List Bool) → length bs ≡ samples ss
    → Way (strobes l ss n v k) (longest l ss) (k (v + number bs * 2 ^ n))
unfolding strobes longest samples number
way_strobes l hl [] n v k [] h = let e : v + 0 * 2 ^ n ≡ v = omega (arith, zero-mul (2 ^ n)) in rw e here
way_strobes l hl [] n v k (b ∷ bs) h = absurd (omega arith)
way_strobes l hl (plain f s ∷ ss) n v k bs h = on true (way_strobes l hl ss n v k bs h)
way_strobes l hl (sampled f ∷ ss) n v k [] h = absurd (omega arith)
way_strobes l hl (sampled f ∷ ss) n v k (b ∷ bs) h =
    on b (rw (weighed v n (number bs) b) at (way_strobes l hl ss (suc n) (v + bit b * 2 ^ n) k bs (omega arith)))
way_strobes l hl (waits ∷ ss) n v k bs h = way_append (way_waiting l _ hl) (way_strobes l hl ss n v k bs h)

-- the way through a whole frame that samples a byte, and through one that samples none
way_read : (l : ℕ) → 0 < l → (ss : List Strobe) (k : ℕ → Exchange) (x : ℕ) → samples ss ≡ 8 → x < 256 → Way (framed l ss k) (longest l ss) (k x)
way_read l hl ss k x h g =
    let e : 0 + number (bits 8 x) * 2 ^ 0 ≡ x = omega (arith, number_bits 8 x g, mul-one (number (bits 8 x))) in
    rw e at (way_strobes l hl ss 0 0 k (bits 8 x) (length_bits 8 x ∙ sym h))

way_sent : (l : ℕ) → 0 < l → (ss : List Strobe) (e : Exchange) → samples ss ≡ 0 → Way (framed l ss (λ _. e)) (longest l ss) e
way_sent l hl ss e h = way_strobes l hl ss 0 0 (λ _. e) [] (sym h)

-- the way through a poll to its last read: the status y does not pass, and x does
way_poll : (w n : ℕ) → 0 < w → (ok : ℕ → Bool) (e : Exchange) (x y : ℕ) → x < 256 → y < 256 → ok x ≡ true → ok y ≡ false
    → Way (polling w (suc n) ok e) (suc n * longest w (frame AddressRead 0)) e
unfolding polling samples frame sends ins_code bits
way_poll w zero hw ok e x y hx hy p q =
    let m : 1 * longest w (frame AddressRead 0) ≡ longest w (frame AddressRead 0) = omega arith in
    rw m (rw p at (way_read w hw (frame AddressRead 0) (λ s. cond (ok s) e (polling w 0 ok e)) x refl hx))
way_poll w (suc n) hw ok e x y hx hy p q =
    let L : ℕ = longest w (frame AddressRead 0) in
    let m : suc (suc n) * longest w (frame AddressRead 0) ≡ longest w (frame AddressRead 0) + suc n * longest w (frame AddressRead 0) = omega arith in
    rw m
    (way_append (rw q at (way_read w hw (frame AddressRead 0) (λ s. cond (ok s) e (polling w (suc n) ok e)) y refl hy))
    (way_poll w n hw ok e x y hx hy p q))

-- an act that can be passed: its frame samples nothing, its poll can pass and fail, its byte is a byte
abbrev pub Passable : Act → Type 0
Passable (send ss) = samples ss ≡ 0
Passable (poll ok) = (x : ℕ) × (y : ℕ) × (x < 256) × (y < 256) × (ok x ≡ true) × (ok y ≡ false)
Passable (expect x o) = x < 256

pub passable : Ground Passable
unfolding frame sends ins_code bits samples input_taken output_ready odd
passable = record {
  resets = refl;
  pauses = refl;
  addresses = λ a. refl;
  writes = λ b. refl;
  takes = (0, 2, omega arith, omega arith, refl, refl);
  readies = (1, 0, omega arith, omega arith, refl, refl);
  expects = λ x o h e. h;
}

way_act : (l : Limits) → Positive l → (a : Act) (acts : List Act) → Passable a → Way (conversation l (a ∷ acts)) (cost l a) (conversation l acts)
unfolding conversation cost samples frame sends ins_code bits
way_act l h (send ss) acts p = way_sent l.wait h.wait ss (conversation l acts) p
way_act l h (poll ok) acts p =
    let m : suc (l.reads - 1) ≡ l.reads = omega (arith, h.reads) in
    rw m at (way_poll l.wait (l.reads - 1) h.wait ok (conversation l acts) p.0 p.1 p.2 p.3 p.4 p.5)
way_act l h (expect x o) acts p =
    rw (eq-eqb x x refl) at (way_read l.wait h.wait (frame DataRead 0) (λ y. cond (eqb y x) (conversation l acts) (ended o)) x refl p)

pub way_acts : (l : Limits) → Positive l → (acts : List Act) → Every Passable acts → Way (conversation l acts) (costs l acts) (ended (outcome done))
unfolding costs conversation
way_acts l h [] none = here
way_acts l h (a ∷ acts) (more p f) = way_append (way_act l h a acts p) (way_acts l h acts f)

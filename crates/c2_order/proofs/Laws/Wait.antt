-- Zeros in a WAIT: as many as its limit refuse, one fewer and a 1 pass.
use mathlib.Core.Path.{◌≡◌, refl, ap, ◌∙◌}
use mathlib.Core.List.{List, [], ◌∷◌, ◌++◌}
use Prim.Native.Nat.{ℕ, zero, suc, ◌-◌}
use native.Mathlib.Omega.{arith}
use lib.ListN.{replicate}
use Rattle.numbers.specs.Numbers.{wait_limit_reached}
use Rattle.c2_wire.specs.Bits.{bits}
use Rattle.c2_wire.specs.Exchange.{Exchange, outcome, after, fed}
use Rattle.c2_wire.specs.Frames.{waiting, strobes, frame, sends, ins_code}
use Rattle.c2_order.specs.Conversation.{conversation}
use Rattle.c2_order.specs.Claims.{WaitLimit}
use Rattle.exchange.specs.Exchange as Shared

zeros_refuse : (n : ℕ) (k : Exchange) → fed (waiting n k) (replicate n 0) ≡ Shared.ended (outcome wait_limit_reached)
unfolding waiting fed after
zeros_refuse zero k = refl
zeros_refuse (suc n) k = zeros_refuse n k

one_passes : (n : ℕ) (k : Exchange) (rs : List ℕ) → fed (waiting (suc n) k) (replicate n 0 ++ 1 ∷ rs) ≡ fed k rs
unfolding waiting fed after
one_passes zero k rs = refl
one_passes (suc n) k rs = one_passes n k rs

all_but_one : (w n : ℕ) (k : Exchange) (rs : List ℕ) → w ≡ suc n → fed (waiting w k) (replicate n 0 ++ 1 ∷ rs) ≡ fed k rs
all_but_one w n k rs e = ap (λ (v : ℕ). fed (waiting v k) (replicate n 0 ++ 1 ∷ rs)) e ∙ one_passes n k rs

pub wait_limit : WaitLimit
unfolding conversation strobes frame sends ins_code bits fed after
wait_limit s h b x o acts =
    record {
      write_refused = zeros_refuse s.wait _;
      read_refused = zeros_refuse s.wait _;
      write_passed = all_but_one s.wait (s.wait - 1) _ (1 ∷ []) (omega arith);
    }

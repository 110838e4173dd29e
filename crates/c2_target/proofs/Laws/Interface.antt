-- Delays and status bits are bytes.
use mathlib.Core.Bool.{Bool, true, false, cond}
use mathlib.Core.List.{List}
use Prim.Native.Nat.{ℕ, ◌+◌, ◌*◌, ◌<◌}
use native.Mathlib.Omega.{arith}
use Rattle.laws.specs.Bytes.{Bytes}
use Rattle.laws.proofs.Bytes.{getD_byte}
use Rattle.c2_wire.specs.Bits.{bit}
use Rattle.c2_target.specs.declared.Output.{Output}
use Rattle.c2_target.specs.declared.Link.{Link}
use Rattle.c2_target.specs.Delays.{list_place, delay}
use Rattle.c2_target.specs.Commands.{some_output}
use Rattle.c2_target.specs.Interface.{in_busy, out_ready, status_bits, late_of}

pub delay_byte : (ds : List ℕ) (p : ℕ) → Bytes ds → delay ds p < 256
unfolding delay
delay_byte ds p h = getD_byte ds (list_place ds p) h

pub late_byte : (ds : List ℕ) (o : Output) (p : ℕ) → Bytes ds → late_of ds o p < 256
unfolding late_of
late_byte ds o p h = go (some_output o)
  where
    go : (b : Bool) → cond b (delay ds p) 0 < 256
    go true = delay_byte ds p h
    go false = omega arith

pub status_small : (l : Link) → status_bits l < 256
unfolding status_bits bit
status_small l = go (out_ready l) (in_busy l)
  where
    go : (a b : Bool) → bit a + 2 * bit b < 256
    go true true = omega arith
    go true false = omega arith
    go false true = omega arith
    go false false = omega arith

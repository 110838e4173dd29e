-- Each frame against the target between two frames: while it runs the flash is as it was, and what follows it
-- runs against the target after its STOP.
use mathlib.Core.Path.{◌≡◌, subst, subst⁻¹}
use mathlib.Core.Bool.{Bool, cond}
use mathlib.Core.List.{List, ◌++◌}
use Prim.Native.Nat.{ℕ, zero, suc, ◌+◌, ◌-◌, ◌*◌, ◌/◌, ◌%◌, ◌<◌, ◌≤◌}
use native.Mathlib.Nat.{mod-lt, not-suc-le-zero}
use native.Mathlib.Omega.{arith}
use lib.Dec.{eqb, eqb-suc-zero}
use lib.ListN.{replicate}
use Rattle.c2_wire.specs.Bits.{bits, bit, odd, number}
use Rattle.c2_wire.specs.Step.{released, drives}
use Rattle.c2_wire.specs.Exchange.{Exchange, strobe, Outcome}
use Rattle.c2_wire.specs.Frames.{sends, ins_code, frame, waiting, strobes, framed, stop, sampled}
use Rattle.c2_wire.specs.Field.{STOP, read_DATA}
use Rattle.c2_wire.specs.declared.Frame.TheVariants.{AddressWrite, AddressRead, DataWrite, DataRead}
use Rattle.c2_wire.proofs.Laws.Bits.{number_bits}
use Rattle.c2_target.specs.declared.Effect.{Effect}
use Rattle.c2_target.specs.declared.Effect.TheVariants.{SetAddress, Write, CountDown, Read}
use Rattle.c2_target.specs.declared.Point.TheVariants.{Start, Wait}
use Rattle.c2_target.specs.declared.Device.{Device}
use Rattle.c2_target.specs.declared.Target.{Target}
use Rattle.c2_target.specs.Delays.{Setup, delay, next_place}
use Rattle.c2_target.specs.Interface.{Acted, shown, given, begun, frame_does}
use Rattle.c2_target.specs.Strobes.{target, line, marked, sending, frame_begins, after_ins, after_write_length, after_read_length, after_address, after_data, value_sent, after_wait, strobed_at}
use Rattle.c2_target.specs.Target.{stepped}
use Rattle.c2_play.proofs.Laws.Leads.{Leads}

-- the target between two frames
abbrev pub idle : (place : ℕ) → (collision : Bool) → Device → Target
idle p c d = target Start p c d

-- eight bits, as they are heard by the target and sampled by the master
abbrev pub heard : ℕ → ℕ
heard a =
    0 + bit (odd a) * 1 + bit (odd (a / 2)) * 2 + bit (odd (a / 2 / 2)) * 4 + bit (odd (a / 2 / 2 / 2)) * 8
    + bit (odd (a / 2 / 2 / 2 / 2)) * 16 + bit (odd (a / 2 / 2 / 2 / 2 / 2)) * 32 + bit (odd (a / 2 / 2 / 2 / 2 / 2 / 2)) * 64
    + bit (odd (a / 2 / 2 / 2 / 2 / 2 / 2 / 2)) * 128

heard_byte : (a : ℕ) → a < 256 → heard a ≡ a
heard_byte a h = omega (arith, sum)
  where
    sum : bit (odd a) + 2 * (bit (odd (a / 2)) + 2 * (bit (odd (a / 2 / 2)) + 2 * (bit (odd (a / 2 / 2 / 2)) + 2 * (bit (odd (a / 2 / 2 / 2 / 2)) + 2 * (bit (odd (a / 2 / 2 / 2 / 2 / 2)) + 2 * (bit (odd (a / 2 / 2 / 2 / 2 / 2 / 2)) + 2 * (bit (odd (a / 2 / 2 / 2 / 2 / 2 / 2 / 2)) + 2 * 0))))))) ≡ a
    sum = unfold bits number in number_bits 8 a h

module _ (u : Setup) (end : Outcome) (J : List ℕ → Type 0) (Z : Target → List ℕ → Type 0) where
  abbrev pub leads : Exchange → Target → List ℕ → Type 0
  leads e t f = Leads (stepped u) end J Z e t f

  -- an exchange runs well from what a frame has left at its STOP
  abbrev pub LeadsAfter : Exchange → (collision : Bool) → Acted → Type 0
  LeadsAfter e c r = leads e (idle r.place c r.device) r.flash

  pub address_write_leads : (l a : ℕ) (k : ℕ → Exchange) (p : ℕ) (c : Bool) (d : Device) (f : List ℕ) → a < 256 → J f
      → LeadsAfter (k 0) c (frame_does u (SetAddress a) (begun d) p f) → leads (framed l (frame AddressWrite a) k) (idle p c d) f
  unfolding Leads frame sends ins_code bits bit odd drives strobes stepped strobed_at line marked frame_begins after_ins after_address frame_does
  address_write_leads l a k p c d f h j g =
      (j, (j, (j, (j, (j, (j, (j, (j, (j, (j, (j, (j, subst⁻¹ (λ (x : ℕ). LeadsAfter (k 0) c (frame_does u (SetAddress x) (begun d) p f)) (heard_byte a h) g))))))))))))

  -- where an Address Write runs well, so does what follows it
  pub address_write_says : (l a : ℕ) (k : ℕ → Exchange) (p : ℕ) (c : Bool) (d : Device) (f : List ℕ) → a < 256
      → leads (framed l (frame AddressWrite a) k) (idle p c d) f → LeadsAfter (k 0) c (frame_does u (SetAddress a) (begun d) p f)
  unfolding Leads frame sends ins_code bits bit odd drives strobes stepped strobed_at line marked frame_begins after_ins after_address frame_does
  address_write_says l a k p c d f h g =
      subst (λ (x : ℕ). LeadsAfter (k 0) c (frame_does u (SetAddress x) (begun d) p f)) (heard_byte a h) g.1.1.1.1.1.1.1.1.1.1.1.1

  pub address_read_leads : (l : ℕ) (k : ℕ → Exchange) (p : ℕ) (c : Bool) (d : Device) (f : List ℕ) → shown u.settings (begun d) < 256 → J f
      → LeadsAfter (k (shown u.settings (begun d))) c (frame_does u CountDown (begun d) p f) → leads (framed l (frame AddressRead 0) k) (idle p c d) f
  unfolding Leads frame sends ins_code bits bit odd drives strobes stepped strobed_at line marked frame_begins after_ins sending
  address_read_leads l k p c d f h j g =
      (j, (j, (j, (j, (j, (j, (j, (j, (j, (j, (j, (j, subst⁻¹ (λ (x : ℕ). LeadsAfter (k x) c (frame_does u CountDown (begun d) p f)) (heard_byte (shown u.settings (begun d)) h) g))))))))))))

  -- a WAIT of which n strobes are left after this one passes, if its zeros are no more
  waits_on : (z n m : ℕ) (e : Effect) (k : Exchange) (p : ℕ) (c : Bool) (d : Device) (f : List ℕ) → z ≤ n → J f
      → leads k (target (sending m (value_sent u e d f) e) p c d) f
      → leads (cond (eqb z 0) k (waiting n k)) (target (after_wait u z m e d f) p c d) f
  unfolding Leads after_wait waiting stepped strobed_at marked drives
  waits_on zero n m e k p c d f h j g = g
  waits_on (suc z) zero m e k p c d f h j g = absurd (not-suc-le-zero h)
  waits_on (suc z) (suc n) m e k p c d f h j g =
      let one : suc z - 1 ≡ z = omega arith in
      rw (eqb-suc-zero z, one) (j, waits_on z n m e k p c d f (omega arith) j g)

  -- a WAIT passes where the limit is no lower than the target's own
  wait_leads : (l m : ℕ) (e : Effect) (k : Exchange) (p : ℕ) (c : Bool) (d : Device) (f : List ℕ) → 1 ≤ u.wait → u.wait ≤ l → J f
      → leads k (target (sending m (value_sent u e d f) e) (next_place u.delays p) c d) f
      → leads (waiting l k) (target (Wait m e) p c d) f
  unfolding Leads waiting stepped strobed_at marked drives
  wait_leads zero m e k p c d f h1 hl j g = absurd (omega arith)
  wait_leads (suc l) m e k p c d f h1 hl j g =
      (j, waits_on (delay u.delays p % u.wait) l m e k (next_place u.delays p) c d f (omega (arith, mod-lt (delay u.delays p) h1)) j g)

  pub data_write_leads : (l a : ℕ) (k : ℕ → Exchange) (p : ℕ) (c : Bool) (d : Device) (f : List ℕ) → 1 ≤ u.wait → u.wait ≤ l → a < 256 → J f
      → LeadsAfter (k 0) c (frame_does u (Write a) (begun d) (next_place u.delays p) f) → leads (framed l (frame DataWrite a) k) (idle p c d) f
  unfolding Leads frame sends ins_code bits bit odd drives strobes stepped strobed_at line marked frame_begins after_ins after_write_length after_data sending
  data_write_leads l a k p c d f h1 hl h j g =
      (j, (j, (j, (j, (j, (j, (j, (j, (j, (j, (j, (j, (j, wait_leads l 0 (Write (heard a)) (strobe STOP released (λ _. k 0)) p c (begun d) f h1 hl j (j, subst⁻¹ (λ (x : ℕ). LeadsAfter (k 0) c (frame_does u (Write x) (begun d) (next_place u.delays p) f)) (heard_byte a h) g))))))))))))))

  pub data_read_leads : (l : ℕ) (k : ℕ → Exchange) (p : ℕ) (c : Bool) (d : Device) (f : List ℕ) → 1 ≤ u.wait → u.wait ≤ l
      → given u.settings (begun d) f < 256 → J f
      → LeadsAfter (k (given u.settings (begun d) f)) c (frame_does u Read (begun d) (next_place u.delays p) f)
      → leads (framed l (frame DataRead 0) k) (idle p c d) f
  unfolding Leads frame sends ins_code bits bit odd drives strobes stepped strobed_at line marked frame_begins after_ins after_read_length sending value_sent
  data_read_leads l k p c d f h1 hl h j g =
      (j, (j, (j, (j, (j, wait_leads l 8 Read (strobes l (replicate 8 (sampled read_DATA) ++ stop) 0 0 k) p c (begun d) f h1 hl j (j, (j, (j, (j, (j, (j, (j, (j, (j, subst⁻¹ (λ (x : ℕ). LeadsAfter (k x) c (frame_does u Read (begun d) (next_place u.delays p) f)) (heard_byte (given u.settings (begun d) f) h) g))))))))))))))

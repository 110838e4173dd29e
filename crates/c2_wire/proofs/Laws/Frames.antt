-- Laws of the four frames: each is whole, how long it takes at the most, and that the strobes it drives are
-- the master's.
use mathlib.Core.Path.{◌≡◌, refl}
use mathlib.Core.Bool.{Bool, true, false, not, cond, ◌&&◌, ◌||◌}
use mathlib.Core.List.{List, [], ◌∷◌}
use Prim.Native.Nat.{ℕ, zero, suc, ◌+◌}
use native.Mathlib.Omega.{arith}
use Rattle.laws.proofs.Tests.{both}
use Rattle.c2_wire.specs.Bits.{bits}
use Rattle.c2_wire.specs.Step.{Step, released, drives}
use Rattle.c2_wire.specs.Field.{Field, STOP, master}
use Rattle.c2_wire.specs.Exchange.{Exchange}
use Rattle.c2_wire.specs.Frames.{Strobe, plain, sampled, waits, sends, ins_code, frame, waiting, strobes}
use Rattle.c2_wire.specs.Place.{samples, longest}
use Rattle.c2_wire.specs.declared.Frame.{Frame}
use Rattle.c2_wire.specs.declared.Frame.TheVariants.{AddressWrite, AddressRead, DataWrite, DataRead}
use Rattle.c2_wire.proofs.Laws.Exchange.{Own, own_ended, own_strobe}
use Rattle.c2_wire.proofs.Laws.Place.{Whole, waits_in}

-- the most strobes of each frame
pub longest_address_write : (l a : ℕ) → longest l (frame AddressWrite a) ≡ 12
unfolding frame sends ins_code bits longest
longest_address_write l a = refl

pub longest_address_read : (l a : ℕ) → longest l (frame AddressRead a) ≡ 12
unfolding frame sends ins_code bits longest
longest_address_read l a = refl

pub longest_data_write : (l a : ℕ) → longest l (frame DataWrite a) ≡ 14 + l
unfolding frame sends ins_code bits longest
longest_data_write l a = omega arith

pub longest_data_read : (l a : ℕ) → longest l (frame DataRead a) ≡ 14 + l
unfolding frame sends ins_code bits longest
longest_data_read l a = omega arith

-- the four frames are whole, and a poll's reads are counted at an Address Read alone
pub whole_address_write : (a : ℕ) → Whole 1 (frame AddressWrite a)
unfolding frame sends ins_code bits samples waits_in
whole_address_write a = record { ends = λ i e. let h : i ≡ 11 = omega arith in (STOP, released, rw h); byte = omega arith; calm = λ h. omega arith }

pub whole_address_read : (r a : ℕ) → Whole r (frame AddressRead a)
unfolding frame sends ins_code bits samples waits_in
whole_address_read r a = record { ends = λ i e. let h : i ≡ 11 = omega arith in (STOP, released, rw h); byte = omega arith; calm = λ h. absurd (omega arith) }

pub whole_data_write : (a : ℕ) → Whole 1 (frame DataWrite a)
unfolding frame sends ins_code bits samples waits_in
whole_data_write a = record { ends = λ i e. let h : i ≡ 14 = omega arith in (STOP, released, rw h); byte = omega arith; calm = λ h. refl }

pub whole_data_read : (a : ℕ) → Whole 1 (frame DataRead a)
unfolding frame sends ins_code bits samples waits_in
whole_data_read a = record { ends = λ i e. let h : i ≡ 14 = omega arith in (STOP, released, rw h); byte = omega arith; calm = λ h. refl }

-- a step that stands in no frame, such as the reset pulse, is whole too
pub whole_step : (f : Field) (s : Step) → Whole 1 (plain f s ∷ [])
unfolding samples waits_in
whole_step f s = record { ends = λ i e. let h : i ≡ 0 = omega arith in (f, s, rw h); byte = omega arith; calm = λ h. refl }

-- every strobe that is driven stands in a field of the master's
unfoldable pub masters : List Strobe → Bool
masters [] = true
masters (plain f s ∷ ss) = (not (drives s) || master f) && masters ss
masters (sampled f ∷ ss) = masters ss
masters (waits ∷ ss) = masters ss

pub masters_frame : (f : Frame) (a : ℕ) → masters (frame f a) ≡ true
unfolding frame sends ins_code bits masters drives master
masters_frame AddressWrite a = refl
masters_frame AddressRead a = refl
masters_frame DataWrite a = refl
masters_frame DataRead a = refl

own_waiting : (n : ℕ) (e : Exchange) → Own e → Own (waiting n e)
unfolding waiting drives master
own_waiting zero e h = own_ended
own_waiting (suc n) e h = own_strobe refl (go (own_waiting n e h))
  where
    go : Own (waiting n e) → (b : Bool) → Own (cond b e (waiting n e))
    go g true = h
    go g false = g

pub own_strobes : (l : ℕ) (ss : List Strobe) (n v : ℕ) (k : ℕ → Exchange) → masters ss ≡ true → ((x : ℕ) → Own (k x)) → Own (strobes l ss n v k)
unfolding strobes masters drives
own_strobes l [] n v k m h = h v
own_strobes l (plain f s ∷ ss) n v k m h =
    let p = both (not (drives s) || master f) (masters ss) m in
    own_strobe p.0 (λ b. own_strobes l ss n v k p.1 h)
own_strobes l (sampled f ∷ ss) n v k m h = own_strobe refl (λ b. own_strobes l ss (suc n) _ k m h)
own_strobes l (waits ∷ ss) n v k m h = own_waiting l _ (own_strobes l ss n v k m h)

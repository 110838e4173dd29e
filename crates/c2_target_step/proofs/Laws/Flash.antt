-- Only a put changes the flash.
use mathlib.Core.Path.{◌≡◌, refl, sym, ◌∙◌}
use mathlib.Core.Bool.{Bool, true, false}
use mathlib.Core.List.{List}
use Prim.Native.Nat.{ℕ}
use lib.Dec.{eqb}
use Rattle.laws.proofs.Tests.{by_test}
use Rattle.c2_wire.specs.Step.{Step}
use Rattle.settings.specs.declared.Settings.{Settings}
use Rattle.c2_target.specs.declared.Command.{Command}
use Rattle.c2_target.specs.declared.Command.TheVariants.{Ready, ErasePage, EraseConfirm, High, Low, LengthCode, Byte, PastEnd}
use Rattle.c2_target.specs.declared.Effect.{Effect}
use Rattle.c2_target.specs.declared.Effect.TheVariants.{Nothing, SetAddress, Write, CountDown, Read}
use Rattle.c2_target.specs.declared.Point.{Point}
use Rattle.c2_target.specs.declared.Point.TheVariants.{Start, Ins, WriteLength, ReadLength, Address, Data, LongData, Wait, Waiting, Send, Stop}
use Rattle.c2_target.specs.declared.Device.{Device}
use Rattle.c2_target.specs.declared.Target.{Target}
use Rattle.c2_target.specs.Delays.{Setup}
use Rattle.c2_target.specs.Commands.{opens, takes_put}
use Rattle.c2_target.specs.Interface.{out_ready, linked, put_byte, get_byte, prepared, frame_does}
use Rattle.c2_target.specs.Strobes.{strobed_at}
use Rattle.c2_target_step.specs.Code.Parts.{effect_flash, strobe_flash}

-- the first byte of a command changes no flash
opens_keeps : (ready : Bool) (b : ℕ) (f : List ℕ) → (opens ready b f).flash ≡ f
unfolding opens
opens_keeps ready b f =
    by_test (eqb b 0x08) (λ e. rw e) (λ e. rw e (by_test (eqb b 0x07) (λ e. rw e) (λ e. rw e (by_test (eqb b 0x06) (λ e. rw e) (λ e. rw e)))))

-- what a byte put makes of the flash, the device may be prepared or not
put_alike : (s : Settings) (ready : Bool) (c : Command) (b : ℕ) (f : List ℕ) → (takes_put s ready c b f).flash ≡ (takes_put s true c b f).flash
unfolding takes_put
put_alike s ready Ready b f = opens_keeps ready b f ∙ sym (opens_keeps true b f)
put_alike s ready ErasePage b f = refl
put_alike s ready (EraseConfirm p) b f = refl
put_alike s ready (High w) b f = refl
put_alike s ready (Low w h) b f = refl
put_alike s ready (LengthCode true a) b f = refl
put_alike s ready (LengthCode false a) b f = refl
put_alike s ready (Byte a n) b f = refl
put_alike s ready (PastEnd n) b f = refl

-- a read keeps the flash
get_keeps : (u : Setup) (d : Device) (p : ℕ) (f : List ℕ) → (get_byte u d.link p f).flash ≡ f
unfolding get_byte
get_keeps u d p f = by_test (out_ready d.link) (λ e. rw e) (λ e. rw e)

does_flash : (u : Setup) (e : Effect) (d : Device) (p : ℕ) (f : List ℕ) → (frame_does u e d p f).flash ≡ effect_flash u.settings e d f
unfolding frame_does put_byte
does_flash u Nothing d p f = refl
does_flash u (SetAddress a) d p f = refl
does_flash u (Write b) d p f =
    by_test (linked u.settings d) (λ e. rw e (put_alike u.settings (prepared u.wanted d.met) d.link.command b f)) (λ e. rw e)
does_flash u CountDown d p f = refl
does_flash u Read d p f = by_test (linked u.settings d) (λ e. rw e (get_keeps u d p f)) (λ e. rw e)

-- a strobe changes the flash as the code does
pub strobed_flash : (u : Setup) (p : Point) (t : Target) (f : List ℕ) (x : Step) → (strobed_at u p t f x).flash ≡ strobe_flash u.settings p t.device f
unfolding strobed_at
strobed_flash u Start t f x = refl
strobed_flash u (Ins n v) t f x = refl
strobed_flash u (WriteLength n v) t f x = refl
strobed_flash u (ReadLength n v) t f x = refl
strobed_flash u (Address n v) t f x = refl
strobed_flash u (Data n v) t f x = refl
strobed_flash u (LongData n) t f x = refl
strobed_flash u (Wait n e) t f x = refl
strobed_flash u (Waiting z n e) t f x = refl
strobed_flash u (Send n v e) t f x = refl
strobed_flash u (Stop e) t f x = does_flash u e t.device t.place f

-- The acts of a page against the target, from where the session comes to them.
use mathlib.Core.Path.{◌≡◌, refl, sym, ap, ◌∙◌, subst}
use mathlib.Core.Bool.{true, false, cond}
use mathlib.Core.List.{List, [], ◌∷◌, ◌++◌, append_assoc, append-nil}
use Prim.Native.Nat.{ℕ, suc, ◌+◌, ◌*◌, ◌<◌, ◌≤◌}
use native.Mathlib.Nat.{mul-le-mul_right, mul-le-mul_left}
use native.Mathlib.Omega.{arith}
use lib.Dec.{eqb}
use lib.ListN.{length, take, drop, replicate, length-drop, length-replicate, take-append-drop, drop_of_length-le}
use lib.Seq.{take_all, drop-drop, length-take-le}
use Rattle.numbers.specs.Numbers.{done}
use Rattle.c2_wire.specs.Exchange.{Outcome, outcome}
use Rattle.settings.specs.declared.Settings.{Settings}
use Rattle.c2_order.specs.Acts.{Act, address_write, erase}
use Rattle.c2_order.specs.Order.{Page, page_acts}
use Rattle.c2_order.specs.Conversation.{limits, conversation}
use Rattle.c2_target.specs.declared.Command.TheVariants.{Ready}
use Rattle.c2_target.specs.declared.Output.TheVariants.{Empty}
use Rattle.c2_target.specs.declared.Met.{Met}
use Rattle.c2_target.specs.declared.Target.{Target}
use Rattle.c2_target.specs.Delays.{Setup}
use Rattle.c2_target.specs.Interface.{link, device, begun, prepared, frame_does}
use Rattle.c2_play.proofs.Laws.Frames.{idle, leads, address_write_leads, address_write_says}
use Rattle.c2_play.proofs.Laws.Interface.{Fit, at_fpdat, Kept, Good, now}
use Rattle.c2_play.specs.Pages.{with_page}
use Rattle.c2_play.proofs.Laws.Named.{Fits}
use Rattle.c2_play.proofs.Laws.Leads.{Leads}
use Rattle.c2_play.proofs.Laws.Pages.{page_good}

-- The target between two commands: no frame, no mark, the interface on, these wanted pairs met, no command or
-- output. No key write is counted once another frame has begun.
pub record Between (m : Met) (t : Target) : Type 0 where
  pub place : ℕ
  pub address : ℕ
  pub keys : ℕ
  pub late : ℕ
  pub is : t ≡ idle place false (device address true keys m (link Ready Empty 0 late))
  pub few : late < 256
  pub unkeyed : cond (eqb keys 3) 0 keys ≡ 0

-- the bytes of a page that is erased, of which k are written
abbrev pub part : (size : ℕ) → Page → ℕ → List ℕ
part size p k = take k p.bytes ++ drop k (replicate size 0xff)

-- The flash while a page is under way: as it was, or with the page erased and k of its bytes written.
pub data Mid (size : ℕ) (p : Page) (f F : List ℕ) : Type 0 where
  untouched : F ≡ f → Mid size p f F
  written : (k : ℕ) → F ≡ with_page size p.number (part size p k) f → Mid size p f F

-- After a page the target is between two commands, and the flash holds the page.
pub record Held (m : Met) (size : ℕ) (p : Page) (f : List ℕ) (t : Target) (F : List ℕ) : Type 0 where
  pub between : Between m t
  pub holds : F ≡ with_page size p.number p.bytes f

-- with all of its bytes written the page is its part of the image
pub part_whole : (s : Settings) (p : Page) → Fits s p → part s.size p s.size ≡ p.bytes
part_whole s p fits =
    ap (λ (x : List ℕ). x ++ drop s.size (replicate s.size 0xff)) (take_all s.size p.bytes (omega (arith, fits.whole)))
    ∙ ap (λ (x : List ℕ). p.bytes ++ x) (drop_of_length-le (replicate s.size 0xff) {i = s.size} (rw length-replicate (omega arith)))
    ∙ append-nil p.bytes

pub page_kept : (m : Met) (s : Settings) (p : Page) (f : List ℕ) → Fits s p → Kept (Mid s.size p f) (Held m s.size p f)
page_kept m s p f fits =
    record { last = λ t F h. written s.size (h.holds ∙ ap (λ (x : List ℕ). with_page s.size p.number x f) (sym (part_whole s p fits))) }

module _ (u : Setup) (l r : ℕ) (fit : Fit u l r) (m : Met) where
  -- an act that addresses FPDAT runs well from wherever the session comes to it
  pub begin_leads : (end : Outcome) (J : List ℕ → Type 0) (Z : Target → List ℕ → Type 0) (kept : Kept J Z) (acts : List Act) (t : Target) (f : List ℕ) → Between m t
      → Good u l r fit m end J Z kept (address_write u.settings.fpdat ∷ acts) Ready Empty f
      → leads u end J Z (conversation (limits l r) (address_write u.settings.fpdat ∷ acts)) t f
  unfolding Good conversation frame_does begun
  begin_leads end J Z kept acts t f b g =
      let lk = link Ready Empty 0 b.late in
      let h : leads u end J Z (conversation (limits l r) acts) (idle b.place false (at_fpdat u m lk)) f =
      address_write_says u end J Z l u.settings.fpdat _ b.place false (at_fpdat u m lk) f fit.high (g b.late b.place b.few) in
      rw b.is
      (address_write_leads u end J Z l u.settings.fpdat _ b.place false (device b.address true b.keys m lk) f fit.high
      (now u l r fit m end J Z kept _ _ _ h) (rw b.unkeyed h))

  module _ (ready : prepared u.wanted m ≡ true) (B : ℕ) (whole : u.settings.size ≡ 256 * B) (some : 1 ≤ B) (few : u.settings.size * u.settings.count ≤ 65536) where
    abbrev size : ℕ
    size = u.settings.size

    page_alone : (p : Page) (f : List ℕ) (fits : Fits u.settings p) → length f ≡ size * u.settings.count
        → Good u l r fit m (outcome done) (Mid size p f) (Held m size p f) (page_kept m u.settings p f fits) (page_acts u.settings p) Ready Empty f
    unfolding Good conversation Leads with_page
    page_alone p f fits ef =
        let n : ℕ = p.number in
        let J = Mid size p f in
        let Z = Held m size p f in
        let end = outcome done in
        let kept = page_kept m u.settings p f fits in
        let A : List ℕ = take (n * size) f in
        let old : List ℕ = take size (drop (n * size) f) in
        let W : List ℕ = drop (n * size + size) f in
        let inside : suc n * size ≤ u.settings.count * size = mul-le-mul_right size fits.number in
        let pages : u.settings.count * 256 ≤ u.settings.count * size = mul-le-mul_left u.settings.count (omega arith) in
        let parts : A ++ (old ++ W) ≡ f =
        ap (λ (x : List ℕ). A ++ (old ++ x)) (sym (drop-drop size (n * size) f))
        ∙ ap (λ (x : List ℕ). A ++ x) (take-append-drop size (drop (n * size) f))
        ∙ take-append-drop (n * size) f in
        let wA : length A ≡ n * size = length-take-le (n * size) f (omega arith) in
        let wo : length old ≡ size = length-take-le size (drop (n * size) f) (rw length-drop (omega arith)) in
        let last : Good u l r fit m end J Z kept [] Ready Empty (A ++ (p.bytes ++ W)) =
        λ t q ht. (refl, record { between = record { place = q; address = u.settings.fpdat; keys = 0; late = t; is = refl; few = ht; unkeyed = refl }; holds = refl }) in
        let g = page_good u l r fit m end J Z kept ready B whole p A old W [] wA wo fits.number (omega arith) (omega arith) fits.whole fits.bytes
        (untouched parts) (λ k. written k (ap (λ (x : List ℕ). A ++ x) (sym (append_assoc (take k p.bytes) (drop k (replicate size 0xff)) W)))) last in
        subst (λ (x : List ℕ). Good u l r fit m end J Z kept (page_acts u.settings p) Ready Empty x) parts
        (subst (λ (x : List Act). Good u l r fit m end J Z kept x Ready Empty (A ++ (old ++ W))) (append-nil (page_acts u.settings p)) g)

    pub page_leads : (p : Page) (t : Target) (f : List ℕ) → Between m t → Fits u.settings p → length f ≡ size * u.settings.count
        → leads u (outcome done) (Mid size p f) (Held m size p f) (conversation (limits l r) (page_acts u.settings p)) t f
    unfolding page_acts erase
    page_leads p t f b fits ef = begin_leads (outcome done) (Mid size p f) (Held m size p f) (page_kept m u.settings p f fits) _ t f b (page_alone p f fits ef)

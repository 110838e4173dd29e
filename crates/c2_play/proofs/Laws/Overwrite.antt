-- A page that is written without an erase (request n): over old bytes that need no bit raised. On the way it
-- is the first k bytes of the new page and the old ones after them, and these again need no bit raised.
use mathlib.Core.Path.{◌≡◌, refl, sym, ap, ◌∙◌, subst, subst⁻¹}
use mathlib.Core.Bool.{true}
use mathlib.Core.List.{List, [], ◌∷◌, ◌++◌, map, append_assoc, append-nil}
use Prim.Native.Nat.{ℕ, zero, suc, ◌+◌, ◌-◌, ◌*◌, ◌/◌, ◌≤◌}
use native.Mathlib.Omega.{arith}
use lib.Bits.{and_self}
use lib.ListN.{length, take, drop, length-drop, take-append-drop, drop_of_length-le}
use lib.Seq.{take_all, drop-drop, length-take-le}
use Rattle.numbers.specs.Numbers.{done}
use Rattle.c2_wire.specs.Exchange.{outcome}
use Rattle.settings.specs.declared.Settings.{Settings}
use Rattle.c2_order.specs.Acts.{Act, address_write, block_command, block_write, block_read}
use Rattle.c2_order.specs.Order.{Page, blocks, joined, page_blocks}
use Rattle.c2_order.specs.Conversation.{limits, conversation}
use Rattle.c2_target.specs.declared.Command.TheVariants.{Ready}
use Rattle.c2_target.specs.declared.Output.TheVariants.{Empty}
use Rattle.c2_target.specs.declared.Met.{Met}
use Rattle.c2_target.specs.declared.Target.{Target}
use Rattle.c2_target.specs.Delays.{Setup}
use Rattle.c2_target.specs.Interface.{prepared}
use Rattle.c2_play.proofs.Laws.Interface.{Fit, Kept, Good}
use Rattle.c2_play.proofs.Laws.Covers.{Covers}
use Rattle.c2_play.specs.Pages.{page_of, with_page}
use Rattle.c2_play.proofs.Laws.Named.{Fits, page_inside}
use Rattle.c2_play.proofs.Laws.Leads.{Leads}
use Rattle.c2_play.proofs.Laws.Frames.{leads}
use Rattle.c2_play.proofs.Laws.Pages.{writes_good, reads_good}
use Rattle.c2_play.proofs.Laws.Page.{Between, Held, begin_leads}

-- the acts of a page that is written without an erase: its blocks are written and read back
unfoldable pub write_acts : Settings → Page → List Act
write_acts s p = joined (map (block_write s.fpdat) (page_blocks s p)) ++ joined (map (block_read s.fpdat) (page_blocks s p))

-- a page that is cut anywhere while it is written may be written again
pub covers_part : (k : ℕ) (os bs : List ℕ) → Covers os bs → Covers (take k bs ++ drop k os) bs
unfolding Covers
covers_part zero os bs h = h
covers_part (suc k) [] [] h = tt
covers_part (suc k) [] (b ∷ bs) h = absurd h
covers_part (suc k) (o ∷ os) [] h = absurd h
covers_part (suc k) (o ∷ os) (b ∷ bs) h = (and_self b, covers_part k os bs h.1)

pub record OverOld (size : ℕ) (p : Page) (f F : List ℕ) : Type 0 where
  pub count : ℕ
  pub is : F ≡ with_page size p.number (take count p.bytes ++ drop count (page_of size p.number f)) f

pub written_kept : (m : Met) (s : Settings) (p : Page) (f : List ℕ) → Fits s p → length (page_of s.size p.number f) ≡ s.size
    → Kept (OverOld s.size p f) (Held m s.size p f)
written_kept m s p f fits eo =
    let old = page_of s.size p.number f in
    let all : take s.size p.bytes ++ drop s.size old ≡ p.bytes =
    ap (λ (x : List ℕ). x ++ drop s.size old) (take_all s.size p.bytes (omega (arith, fits.whole)))
    ∙ ap (λ (x : List ℕ). p.bytes ++ x) (drop_of_length-le old {i = s.size} (omega arith))
    ∙ append-nil p.bytes in
    record { last = λ t F h. record { count = s.size; is = h.holds ∙ ap (λ (x : List ℕ). with_page s.size p.number x f) (sym all) } }

module _ (u : Setup) (l r : ℕ) (fit : Fit u l r) (m : Met) (ready : prepared u.wanted m ≡ true) (B : ℕ) (whole : u.settings.size ≡ 256 * B)
    (some : 1 ≤ B) (few : u.settings.size * u.settings.count ≤ 65536) where
  abbrev size : ℕ
  size = u.settings.size

  old_length : (p : Page) (f : List ℕ) → Fits u.settings p → length f ≡ size * u.settings.count → length (page_of size p.number f) ≡ size
  old_length p f fits ef = length-take-le size (drop (p.number * size) f) (rw length-drop (omega (arith, page_inside u.settings p f fits ef)))

  written_alone : (p : Page) (f : List ℕ) (fits : Fits u.settings p) (ef : length f ≡ size * u.settings.count)
      → Covers (page_of size p.number f) p.bytes
      → Good u l r fit m (outcome done) (OverOld size p f) (Held m size p f) (written_kept m u.settings p f fits (old_length p f fits ef)) (write_acts u.settings p) Ready Empty f
  unfolding Good conversation Leads with_page write_acts
  written_alone p f fits ef cs =
      let n : ℕ = p.number in
      let J = OverOld size p f in
      let Z = Held m size p f in
      let end = outcome done in
      let kept = written_kept m u.settings p f fits (old_length p f fits ef) in
      let A : List ℕ = take (n * size) f in
      let old : List ℕ = page_of size n f in
      let W : List ℕ = drop (n * size + size) f in
      let inside = page_inside u.settings p f fits ef in
      let em : 256 * (size / 256) ≡ size = omega arith in
      let parts : A ++ (old ++ W) ≡ f =
      ap (λ (x : List ℕ). A ++ (old ++ x)) (sym (drop-drop size (n * size) f))
      ∙ ap (λ (x : List ℕ). A ++ x) (take-append-drop size (drop (n * size) f))
      ∙ take-append-drop (n * size) f in
      let wA : length A ≡ n * size = length-take-le (n * size) f (omega arith) in
      let wr : List Act = joined (map (block_write u.settings.fpdat) (page_blocks u.settings p)) in
      let rd : List Act = joined (map (block_read u.settings.fpdat) (page_blocks u.settings p)) in
      let last : Good u l r fit m end J Z kept [] Ready Empty (A ++ (p.bytes ++ W)) =
      λ t q ht. (refl, record { between = record { place = q; address = u.settings.fpdat; keys = 0; late = t; is = refl; few = ht; unkeyed = refl }; holds = refl }) in
      let g = writes_good u l r fit m end J Z kept ready (size / 256) (n * size) p.offset A p.bytes old W (rd ++ []) wA (omega arith) (omega (arith, fits.whole)) fits.bytes cs
      (λ k. record { count = k; is = ap (λ (x : List ℕ). A ++ x) (sym (append_assoc (take k p.bytes) (drop k old) W)) })
      (reads_good u l r fit m end J Z kept ready (size / 256) (n * size) p.offset A p.bytes W [] wA (omega arith) (omega (arith, fits.whole)) fits.bytes last) in
      subst (λ (x : List ℕ). Good u l r fit m end J Z kept (wr ++ rd) Ready Empty x) parts
      (subst (λ (x : List Act). Good u l r fit m end J Z kept (wr ++ x) Ready Empty (A ++ (old ++ W))) (append-nil rd) g)

  -- the acts of a page that is written without an erase begin by addressing FPDAT
  starts : (p : Page) (n : ℕ) → size / 256 ≡ suc n → (acts : List Act) × (write_acts u.settings p ≡ address_write u.settings.fpdat ∷ acts)
  unfolding write_acts blocks joined block_write block_command
  starts p n e =
      let b = p.number * size in (
        (_),
        ap (λ (m : ℕ). joined (map (block_write u.settings.fpdat) (blocks m b p.offset p.bytes))
            ++ joined (map (block_read u.settings.fpdat) (blocks m b p.offset p.bytes))) e,
      )

  pub written_leads : (p : Page) (t : Target) (f : List ℕ) → Between m t → Fits u.settings p → length f ≡ size * u.settings.count
      → Covers (page_of size p.number f) p.bytes
      → leads u (outcome done) (OverOld size p f) (Held m size p f) (conversation (limits l r) (write_acts u.settings p)) t f
  written_leads p t f b fits ef cs =
      let kept = written_kept m u.settings p f fits (old_length p f fits ef) in
      let some_blocks : size / 256 ≡ suc (B - 1) = omega arith in
      let x = starts p (B - 1) some_blocks in
      subst⁻¹ (λ (acts : List Act). leads u (outcome done) (OverOld size p f) (Held m size p f) (conversation (limits l r) acts) t f) x.1
      (begin_leads u l r fit m (outcome done) (OverOld size p f) (Held m size p f) kept x.0 t f b
      (subst (λ (acts : List Act). Good u l r fit m (outcome done) (OverOld size p f) (Held m size p f) kept acts Ready Empty f) x.1 (written_alone p f fits ef cs)))

-- A device that is not prepared turns the first erase away: the session ends with 13, and the flash is as
-- before.
use mathlib.Core.Path.{◌≡◌, refl, ◌∙◌, subst⁻¹}
use mathlib.Core.Bool.{false}
use mathlib.Core.List.{List, ◌++◌, map}
use Prim.Native.Nat.{ℕ}
use native.Mathlib.Omega.{arith}
use Rattle.numbers.specs.Numbers.{bad_status}
use Rattle.c2_wire.specs.Exchange.{Exchange, Outcome, outcome}
use Rattle.settings.specs.Registers.{pairs_of, leave_all}
use Rattle.c2_order.specs.Acts.{Act, put, get, status, erase, block_write, block_read}
use Rattle.c2_order.specs.Order.{Page, joined, page_blocks, preparation, page_acts}
use Rattle.c2_order.specs.Conversation.{limits, conversation}
use Rattle.c2_target.specs.declared.Command.TheVariants.{Ready}
use Rattle.c2_target.specs.declared.Output.TheVariants.{Empty, Status}
use Rattle.c2_target.specs.declared.Met.{Met}
use Rattle.c2_target.specs.declared.Target.{Target}
use Rattle.c2_target.specs.Delays.{Setup}
use Rattle.c2_target.specs.Commands.{opens, takes_put, some_output, first_byte, other_bytes}
use Rattle.c2_target.specs.Interface.{prepared}
use Rattle.c2_target.specs.Target.{stepped}
use Rattle.c2_target.proofs.Laws.Wanted.{prepared_is}
use Rattle.c2_play.proofs.Laws.Onto.{onto_acts}
use Rattle.c2_play.proofs.Laws.Leads.{onto_leads}
use Rattle.c2_play.proofs.Laws.Frames.{leads}
use Rattle.c2_play.proofs.Laws.Interface.{Fit, Kept, Good, put_good, get_ends, address_good}
use Rattle.c2_play.proofs.Laws.Refuses.{refuses_preparation}
use Rattle.c2_play.proofs.Laws.Page.{begin_leads}
use Rattle.c2_play.proofs.Laws.Lead.{Led, met_by_pairs, preparation_leads}

-- no mark, and this flash
pub record Turned (f : List ℕ) (t : Target) (F : List ℕ) : Type 0 where
  pub clean : t.collision ≡ false
  pub same : F ≡ f

turned_kept : (f : List ℕ) → Kept (λ F. F ≡ f) (Turned f)
turned_kept f = record { last = λ t F h. h.same }

module _ (u : Setup) (l r : ℕ) (fit : Fit u l r) where
  abbrev conv : List Act → Exchange
  conv acts = conversation (limits l r) acts

  abbrev with_13 : Outcome
  with_13 = outcome bad_status

  -- the command byte of an erase gets status 0x00
  erase_ends : (m : Met) → prepared u.wanted m ≡ false → (page : ℕ) (acts : List Act) (f g : List ℕ) → g ≡ f
      → Good u l r fit m with_13 (λ F. F ≡ f) (Turned f) (turned_kept f) (erase u.settings.fpdat page ++ acts) Ready Empty g
  unfolding erase put status get takes_put opens some_output first_byte other_bytes
  erase_ends m off page acts f g e =
      let J : List ℕ → Type 0 = λ F. F ≡ f in
      let Z = Turned f in
      let kept = turned_kept f in
      address_good u l r fit m with_13 J Z kept _ _ _ _
      (put_good u l r fit m with_13 J Z kept 0x08 _ _ _ _ (omega arith) e
      (rw off
      (get_ends u l r fit m with_13 J Z kept 0x0d _ Ready (Status false) g refl (omega arith) refl e
      (λ t p. record { clean = refl; same = e }))))

  -- whatever follows the first page's erase
  pub lead_turned_away : leave_all (pairs_of u.settings.pairs) (pairs_of u.wanted) ≡ false
      → (p : Page) (acts : List Act) (t : Target) (f : List ℕ) → t.collision ≡ false
      → leads u with_13 (λ F. F ≡ f) (Turned f) (conv (preparation u.settings ++ (page_acts u.settings p ++ acts))) t f
  unfolding page_acts erase put status get
  lead_turned_away differs p acts t f hm =
      let s = u.settings in
      let m : Met = met_by_pairs u in
      let J : List ℕ → Type 0 = λ F. F ≡ f in
      let off : prepared u.wanted m ≡ false = prepared_is s.fpdat u.wanted (pairs_of s.pairs) fit.wanted ∙ differs in
      let A : List Act = preparation s in
      let X : List Act = page_acts s p ++ acts in
      let wr : List Act = joined (map (block_write s.fpdat) (page_blocks s p)) in
      let rd : List Act = joined (map (block_read s.fpdat) (page_blocks s p)) in
      let rest : List Act = (wr ++ rd) ++ acts in
      subst⁻¹ (λ (e : Exchange). leads u with_13 J (Turned f) e t f) (onto_acts (limits l r) A X (refuses_preparation s))
      (onto_leads (stepped u) with_13 J (Led m f) (Turned f) (conv A) (conv X) t f (preparation_leads u l r fit t f hm)
      (λ t₁ f₁ y. begin_leads u l r fit m with_13 J (Turned f) (turned_kept f) _ t₁ f₁ y.between (erase_ends m off p.number rest f f₁ y.same)))

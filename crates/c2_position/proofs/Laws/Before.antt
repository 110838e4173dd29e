-- The acts from a point of a session on are the end of its order: some acts of the order stand before them.
use mathlib.Core.Path.{◌≡◌, sym, ap, ◌∙◌}
use mathlib.Core.List.{List, [], ◌++◌, append_assoc}
use Prim.Native.Nat.{ℕ, zero, suc, ◌/◌, ◌<◌, ◌≤◌}
use native.Mathlib.Nat.{mul-div_cancel}
use native.Mathlib.Omega.{arith}
use lib.ListN.{length, take, drop, take-append-drop}
use Rattle.c2_order.specs.Acts.{Act}
use Rattle.c2_order.specs.Order.{lead, preparation, order, session_order}
use Rattle.c2_acts.specs.declared.Stage.{Stage}
use Rattle.c2_acts.specs.declared.Stage.TheVariants.{Lead, Erase, Write, Read, Close, Register}
use Rattle.c2_session.specs.declared.Session.{Session}
use Rattle.c2_range.specs.Range.{pages_in, blocks_in}
use Rattle.c2_position.specs.Position.{page_list, stage_acts, pages_from, writes_from, reads_from, registers_from, after_stage, acts_from}
use Rattle.c2_position.proofs.Laws.Position.{Fits}
use Rattle.c2_position.proofs.Laws.Onward.{pages_on, pages_over, writes_then, reads_then, registers_on, registers_over}

-- acts that a list ends with
abbrev pub Ends : (all acts : List Act) → Type 0
Ends all acts = (before : List Act) × (before ++ acts ≡ all)

-- what a list ends with after some acts, it ends with
later : (all xs ys : List Act) → Ends all (xs ++ ys) → Ends all ys
later all xs ys h = (h.0 ++ xs, append_assoc h.0 xs ys ∙ h.1)

from_act : (all : List Act) (k : ℕ) (xs ys : List Act) → Ends all (xs ++ ys) → Ends all (drop k xs ++ ys)
from_act all k xs ys h =
    later all (take k xs) (drop k xs ++ ys)
    (h.0, ap (λ (z : List Act). h.0 ++ z) (sym (append_assoc (take k xs) (drop k xs) ys) ∙ ap (λ (z : List Act). z ++ ys) (take-append-drop k xs)) ∙ h.1)

module _ (s : Session) (image : List ℕ) (h : Fits s image) where
  abbrev all : List Act
  all = session_order s.settings s.first image

  abbrev B : ℕ
  B = s.settings.size / 256

  -- the order is the lead, then the pairs, and then the pages from the first on
  order_is : all ≡ lead s.settings ++ registers_from s image 0
  unfolding session_order order preparation registers_from pages_from page_list
  order_is =
      let n : length image / s.settings.size ≡ s.pages
      = ap (λ (m : ℕ). m / s.settings.size) h.whole ∙ mul-div_cancel s.pages (omega (arith, h.settings.size, h.settings.some)) in
      rw n (simp append_assoc)

  pub lead_first : acts_from Lead s image 0 0 0 ≡ all
  lead_first = sym order_is

  registers_end : (i : ℕ) → i ≤ s.settings.pairs.count → Ends all (registers_from s image i)
  registers_end zero g = later all (lead s.settings) (registers_from s image 0) ([], lead_first)
  registers_end (suc i) g =
      later all (stage_acts Register s image i 0) (registers_from s image (suc i)) (rw (registers_on s image h i (omega arith)) at (registers_end i (omega arith)))

  pages_end : (i : ℕ) → i ≤ s.pages → Ends all (pages_from s image i)
  pages_end zero g = rw (registers_over s image h s.settings.pairs.count (omega arith)) at (registers_end s.settings.pairs.count (omega arith))
  pages_end (suc i) g =
      let e = pages_on s image h i (omega arith) in
      let a = rw e at (pages_end i (omega arith)) in
      let b = later all (stage_acts Erase s image i 0) (after_stage Erase s image i 0) a in
      let c = later all (writes_from s image i 0) (reads_from s image i 0 ++ pages_from s image (suc i)) b in
      later all (reads_from s image i 0) (pages_from s image (suc i)) c

  erase_ends : (i : ℕ) → i < s.pages → Ends all (acts_from Erase s image i 0 0)
  erase_ends i g = rw (pages_on s image h i g) at (pages_end i (omega arith))

  writes_end : (i j : ℕ) → i < s.pages → j ≤ B → Ends all (writes_from s image i j ++ (reads_from s image i 0 ++ pages_from s image (suc i)))
  writes_end i zero gi gj = later all (stage_acts Erase s image i 0) (after_stage Erase s image i 0) (erase_ends i gi)
  writes_end i (suc j) gi gj =
      later all (stage_acts Write s image i j) (after_stage Write s image i j)
      (rw (writes_then s image h i j (omega arith)) at (writes_end i j gi (omega arith)))

  reads_end : (i j : ℕ) → i < s.pages → j ≤ B → Ends all (reads_from s image i j ++ pages_from s image (suc i))
  reads_end i zero gi gj = later all (writes_from s image i 0) (reads_from s image i 0 ++ pages_from s image (suc i)) (writes_end i 0 gi (omega arith))
  reads_end i (suc j) gi gj =
      later all (stage_acts Read s image i j) (after_stage Read s image i j)
      (rw (reads_then s image h i j (omega arith)) at (reads_end i j gi (omega arith)))

  -- a stage's acts, at a page and block of it, and those after them
  stage_ends : (g : Stage) (i j : ℕ) → i < pages_in g s.settings.pairs.count s.pages → j < blocks_in g s.settings.size → Ends all (stage_acts g s image i j ++ after_stage g s image i j)
  stage_ends Lead i j gi gj = ([], lead_first)
  stage_ends Erase i j gi gj = erase_ends i gi
  stage_ends Write i j gi gj = rw (writes_then s image h i j gj) at (writes_end i j gi (omega arith))
  stage_ends Read i j gi gj = rw (reads_then s image h i j gj) at (reads_end i j gi (omega arith))
  stage_ends Close i j gi gj = rw (pages_over s image h s.pages (omega arith)) at (pages_end s.pages (omega arith))
  stage_ends Register i j gi gj = rw (registers_on s image h i gi) at (registers_end i (omega arith))

  -- the order ends with the acts from any point of the session on
  pub acts_end : (g : Stage) (i j k : ℕ) → i < pages_in g s.settings.pairs.count s.pages → j < blocks_in g s.settings.size → Ends all (acts_from g s image i j k)
  acts_end g i j k gi gj = from_act all k (stage_acts g s image i j) (after_stage g s image i j) (stage_ends g i j gi gj)

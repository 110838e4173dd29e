-- What a command changes lies in pages 0 to 127; and after it there is still a module: its point is one that
-- there is, its flash as long as before.
use mathlib.Core.Path.{◌≡◌, refl}
use mathlib.Core.Bool.{Bool, true, false, cond, ◌&&◌}
use mathlib.Core.List.{List}
use Rattle.std.proofs.Common.{Option, Some, None}
use Prim.Native.Nat.{ℕ, ◌+◌, ◌≤◌, ◌<◌}
use native.Mathlib.Omega.{arith}
use lib.Dec.{eqb, ltb, leb}
use lib.ListN.{length, get_or}
use borrow.Author.Tests.{lt-ltb, ltb-false, eqb-false, le-leb}
use Rattle.std.proofs.lemmas.Bool.Decides.{nat_tests}
use Rattle.laws.proofs.Tests.{by_test}
use Rattle.radio_command.specs.declared.CommandName.{CommandName}
use Rattle.radio_command.specs.declared.CommandName.TheVariants.{RdSwVersion, InfSwVersion, RdFlashByte, WrFlashByte, RdFlashPage}
use Rattle.radio_command.specs.declared.CommandName.TheVariants.{WrFlashPage, RdPrgArea, WrPrgArea, InfOk, InfError, WrBlankChk, WrBist}
use Rattle.radio_command.specs.declared.CommandName.TheVariants.{WrPrgXram}
use Rattle.radio_command.specs.Command.{message_byte, name_of, command_sum}
use Rattle.radio_target.specs.declared.ModulePoint.TheVariants.{Takes}
use Rattle.radio_target.specs.declared.Deed.{Deed}
use Rattle.radio_flash.specs.Flash.{flash_address, in_program_area, is_protected, is_blank, erased_bytes, changed}
use Rattle.radio_flash.specs.Code.Changes.{in_area}
use Rattle.radio_flash.proofs.Laws.Flash.{page_set_long, byte_set_long, mass_erased_long}
use Rattle.radio_target.specs.Deeds.{answers_error, too_many, then_data, rd_flash_byte, wr_flash_byte, rd_flash_page, wr_flash_page}
use Rattle.radio_target.specs.Deeds.{rd_prg_area, wr_prg_area, wr_blank_chk, wr_prg_xram, deed}
use Rattle.radio_target.specs.Model.{deed_named, commanded, is_point}

abbrev pub Lies : Deed → Type 0
Lies d = in_area d.change ≡ true

-- whichever way a test goes
either : (t : Bool) (x y : Deed) → (t ≡ true → Lies x) → (t ≡ false → Lies y) → Lies (cond t x y)
either true x y f g = f refl
either false x y f g = g refl

pub deed_lies : (n : CommandName) (p0 p1 p2 : ℕ) (f : List ℕ) → p1 < 256 → Lies (deed n p0 p1 p2 f)
unfolding rd_flash_byte wr_flash_byte rd_flash_page wr_flash_page rd_prg_area wr_prg_area wr_blank_chk wr_prg_xram
deed_lies RdSwVersion p0 p1 p2 f h = refl
deed_lies InfSwVersion p0 p1 p2 f h = refl
deed_lies RdFlashByte p0 p1 p2 f h = either (in_program_area p0 && is_protected f) _ _ (λ _. refl) (λ _. either (ltb 128 p0) _ _ (λ _. refl) (λ _. refl))
deed_lies WrFlashByte p0 p1 p2 f h =
    either (eqb p0 128) _ _ (λ _. refl) (λ a. either (ltb 128 p0) _ _ (λ _. refl) (λ b. either (in_program_area p0 && is_protected f) _ _ (λ _. refl)
    (λ _. either (eqb (get_or f (flash_address p0 p1) 0) 0xFF) _ _
    (λ _. let x : p0 ≤ 128 = ltb-false 128 p0 b in let y = eqb-false p0 128 a in let l : flash_address p0 p1 < 32768 = omega arith in lt-ltb (flash_address p0 p1) 32768 l) (λ _. refl))))
deed_lies RdFlashPage p0 p1 p2 f h = either (in_program_area p0 && is_protected f) _ _ (λ _. refl) (λ _. either (ltb 128 p0) _ _ (λ _. refl) (λ _. refl))
deed_lies WrFlashPage p0 p1 p2 f h =
    either (is_protected f) _ _ (λ _. refl) (λ _. either (eqb p0 128) _ _ (λ _. refl) (λ a. either (ltb 128 p0) _ _ (λ _. refl)
    (λ b. let x : p0 ≤ 128 = ltb-false 128 p0 b in let y = eqb-false p0 128 a in let l : p0 < 128 = omega arith in lt-ltb p0 128 l)))
deed_lies RdPrgArea p0 p1 p2 f h = either (is_protected f) _ _ (λ _. refl) (λ _. either (too_many p0 127) _ _ (λ _. refl) (λ _. refl))
deed_lies WrPrgArea p0 p1 p2 f h = either (is_protected f) _ _ (λ _. refl) (λ _. either (too_many p0 127) _ _ (λ _. refl) (λ _. refl))
deed_lies InfOk p0 p1 p2 f h = refl
deed_lies InfError p0 p1 p2 f h = refl
deed_lies WrBlankChk p0 p1 p2 f h = either (is_blank f) _ _ (λ _. refl) (λ _. refl)
deed_lies WrBist p0 p1 p2 f h = refl
deed_lies WrPrgXram p0 p1 p2 f h = either (is_protected f) _ _ (λ _. refl) (λ _. either (too_many p0 4) _ _ (λ _. refl) (λ _. refl))

named_lies : (n : Option CommandName) (p0 p1 p2 : ℕ) (f : List ℕ) → p1 < 256 → Lies (deed_named n p0 p1 p2 f)
named_lies (Some n) p0 p1 p2 f h = deed_lies n p0 p1 p2 f h
named_lies None p0 p1 p2 f h = refl

pub commanded_lies : (m f : List ℕ) → message_byte m 5 < 256 → Lies (commanded m f)
unfolding commanded
commanded_lies m f h =
    either (eqb (message_byte m 7) (command_sum (message_byte m 2) (message_byte m 3) (message_byte m 4) (message_byte m 5) (message_byte m 6))) _ _
    (λ _. named_lies (name_of (message_byte m 3)) (message_byte m 4) (message_byte m 5) (message_byte m 6) f h) (λ _. refl)

-- pages that there are
pub spans : (p n k : ℕ) → 1 ≤ n → p + n ≤ k → leb 1 n && leb (p + n) k ≡ true
spans p n k a b = grind (arith, nat_tests)

-- a number of pages that is not too many
few : (n most : ℕ) → too_many n most ≡ false → (1 ≤ n) × (n ≤ most)
few n most e = grind (arith, nat_tests)

module _ (f : List ℕ) (w : length f ≡ 33024) where
  abbrev Stays : Deed → Type 0
  Stays d = (is_point d.point ≡ true) × (length (changed d.change f) ≡ 33024)

  whichever : (t : Bool) (x y : Deed) → (t ≡ true → Stays x) → (t ≡ false → Stays y) → Stays (cond t x y)
  whichever true x y g h = g refl
  whichever false x y g h = h refl

  -- the point after an erase
  after_erase : (e p n : ℕ) → is_point (Takes p n) ≡ true → is_point (then_data e p n) ≡ true
  after_erase e p n h = by_test (eqb e 0x01) (λ t. rw t) (λ t. rw t h)

  still : Stays (answers_error 0)
  still = (refl, w)

  deed_stays : (n : CommandName) (p0 p1 p2 : ℕ) → Stays (deed n p0 p1 p2 f)
  unfolding rd_flash_byte wr_flash_byte rd_flash_page wr_flash_page rd_prg_area wr_prg_area wr_blank_chk wr_prg_xram
  deed_stays RdSwVersion p0 p1 p2 = still
  deed_stays InfSwVersion p0 p1 p2 = still
  deed_stays RdFlashByte p0 p1 p2 =
      whichever (in_program_area p0 && is_protected f) _ _ (λ _. still) (λ _. whichever (ltb 128 p0) _ _ (λ _. still) (λ _. still))
  deed_stays WrFlashByte p0 p1 p2 =
      whichever (eqb p0 128) _ _ (λ _. still) (λ _. whichever (ltb 128 p0) _ _ (λ _. still)
      (λ _. whichever (in_program_area p0 && is_protected f) _ _ (λ _. still)
      (λ _. whichever (eqb (get_or f (flash_address p0 p1) 0) 0xFF) _ _ (λ _. (refl, byte_set_long (flash_address p0 p1) p2 f w)) (λ _. still))))
  deed_stays RdFlashPage p0 p1 p2 =
      whichever (in_program_area p0 && is_protected f) _ _ (λ _. still) (λ _. whichever (ltb 128 p0) _ _ (λ _. still)
      (λ b. let x = ltb-false 128 p0 b in (spans p0 1 129 (omega arith) (omega (arith, x)), w)))
  deed_stays WrFlashPage p0 p1 p2 =
      whichever (is_protected f) _ _ (λ _. still) (λ _. whichever (eqb p0 128) _ _ (λ _. still) (λ a. whichever (ltb 128 p0) _ _ (λ _. still)
      (λ b. let x = ltb-false 128 p0 b in let y = eqb-false p0 128 a in let l : p0 < 128 = omega (arith, x, y) in
      (after_erase p1 p0 1 (spans p0 1 128 (omega arith) (omega (arith, l))), page_set_long p0 (erased_bytes 256) f l refl w))))
  deed_stays RdPrgArea p0 p1 p2 =
      whichever (is_protected f) _ _ (λ _. still) (λ _. whichever (too_many p0 127) _ _ (λ _. still)
      (λ b. let x = few p0 127 b in (spans 0 p0 129 x.0 (omega (arith, x.1)), w)))
  deed_stays WrPrgArea p0 p1 p2 =
      whichever (is_protected f) _ _ (λ _. still) (λ _. whichever (too_many p0 127) _ _ (λ _. still)
      (λ b. let x = few p0 127 b in (after_erase p1 0 p0 (spans 0 p0 128 x.0 (omega (arith, x.1))), mass_erased_long f w)))
  deed_stays InfOk p0 p1 p2 = still
  deed_stays InfError p0 p1 p2 = still
  deed_stays WrBlankChk p0 p1 p2 = whichever (is_blank f) _ _ (λ _. still) (λ _. still)
  deed_stays WrBist p0 p1 p2 = still
  deed_stays WrPrgXram p0 p1 p2 =
      whichever (is_protected f) _ _ (λ _. still) (λ _. whichever (too_many p0 4) _ _ (λ _. still)
      (λ b. let x = few p0 4 b in (rw (le-leb 1 p0 x.0, le-leb p0 4 x.1), w)))

  named_stays : (n : Option CommandName) (p0 p1 p2 : ℕ) → Stays (deed_named n p0 p1 p2 f)
  named_stays (Some n) p0 p1 p2 = deed_stays n p0 p1 p2
  named_stays None p0 p1 p2 = still

pub commanded_stays : (m f : List ℕ) → length f ≡ 33024 → (is_point (commanded m f).point ≡ true) × (length (changed (commanded m f).change f) ≡ 33024)
unfolding commanded
commanded_stays m f w =
    whichever f w (eqb (message_byte m 7) (command_sum (message_byte m 2) (message_byte m 3) (message_byte m 4) (message_byte m 5) (message_byte m 6))) _ _
    (λ _. named_stays f w (name_of (message_byte m 3)) (message_byte m 4) (message_byte m 5) (message_byte m 6)) (λ _. still f w)

-- The flash on the way of a job: its length, its protection, its pages, and what the messages make of it.
use mathlib.Core.Path.{◌≡◌, refl, sym, ap, ◌∙◌}
use mathlib.Core.Bool.{false}
use mathlib.Core.List.{List, [], ◌∷◌, ◌++◌, append_assoc}
use Prim.Native.Nat.{ℕ, suc, ◌+◌, ◌*◌, ◌-◌, ◌≤◌, ◌<◌}
use native.Mathlib.Omega.{arith}
use lib.Dec.{eqb}
use lib.ListN.{length, take, drop, get_or, set, replicate, length-append, length-replicate, length-drop}
use lib.ListN.{replicate-append-replicate}
use lib.Seq.{take_at, drop_at, take-add, take_all, take-append-le, drop-append-le, length-take-le}
use borrow.Author.Tests.{ne_eqb}
use Rattle.radio_flash.specs.Flash.{erased_bytes, flash_page, is_protected, page_set, byte_set, mass_erased}
use Rattle.radio_job.specs.Image.{page_count, padded, image_page}
use Rattle.radio_job.proofs.Laws.Image.{padded_long}
use Rattle.radio_play.specs.Flashes.{flash_with, flash_fed}
use Rattle.radio_play.proofs.Laws.Lists.{get_second, set_second}

erased_split : (m n k : ℕ) → m + n ≡ k → erased_bytes k ≡ erased_bytes m ++ erased_bytes n
erased_split m n k e = sym (replicate-append-replicate {A = ℕ} m n 0xFF ∙ ap (λ (i : ℕ). replicate i 0xFF) e)

-- a page of the program area set where an old one stood
page_replaced : (i : ℕ) (xs old bs ys : List ℕ) → length xs ≡ 256 * i → length old ≡ 256 → (i ≡ 127 → ⊥)
    → page_set i bs (xs ++ (old ++ ys)) ≡ xs ++ (bs ++ ys)
unfolding page_set
page_replaced i xs old bs ys a b n =
    let t : length xs ≡ 256 * i + 0 = omega arith in
    let j = length-append xs old in
    let d : length (xs ++ old) ≡ 256 * i + 256 = omega arith in
    rw (ne_eqb i 127 n)
    (ap (λ (l : List ℕ). l ++ (bs ++ drop (256 * i + 256) (xs ++ (old ++ ys)))) (take_at xs (old ++ ys) (256 * i + 0) t)
    ∙ ap (λ (l : List ℕ). xs ++ (bs ++ l)) (ap (λ (l : List ℕ). drop (256 * i + 256) l) (sym (append_assoc xs old ys)) ∙ drop_at (xs ++ old) ys (256 * i + 256) d))

-- the configuration set as a page keeps its first four bytes
configuration_replaced : (x : List ℕ) (a b c d : ℕ) (rest bs info : List ℕ) → length x ≡ 32512 → length rest ≡ 252
    → page_set 127 bs (x ++ (a ∷ b ∷ c ∷ d ∷ (rest ++ info))) ≡ x ++ (a ∷ b ∷ c ∷ d ∷ (drop 4 bs ++ info))
unfolding page_set
configuration_replaced x a b c d rest bs info w l =
    let four : List ℕ = a ∷ b ∷ c ∷ d ∷ [] in
    let i = length-append x four in
    let m : length (x ++ four) ≡ 32516 = omega arith in
    let j = length-append (x ++ four) rest in
    let n : length ((x ++ four) ++ rest) ≡ 32768 = omega arith in
    let f1 : x ++ (a ∷ b ∷ c ∷ d ∷ (rest ++ info)) ≡ (x ++ four) ++ (rest ++ info) = sym (append_assoc x four (rest ++ info)) in
    let f2 : x ++ (a ∷ b ∷ c ∷ d ∷ (rest ++ info)) ≡ ((x ++ four) ++ rest) ++ info = f1 ∙ sym (append_assoc (x ++ four) rest info) in
    ap (λ (t : List ℕ). t ++ (drop 4 bs ++ drop 32768 (x ++ (a ∷ b ∷ c ∷ d ∷ (rest ++ info))))) (ap (λ (t : List ℕ). take 32516 t) f1 ∙ take_at (x ++ four) (rest ++ info) 32516 m)
    ∙ ap (λ (t : List ℕ). (x ++ four) ++ (drop 4 bs ++ t)) (ap (λ (t : List ℕ). drop 32768 t) f2 ∙ drop_at ((x ++ four) ++ rest) info 32768 n)
    ∙ append_assoc x four (drop 4 bs ++ info)

module _ (im info : List ℕ) (few : page_count im ≤ 126) (wi : length info ≡ 256) where
  -- the program area with so many pages
  abbrev area : (pages : ℕ) → List ℕ
  area i = take (256 * i) (padded im) ++ erased_bytes (32512 - 256 * i)

  fed_long : (i : ℕ) → i ≤ page_count im → length (take (256 * i) (padded im)) ≡ 256 * i
  fed_long i h = let p = padded_long im in length-take-le (256 * i) (padded im) (omega arith)

  area_long : (i : ℕ) → i ≤ page_count im → length (area i) ≡ 32512
  area_long i h =
      let a = fed_long i h in
      let b = length-replicate {A = ℕ} (32512 - 256 * i) 0xFF in
      let c = length-append (take (256 * i) (padded im)) (erased_bytes (32512 - 256 * i)) in
      omega arith

  pub as_area : (i a b : ℕ) (t : List ℕ) → flash_with im i a b t info ≡ area i ++ (a ∷ b ∷ 0xFF ∷ 0xFF ∷ (t ++ info))
  unfolding flash_with
  as_area i a b t = sym (append_assoc (take (256 * i) (padded im)) (erased_bytes (32512 - 256 * i)) (a ∷ b ∷ 0xFF ∷ 0xFF ∷ (t ++ info)))

  pub with_long : (i a b : ℕ) (t : List ℕ) → i ≤ page_count im → length t ≡ 252 → length (flash_with im i a b t info) ≡ 33024
  with_long i a b t h l =
      let x = ap length (as_area i a b t) in
      let y = length-append (area i) (a ∷ b ∷ 0xFF ∷ 0xFF ∷ (t ++ info)) in
      let z = length-append t info in
      let w = area_long i h in
      omega arith

  -- configuration byte 1
  pub byte_1_is : (i a b : ℕ) (t : List ℕ) → i ≤ page_count im → get_or (flash_with im i a b t info) 0x7F01 0 ≡ b
  byte_1_is i a b t h =
      let w = area_long i h in
      ap (λ (f : List ℕ). get_or f 0x7F01 0) (as_area i a b t) ∙ get_second (area i) (a ∷ b ∷ 0xFF ∷ 0xFF ∷ (t ++ info)) 0x7F01 1 (omega arith)

  byte_0_is : (i a b : ℕ) (t : List ℕ) → i ≤ page_count im → get_or (flash_with im i a b t info) 0x7F00 0 ≡ a
  byte_0_is i a b t h =
      let w = area_long i h in
      ap (λ (f : List ℕ). get_or f 0x7F00 0) (as_area i a b t) ∙ get_second (area i) (a ∷ b ∷ 0xFF ∷ 0xFF ∷ (t ++ info)) 0x7F00 0 (omega arith)

  pub is_off : (i a b : ℕ) (t : List ℕ) → i ≤ page_count im → (b ≡ 0 → ⊥) → is_protected (flash_with im i a b t info) ≡ false
  unfolding is_protected
  is_off i a b t h n = ap (λ (z : ℕ). eqb z 0) (byte_1_is i a b t h) ∙ ne_eqb b 0 n

  -- the information page stays
  pub information_is : (i a b : ℕ) (t : List ℕ) → i ≤ page_count im → length t ≡ 252 → drop 32768 (flash_with im i a b t info) ≡ info
  information_is i a b t h l =
      let w = area_long i h in
      let c : List ℕ = a ∷ b ∷ 0xFF ∷ 0xFF ∷ t in
      let y = length-append (area i) c in
      let z : length (area i ++ c) ≡ 32768 = omega arith in
      ap (λ (f : List ℕ). drop 32768 f) (as_area i a b t ∙ sym (append_assoc (area i) c info)) ∙ drop_at (area i ++ c) info 32768 z

  -- one page more
  pub page_fed : (i a b : ℕ) (t : List ℕ) → i < page_count im → page_set i (image_page im i) (flash_with im i a b t info) ≡ flash_with im (suc i) a b t info
  unfolding flash_with image_page
  page_fed i a b t h =
      let xs = take (256 * i) (padded im) in
      let m = 32512 - 256 * suc i in
      let ys = erased_bytes m ++ (a ∷ b ∷ 0xFF ∷ 0xFF ∷ (t ++ info)) in
      let e : 256 + m ≡ 32512 - 256 * i = omega arith in
      let n : i ≡ 127 → ⊥ = λ z. omega arith in
      let z : 256 * i + 256 ≡ 256 * suc i = omega arith in
      let p = take 256 (drop (256 * i) (padded im)) in
      ap (λ (s : List ℕ). page_set i p (xs ++ s))
      (ap (λ (s : List ℕ). s ++ (a ∷ b ∷ 0xFF ∷ 0xFF ∷ (t ++ info))) (erased_split 256 m (32512 - 256 * i) e) ∙ append_assoc (erased_bytes 256) (erased_bytes m) (a ∷ b ∷ 0xFF ∷ 0xFF ∷ (t ++ info)))
      ∙ page_replaced i xs (erased_bytes 256) p ys (fed_long i (omega arith)) (length-replicate {A = ℕ} 256 0xFF) n
      ∙ sym (append_assoc xs p ys)
      ∙ ap (λ (s : List ℕ). s ++ ys) (sym (take-add (256 * i) 256 (padded im)) ∙ ap (λ (k : ℕ). take k (padded im)) z)

  -- a page that stands in the flash
  pub page_stands : (i a b : ℕ) (t : List ℕ) → i < page_count im → flash_page i (flash_with im (page_count im) a b t info) ≡ image_page im i
  unfolding flash_page flash_with image_page
  page_stands i a b t h =
      let p = padded_long im in
      let all : take (256 * page_count im) (padded im) ≡ padded im = take_all (256 * page_count im) (padded im) (omega arith) in
      let rest = erased_bytes (32512 - 256 * page_count im) ++ (a ∷ b ∷ 0xFF ∷ 0xFF ∷ (t ++ info)) in
      let x : 256 * i ≤ length (padded im) = omega arith in
      let d = length-drop (256 * i) (padded im) in
      let y : 256 ≤ length (drop (256 * i) (padded im)) = omega arith in
      ap (λ (s : List ℕ). take 256 (drop (256 * i) (s ++ rest))) all
      ∙ ap (λ (s : List ℕ). take 256 s) (drop-append-le (256 * i) (padded im) rest x)
      ∙ take-append-le 256 (drop (256 * i) (padded im)) rest y

  -- the configuration page erased or set, and its bytes 0 and 1
  pub configuration_page : (i a b : ℕ) (t bs : List ℕ) → i ≤ page_count im → length t ≡ 252
      → page_set 127 bs (flash_with im i a b t info) ≡ flash_with im i a b (drop 4 bs) info
  configuration_page i a b t bs h l =
      ap (page_set 127 bs) (as_area i a b t) ∙ configuration_replaced (area i) a b 0xFF 0xFF t bs info (area_long i h) l ∙ sym (as_area i a b (drop 4 bs))

  pub byte_0_set : (i a b v : ℕ) (t : List ℕ) → i ≤ page_count im → byte_set 32512 v (flash_with im i a b t info) ≡ flash_with im i v b t info
  unfolding byte_set
  byte_0_set i a b v t h =
      let w = area_long i h in
      ap (λ (f : List ℕ). set f 32512 v) (as_area i a b t) ∙ set_second (area i) (a ∷ b ∷ 0xFF ∷ 0xFF ∷ (t ++ info)) 32512 0 v (omega arith) ∙ sym (as_area i v b t)

  pub byte_1_set : (i a b v : ℕ) (t : List ℕ) → i ≤ page_count im → byte_set 32513 v (flash_with im i a b t info) ≡ flash_with im i a v t info
  unfolding byte_set
  byte_1_set i a b v t h =
      let w = area_long i h in
      ap (λ (f : List ℕ). set f 32513 v) (as_area i a b t) ∙ set_second (area i) (a ∷ b ∷ 0xFF ∷ 0xFF ∷ (t ++ info)) 32513 1 v (omega arith) ∙ sym (as_area i a v t)

  pub byte_0_there : (i a b : ℕ) (t : List ℕ) → i ≤ page_count im → get_or (flash_with im i a b t info) (256 * 0x7F + 0x00) 0 ≡ a
  byte_0_there i a b t h = byte_0_is i a b t h

  pub byte_1_there : (i a b : ℕ) (t : List ℕ) → i ≤ page_count im → get_or (flash_with im i a b t info) (256 * 0x7F + 0x01) 0 ≡ b
  byte_1_there i a b t h = byte_1_is i a b t h

-- the mass erase leaves no page and an erased configuration
pub area_erased : (im f : List ℕ) → mass_erased f ≡ flash_fed im 0 (drop 32768 f)
unfolding mass_erased flash_with
area_erased im f =
    ap (λ (t : List ℕ). t ++ drop 32768 f) (erased_split 32512 256 32768 refl ∙ ap (λ (t : List ℕ). erased_bytes 32512 ++ t) (erased_split 4 252 256 refl))
    ∙ append_assoc (erased_bytes 32512) (erased_bytes 4 ++ erased_bytes 252) (drop 32768 f)

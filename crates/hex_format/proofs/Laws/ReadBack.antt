-- Reading what was written gives the same first page and image.
use mathlib.Core.Path.{◌≡◌, refl, sym, ap, ◌∙◌}
use mathlib.Core.Bool.{Bool, true, false, cond}
use mathlib.Core.List.{List, ◌++◌, append_assoc}
use Prim.Native.Nat.{ℕ, zero, suc, ◌+◌, ◌-◌, ◌*◌, ◌/◌, ◌≤◌, ◌<◌}
use native.Mathlib.Omega.{arith}
use native.Mathlib.Nat.{add-mul, suc-mul, mul_assoc, mul_comm, mul-le-mul_right, mul-add-div_right, mul-div_cancel, div-eq_of_lt}
use borrow.Author.Tests.{le-ltb, eqb-true, leb-true}
use lib.Dec.{leb, eqb}
use lib.ListN.{length, take, drop, replicate, length-replicate}
use lib.Seq.{take_at, drop_at, sets, sets-eq, length-take-le}
use Rattle.laws.proofs.Tests.{passes, by_test}
use Rattle.settings.specs.declared.Settings.{Settings}
use Rattle.settings.specs.Accepted.{settings_refusal}
use Rattle.settings.specs.Opening.{opening_refusal}
use Rattle.settings.proofs.Laws.Accepted.{facts}
use Rattle.settings.proofs.Laws.Opening.{Opened, settings_pass, opened}
use Rattle.laws.specs.Bytes.{Bytes}
use Rattle.hex_format.specs.Reading.{unset, all_unset, first_set, past_set, copied, cut_out, read_answer, hex_read}
use Rattle.hex_format.specs.Writing.{hex_file, file_bytes, write_refusal, hex_write}
use Rattle.hex_format.proofs.Laws.Cells.{cell, kept, stored_set, some_set, first_is, past_is, unset_at, unset_fresh, bytes_are}
use Rattle.hex_format.proofs.Laws.Writing.{walk_data, unset_drop}

-- an image stored in a fresh flash
module _ (t a : ℕ) (image : List ℕ) (some : 0 < length image) (fits : a + length image ≤ t) (all : Bytes image) where
  has_room : a + length image ≤ length (replicate t unset)
  has_room = rw (length-replicate {A = ℕ} t unset) fits

  abbrev held : List ℕ
  held = sets (replicate t unset) a image

  outside : (k : ℕ) → (a ≤ k → k < a + length image → ⊥) → cell held k ≡ unset
  outside k n = kept (replicate t unset) a image has_room all k n ∙ unset_at (replicate t unset) k (unset_fresh t)

  inside : (k : ℕ) → a ≤ k → k < a + length image → cell held k ≡ unset → ⊥
  inside k g h = stored_set (replicate t unset) a image has_room all k g h

  held_first : a ≡ first_set held
  held_first = first_is held a (λ k h. outside k (λ g j. omega arith)) (inside a (omega arith) (omega arith))

  held_past : a + length image ≡ past_set held
  held_past =
      let k = a + length image - 1 in
      let e : a + length image ≡ suc k = omega arith in
      e ∙ past_is held k (λ i h. outside i (λ g j. omega arith)) (inside k (omega arith) (omega arith))

  held_some : all_unset held ≡ false
  held_some = some_set held a (inside a (omega arith) (omega arith))

  held_image : take (length image) (drop a held) ≡ image
  held_image =
      let l : List ℕ = replicate t unset in
      let r = has_room in
      let p : length (take a l) ≡ a = length-take-le a l (omega arith) in
      rw (sets-eq image l a r, append_assoc (take a l) image (drop (a + length image) l), drop_at (take a l) (image ++ drop (a + length image) l) a p, take_at image (drop (a + length image) l) (length image) refl)

last_page : (first p size : ℕ) → 0 < size → (first * size + suc p * size - 1) / size * size + size ≡ first * size + suc p * size
last_page first p size h =
    let e : first * size + suc p * size - 1 ≡ (first + p) * size + (size - 1) = omega (arith, suc-mul p size, add-mul first p size) in
    let d : (size - 1) / size ≡ 0 = div-eq_of_lt (omega arith) in
    let q : ((first + p) * size + (size - 1)) / size ≡ first + p = mul-add-div_right h (first + p) (size - 1) ∙ ap (λ x. first + p + x) d ∙ omega arith in
    rw (e, q) (omega (arith, suc-mul p size, add-mul first p size))

cut_back : (size first p t room : ℕ) (image : List ℕ) → 0 < size → length image ≡ suc p * size → first * size + length image ≤ t → length image ≤ room → Bytes image
    → cut_out size room (sets (replicate t unset) (first * size) image) ≡ record { number = 0; line = 0; first = first; image = image }
unfolding cut_out copied
cut_back size first p t room image pos long fits big all =
    let a = first * size in
    let some : 0 < length image = omega (arith, long, suc-mul p size) in
    let f : first * size / size ≡ first = mul-div_cancel first pos in
    let l : (a + length image - 1) / size * size + size ≡ a + length image = rw long (last_page first p size pos) in
    let m : a + length image - a ≡ length image = omega arith in
    rw (held_some t a image some fits all, ← held_first t a image some fits all, ← held_past t a image some fits all, f, l, m, le-ltb room (length image) big, held_image t a image some fits all, bytes_are image all)

pages_back : (s : Settings) (first p room : ℕ) (image : List ℕ) → settings_refusal s ≡ 0 → length image ≡ suc p * s.size → first + suc p ≤ s.count
    → length image ≤ room → Bytes image → hex_read s room (hex_file s.size first image) ≡ record { number = 0; line = 0; first = first; image = image }
unfolding hex_read hex_file read_answer
pages_back s first p room image ok long fits big all =
    let f = facts s ok in
    let size = s.size in
    let t = size * s.count in
    let pos : 0 < size = omega (arith, f.size, f.some) in
    let q : suc p * size ≡ 256 * (suc p * f.blocks) = ap (λ x. suc p * x) f.size ∙ sym (mul_assoc (suc p) 256 f.blocks) ∙ ap (λ x. x * f.blocks) (mul_comm (suc p) 256) ∙ mul_assoc 256 (suc p) f.blocks in
    let n : length image ≡ 16 * (length image / 16) = omega (arith, long, q) in
    let within : first * size + length image ≤ t = omega (arith, mul-le-mul_right size fits, add-mul first (suc p) size, mul_comm size s.count, long) in
    let r = length-replicate {A = ℕ} t unset in
    let w = walk_data (length image / 16) (first * size) 0 image (replicate t unset) n (omega (arith, r, within, n)) (omega (arith, r, f.bytes)) all (unset_drop (first * size) (replicate t unset) (unset_fresh t)) in
    rw (ok, w) (cut_back size first p t room image pos long within big all)

-- what the writer's tests say, if it is not refused
pub record Writes (s : Settings) (first n room : ℕ) : Type 0 where
  pub ok : settings_refusal s ≡ 0
  pub opens : Opened s first n
  pub holds : file_bytes n ≤ room

pub writes : (s : Settings) (first n room : ℕ) → write_refusal s first n room ≡ 0 → Writes s first n room
unfolding write_refusal
writes s first n room e =
    by_test (eqb (opening_refusal s first n) 0) (λ t. right (eqb-true (opening_refusal s first n) 0 t) (rw t at e)) (λ t. refuses t (rw t at e))
  where
    refuses : eqb (opening_refusal s first n) 0 ≡ false → opening_refusal s first n ≡ 0 → Writes s first n room
    refuses t z = absurd (let y : ◌≡◌ {A = Bool} true false = sym (rw z) ∙ t in let x : ◌≡◌ {A = ℕ} 0 1 = cc in omega arith)

    right : opening_refusal s first n ≡ 0 → ◌≡◌ {A = ℕ} (cond (leb (file_bytes n) room) 0 26) 0 → Writes s first n room
    right t f =
        record {
          ok = settings_pass s first n t;
          opens = opened s first n t;
          holds = leb-true (file_bytes n) room (passes (leb (file_bytes n) room) 0 26 (omega arith) f).0;
        }

-- an image that an opening takes is whole records, in the flash
module _ (s : Settings) (first n : ℕ) (o : Opened s first n) where
  pub opened_records : n ≡ 16 * (n / 16)
  opened_records =
      let f = o.settings in
      let q = n / s.size in
      let p : q * s.size ≡ 256 * (q * f.blocks) = ap (λ x. q * x) f.size ∙ sym (mul_assoc q 256 f.blocks) ∙ ap (λ x. x * f.blocks) (mul_comm q 256) ∙ mul_assoc 256 q f.blocks in
      omega (arith, o.whole, p)

  pub opened_within : first * s.size + n ≤ 65536
  opened_within =
      omega (arith, o.whole, mul-le-mul_right s.size o.inside, add-mul first (n / s.size) s.size, mul_comm s.size s.count, o.settings.bytes)

pub read_back : (s : Settings) (first space room : ℕ) (image : List ℕ) → Bytes image → write_refusal s first (length image) space ≡ 0 → length image ≤ room
    → hex_read s room (hex_write s first space image) ≡ record { number = 0; line = 0; first = first; image = image }
unfolding hex_write
read_back s first space room image all e big =
    let w = writes s first (length image) space e in
    rw e (go (length image / s.size) refl w)
  where
    go : (q : ℕ) → length image / s.size ≡ q → Writes s first (length image) space
        → hex_read s room (hex_file s.size first image) ≡ record { number = 0; line = 0; first = first; image = image }
    go zero q w = absurd (let z : length image ≡ 0 * s.size = rw q at w.opens.whole in omega (arith, w.opens.some))
    go (suc p) q w = pages_back s first p room image w.ok (rw q at w.opens.whole) (rw q at w.opens.inside) big all

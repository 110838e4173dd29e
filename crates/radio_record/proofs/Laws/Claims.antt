-- The claims of specs/Claims: packing and unpacking a job.
use mathlib.Core.Path.{◌≡◌, refl, sym, ap, ◌∙◌}
use mathlib.Core.Bool.{true, ◌&&◌}
use mathlib.Core.List.{List, ◌++◌}
use mathlib.Core.Option.{some, none}
use Rattle.std.specs.Prelude.{Option, Some, None}
use Prim.Native.Nat.{ℕ, ◌+◌, ◌*◌, ◌≤◌, ◌<◌}
use native.Mathlib.Omega.{arith}
use lib.Dec.{eqb, ltb}
use lib.ListN.{length, take, drop, get_or, length-append, length-take, take-append-drop}
use lib.Seq.{take_at, drop_at, drop-drop, get_or-append-add}
use borrow.Author.Tests.{eqb-true, ltb-true, ne_eqb}
use Rattle.laws.proofs.Tests.{by_test, both}
use Rattle.numbers.specs.Numbers.{done}
use Rattle.radio_command.specs.Numbers.{bad_message, error_answer, page_differs}
use Rattle.radio_job.specs.declared.Ending.{Ending}
use Rattle.radio_job.specs.declared.JobPoint.{JobPoint}
use Rattle.radio_job.specs.declared.JobPoint.TheVariants.{AsksConfiguration, TakesConfiguration, ErasesArea, FeedsPage}
use Rattle.radio_job.specs.declared.JobPoint.TheVariants.{ErasesConfiguration, SetsConfiguration, SetsByte0, AsksPage, TakesPage}
use Rattle.radio_job.specs.declared.JobPoint.TheVariants.{SetsByte1, Finished}
use Rattle.radio_job.specs.Image.{mask_fits, image_fits, pages_for}
use Rattle.radio_job.specs.Job.{same_bytes}
use Rattle.radio_job.specs.State.{JobState, ending_fits, point_fits, state_fits}
use Rattle.radio_job.proofs.Laws.Image.{mask_long, sized}
use Rattle.radio_job.proofs.Laws.Fits.{fitting, fit}
use Rattle.radio_record.specs.declared.JobFields.{JobFields}
use Rattle.radio_record.specs.declared.JobKept.{JobKept}
use Rattle.radio_record.specs.Record.{field_low, field_high, kept_byte, kept_pair, fields_laid, point_bytes, packed_job, job_fields_read}
use Rattle.radio_record.specs.Record.{point_read, numbers_checked, mask_of, kept_at, job_kept, kept_state, unpacked_job}
use Rattle.radio_record.specs.Claims.{JobRecord, PackedLong, JobUnpackedExactly, JobRefusedExactly}
use Rattle.radio_record.proofs.Laws.Record.{point_bytes_long, same_self, same_equal, kept_checked}

-- numbers of one and of two bytes, read back
low_back : (x : ℕ) → x < 256 → field_low x ≡ x
low_back x h = omega arith

pair_back : (x : ℕ) → x < 65536 → field_low x + field_high x * 256 ≡ x
pair_back x h = omega arith

-- an end that fits is small, and its number is not 0
record SmallEnding (e : Ending) : Type 0 where
  some : 0 < e.number
  number : e.number < 256
  code : e.code < 256
  offset : e.offset < 65536

small_ending : (n : ℕ) (e : Ending) → n ≤ 32256 → ending_fits n e ≡ true → SmallEnding e
unfolding ending_fits
small_ending n e h =
    by_test (eqb e.number error_answer)
    (λ t. rw t (λ f.
    let k = eqb-true e.number 42 t in
    let b = both (ltb e.code 256) _ f in
    let x = ltb-true e.code 256 b.0 in
    let y = eqb-true e.offset 0 b.1 in
    record { some = omega arith; number = omega arith; code = x; offset = omega arith }))
    (λ t. rw t (by_test (eqb e.number page_differs)
    (λ u. rw u (λ f.
    let k = eqb-true e.number 43 u in
    let b = both (eqb e.code 0) _ f in
    let x = eqb-true e.code 0 b.0 in
    let y = ltb-true e.offset (256 * pages_for n) b.1 in
    record { some = omega arith; number = omega arith; code = omega arith; offset = omega arith }))
    (λ u. rw u (by_test (eqb e.number done)
    (λ v. rw v (λ f.
    let k = eqb-true e.number 32 v in
    let b = both (eqb e.code 0) _ f in
    let x = eqb-true e.code 0 b.0 in
    let y = eqb-true e.offset 0 b.1 in
    record { some = omega arith; number = omega arith; code = omega arith; offset = omega arith }))
    (λ v. rw v (λ f.
    let a = both (eqb e.number bad_message) _ f in
    let k = eqb-true e.number 28 a.0 in
    let b = both (eqb e.code 0) _ a.1 in
    let x = eqb-true e.code 0 b.0 in
    let y = eqb-true e.offset 0 b.1 in
    record { some = omega arith; number = omega arith; code = omega arith; offset = omega arith }))))))

-- the fields that the last eight bytes say
abbrev told_fields : (t : List ℕ) → JobFields
told_fields t = record { stage = kept_byte t 2; page = kept_byte t 3; number = kept_byte t 4; code = kept_byte t 5; offset = kept_pair t 6 }

page_back : (n p : ℕ) → n ≤ 32256 → ltb p (pages_for n) ≡ true → field_low p ≡ p
page_back n p h f = let l = ltb-true p (pages_for n) f in low_back p (omega arith)

point_back : (n : ℕ) (p : JobPoint) → n ≤ 32256 → point_fits n p ≡ true → point_read (told_fields (point_bytes n p)) ≡ Some p
unfolding point_read point_bytes fields_laid
point_back n AsksConfiguration h f = refl
point_back n TakesConfiguration h f = refl
point_back n ErasesArea h f = refl
point_back n (FeedsPage p) h f = rw (page_back n p h f)
point_back n ErasesConfiguration h f = refl
point_back n SetsConfiguration h f = refl
point_back n SetsByte0 h f = refl
point_back n (AsksPage p) h f = rw (page_back n p h f)
point_back n (TakesPage p) h f = rw (page_back n p h f)
point_back n SetsByte1 h f = refl
point_back n (Finished e) h f =
    let s = small_ending n e h f in
    let x = s.some in
    let z : e.number ≡ 0 → ⊥ = λ q. omega arith in
    rw (low_back e.number s.number, low_back e.code s.code, pair_back e.offset s.offset, ne_eqb e.number 0 z)

-- The parts of a record.
module _ (page mask t : List ℕ) (a : length page ≡ 256) (b : length mask ≡ 256) where
  abbrev whole : List ℕ
  whole = page ++ (mask ++ t)

  page_part : take 256 whole ≡ page
  page_part = take_at page (mask ++ t) 256 a

  behind_page : drop 256 whole ≡ mask ++ t
  behind_page = drop_at page (mask ++ t) 256 a

  mask_part : mask_of whole ≡ mask
  mask_part = ap (λ (x : List ℕ). take 256 x) behind_page ∙ take_at mask t 256 b

  behind_mask : drop 512 whole ≡ t
  behind_mask = sym (drop-drop 256 256 whole) ∙ ap (λ (x : List ℕ). drop 256 x) behind_page ∙ drop_at mask t 256 b

  byte_behind : (i : ℕ) → get_or whole (512 + i) 0 ≡ get_or t i 0
  byte_behind i =
      let z : 512 + i ≡ length page + (length mask + i) = omega arith in
      ap (λ (k : ℕ). get_or whole k 0) z ∙ get_or-append-add page (mask ++ t) (length mask + i) 0 ∙ get_or-append-add mask t i 0

  fields_behind : job_fields_read whole ≡ told_fields t
  unfolding job_fields_read
  fields_behind = rw (byte_behind 2, byte_behind 3, byte_behind 4, byte_behind 5, byte_behind 6, byte_behind 7)

  pair_behind : kept_pair whole 512 ≡ kept_pair t 0
  pair_behind = rw (byte_behind 0, byte_behind 1)

  whole_long : length t ≡ 8 → length whole ≡ 520
  whole_long c = let x = length-append page (mask ++ t) in let y = length-append mask t in omega arith

length_back : (n : ℕ) (p : JobPoint) → n ≤ 32256 → kept_pair (point_bytes n p) 0 ≡ n
unfolding point_bytes fields_laid
length_back n p h = let l : n < 65536 = omega arith in pair_back n l

pub packed_long : PackedLong
unfolding packed_job
packed_long s e =
    let f = fitting s e in whole_long s.page s.mask _ f.page (mask_long s.mask f.masked) (point_bytes_long s.bytes s.point)

numbers_pass : (n : ℕ) (p : JobPoint) → image_fits n ≡ true → point_fits n p ≡ true → Some (record { bytes = n; point = p }) ≡ numbers_checked n p (point_bytes n p)
unfolding numbers_checked
numbers_pass n p e f = rw (e, f, same_self (point_bytes n p))

-- packing a job that fits and unpacking gives the job back
pub packed_back : (s : JobState) → state_fits s ≡ true → unpacked_job (packed_job s) ≡ some s
unfolding unpacked_job packed_job
packed_back s e =
    let f = fitting s e in
    let m = mask_long s.mask f.masked in
    let n = s.bytes in
    let few = (sized n f.image).few in
    let t = point_bytes n s.point in
    let r = s.page ++ (s.mask ++ t) in
    let l = whole_long s.page s.mask t f.page m (point_bytes_long n s.point) in
    let reads : point_read (job_fields_read r) ≡ Some s.point =
    ap point_read (fields_behind s.page s.mask t f.page m) ∙ point_back n s.point few f.point in
    let told : kept_pair r 512 ≡ n = pair_behind s.page s.mask t f.page m ∙ length_back n s.point few in
    let last = behind_mask s.page s.mask t f.page m in
    let masks = mask_part s.page s.mask t f.page m in
    let pages = page_part s.page s.mask t f.page m in
    let now : Option JobKept = Some (record { bytes = n; point = s.point }) in
    let kept : now ≡ job_kept r =
    kept_checked r l s.point reads s.mask (sym masks) f.masked n t now (sym told) (sym last) (numbers_pass n s.point f.image f.point) in
    ap (λ (k : Option JobKept). kept_state k r) (sym kept)
    ∙ (λ i. some (record { page = pages i; mask = masks i; bytes = n; point = s.point }))

-- What a record that keeps a job is.
record KeptFacts (r : List ℕ) (n : ℕ) (p : JobPoint) : Type 0 where
  long : length r ≡ 520
  masked : mask_fits (mask_of r) ≡ true
  image : image_fits n ≡ true
  point : point_fits n p ≡ true
  told : point_bytes n p ≡ drop 512 r

abbrev keeps : (n : ℕ) (p : JobPoint) → Option JobKept
keeps n p = Some (record { bytes = n; point = p })

none_keeps : (n : ℕ) (p : JobPoint) → None ≡ keeps n p → ⊥
none_keeps n p e = let z : ◌≡◌ {A = ℕ} 0 1 = cc in omega arith

keeps_both : (n m : ℕ) (p q : JobPoint) → keeps n p ≡ keeps m q → (n ≡ m) × (p ≡ q)
keeps_both n m p q e =
    let k : ◌≡◌ {A = JobKept} (record { bytes = n; point = p }) (record { bytes = m; point = q }) = cc in
    (ap (λ (x : JobKept). x.bytes) k, ap (λ (x : JobKept). x.point) k)

numbers_facts : (r : List ℕ) (m n : ℕ) (q p : JobPoint) → length r ≡ 520 → mask_fits (mask_of r) ≡ true
    → numbers_checked m q (drop 512 r) ≡ keeps n p → KeptFacts r n p
unfolding numbers_checked
numbers_facts r m n q p l f =
    by_test (image_fits m && (point_fits m q && same_bytes (point_bytes m q) (drop 512 r)))
    (λ t. rw t (λ e.
    let k = keeps_both m n q p e in
    let a = both (image_fits m) _ t in
    let b = both (point_fits m q) _ a.1 in
    record {
      long = l;
      masked = f;
      image = rw k.0 at a.0;
      point = rw (k.0, k.1) at b.0;
      told = rw (k.0, k.1) at (same_equal (point_bytes m q) (drop 512 r) b.1);
    }))
    (λ t. rw t (λ e. absurd (none_keeps n p e)))

kept_facts_at : (x : Option JobPoint) (r : List ℕ) (n : ℕ) (p : JobPoint) → length r ≡ 520 → kept_at x r ≡ keeps n p → KeptFacts r n p
kept_facts_at None r n p l = λ e. absurd (none_keeps n p e)
kept_facts_at (Some q) r n p l =
    by_test (mask_fits (mask_of r))
    (λ t. rw t (λ e. numbers_facts r (kept_pair r 512) n q p l t e))
    (λ t. rw t (λ e. absurd (none_keeps n p e)))

kept_facts : (r : List ℕ) (n : ℕ) (p : JobPoint) → job_kept r ≡ keeps n p → KeptFacts r n p
unfolding job_kept
kept_facts r n p =
    by_test (eqb (length r) 520)
    (λ t. rw t (λ e. kept_facts_at (point_read (job_fields_read r)) r n p (eqb-true (length r) 520 t) e))
    (λ t. rw t (λ e. absurd (none_keeps n p e)))

-- A record that keeps numbers is the record of the job with them.
pub kept_record : (r : List ℕ) (n : ℕ) (p : JobPoint) → job_kept r ≡ keeps n p
    → JobRecord (record { page = take 256 r; mask = mask_of r; bytes = n; point = p }) r
unfolding packed_job
kept_record r n p e =
    let k = kept_facts r n p e in
    let w = k.long in
    let x = length-take 256 r in
    let a : length (take 256 r) ≡ 256 = omega arith in
    record {
      fits = fit _ (record { page = a; masked = k.masked; image = k.image; point = k.point });
      bytes = ap (λ (t : List ℕ). take 256 r ++ (mask_of r ++ t)) (k.told ∙ sym (drop-drop 256 256 r))
          ∙ ap (λ (t : List ℕ). take 256 r ++ t) (take-append-drop 256 (drop 256 r))
          ∙ take-append-drop 256 r;
    }

unpacked_record : (k : Option JobKept) (s : JobState) (r : List ℕ) → job_kept r ≡ k → kept_state k r ≡ some s → JobRecord s r
unpacked_record (Some k) s r e q =
    let z : record { page = take 256 r; mask = mask_of r; bytes = k.bytes; point = k.point } ≡ s = cc in rw z at (kept_record r k.bytes k.point e)
unpacked_record None s r e q = absurd (let z : ◌≡◌ {A = ℕ} 0 1 = cc in omega arith)

pub unpacked_exactly : JobUnpackedExactly
unfolding unpacked_job
unpacked_exactly s r = (λ e. unpacked_record (job_kept r) s r refl e, λ j. ap unpacked_job (sym j.bytes) ∙ packed_back s j.fits)

unpacked_none : (k : Option JobKept) (r : List ℕ) → job_kept r ≡ k → ((s : JobState) → JobRecord s r → ⊥) → kept_state k r ≡ none
unpacked_none (Some k) r e f = absurd (f _ (kept_record r k.bytes k.point e))
unpacked_none None r e f = refl

pub refused_exactly : JobRefusedExactly
unfolding unpacked_job
refused_exactly r =
    (λ e s j. let q = (unpacked_exactly s r).1 j in let z : ◌≡◌ {A = ℕ} 0 1 = cc in omega arith, λ f. unpacked_none (job_kept r) r refl f)

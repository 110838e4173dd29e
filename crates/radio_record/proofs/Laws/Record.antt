-- A record taken apart.
use mathlib.Core.Path.{◌≡◌, refl, sym, ap, ◌∙◌}
use mathlib.Core.Bool.{true, false}
use mathlib.Core.List.{List, [], ◌∷◌}
use lib.Dec.{eqb}
use Rattle.std.specs.Prelude.{Option, Some, None}
use Rattle.laws.proofs.Tests.{by_test, both}
use Prim.Native.Nat.{ℕ}
use native.Mathlib.Omega.{arith}
use lib.ListN.{length, take, drop, length-drop}
use lib.Seq.{take_all}
use borrow.Author.Tests.{eq-eqb, ne_eqb, eqb-true}
use Rattle.radio_job.specs.declared.JobPoint.{JobPoint}
use Rattle.radio_job.specs.Image.{mask_fits, image_fits}
use Rattle.radio_job.specs.Job.{same_bytes}
use Rattle.radio_job.specs.State.{point_fits}
use Rattle.radio_job.proofs.Laws.Fits.{false_true}
use Rattle.radio_record.specs.declared.JobKept.{JobKept}
use Rattle.radio_record.specs.Record.{kept_pair, point_bytes, fields_laid, job_fields_read, point_read, numbers_checked, mask_of, job_kept}

pub point_bytes_long : (n : ℕ) (p : JobPoint) → length (point_bytes n p) ≡ 8
unfolding point_bytes fields_laid
point_bytes_long n p = refl

-- a list is the same as itself, and lists that are the same are equal
pub same_self : (xs : List ℕ) → same_bytes xs xs ≡ true
unfolding same_bytes
same_self [] = refl
same_self (x ∷ xs) = rw (eq-eqb x x refl) (same_self xs)

pub same_equal : (xs ys : List ℕ) → same_bytes xs ys ≡ true → xs ≡ ys
unfolding same_bytes
same_equal [] [] e = refl
same_equal [] (y ∷ ys) e = absurd (false_true e)
same_equal (x ∷ xs) [] e = absurd (false_true e)
same_equal (x ∷ xs) (y ∷ ys) e =
    let b = both (eqb x y) (same_bytes xs ys) e in
    let p = eqb-true x y b.0 in
    let q = same_equal xs ys b.1 in
    rw (p, q)

-- the numbers that are told, tested
module _ (n : ℕ) (p : JobPoint) (t : List ℕ) where
  pub checked_same : image_fits n ≡ true → point_fits n p ≡ true → t ≡ point_bytes n p → Some (record { bytes = n; point = p }) ≡ numbers_checked n p t
  unfolding numbers_checked
  checked_same e f q = rw (e, f, q, same_self (point_bytes n p))

  pub no_image : image_fits n ≡ false → None ≡ numbers_checked n p t
  unfolding numbers_checked
  no_image e = rw e

  pub no_point : image_fits n ≡ true → point_fits n p ≡ false → None ≡ numbers_checked n p t
  unfolding numbers_checked
  no_point e f = rw (e, f)

  pub checked_other : image_fits n ≡ true → point_fits n p ≡ true → (t ≡ point_bytes n p → ⊥) → None ≡ numbers_checked n p t
  unfolding numbers_checked
  checked_other e f q =
      rw (e, f) (by_test (same_bytes (point_bytes n p) t) (λ h. absurd (q (sym (same_equal (point_bytes n p) t h)))) (λ h. rw h))

-- what a record keeps: nothing where it has another length, tells no point, or has a mask that does not fit
pub not_520_bytes : (r : List ℕ) → (length r ≡ 520 → ⊥) → None ≡ job_kept r
unfolding job_kept
not_520_bytes r n = rw (ne_eqb (length r) 520 n)

module _ (r : List ℕ) (l : length r ≡ 520) where
  pub tells_no_point : point_read (job_fields_read r) ≡ None → None ≡ job_kept r
  unfolding job_kept
  tells_no_point e = rw (eq-eqb (length r) 520 l, e)

  module _ (p : JobPoint) (e : point_read (job_fields_read r) ≡ Some p) (m : List ℕ) (is : m ≡ mask_of r) where
    pub mask_no_fit : mask_fits m ≡ false → None ≡ job_kept r
    unfolding job_kept
    mask_no_fit f = rw (eq-eqb (length r) 520 l, e, sym (ap mask_fits is) ∙ f)

    pub kept_checked : mask_fits m ≡ true → (n : ℕ) (t : List ℕ) (k : Option JobKept) → n ≡ kept_pair r 512 → t ≡ drop 512 r
        → k ≡ numbers_checked n p t → k ≡ job_kept r
    unfolding job_kept
    kept_checked f n t k a b q = rw (eq-eqb (length r) 520 l, e, sym (ap mask_fits is) ∙ f) (q ∙ ap (λ (x : ℕ). numbers_checked x p t) a ∙ ap (λ (x : List ℕ). numbers_checked (kept_pair r 512) p x) b)

  -- the part of a record that is lent on to its end
  pub numbers_part : take 8 (drop 512 r) ≡ drop 512 r
  numbers_part = let d = length-drop 512 r in take_all 8 (drop 512 r) (omega arith)

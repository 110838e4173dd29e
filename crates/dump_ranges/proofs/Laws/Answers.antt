-- What an accepted call knows of its dumps.
use mathlib.Core.Path.{◌≡◌}
use mathlib.Core.Bool.{true}
use Prim.Native.Nat.{ℕ, ◌%◌, ◌<◌, ◌≤◌}
use native.Mathlib.Omega.{arith}
use borrow.Author.Tests.{eqb-true}
use lib.Dec.{eqb}
use Rattle.laws.proofs.Tests.{passes, both, by_test}
use Rattle.settings.specs.Accepted.{is_page_size}
use Rattle.dump_ranges.specs.Answers.{are_dumps, dump_refusal}

pub record Dumps (size n m : ℕ) : Type 0 where
  pub some : 0 < size
  pub small : size ≤ 1024
  pub same : n ≡ m
  pub whole : n % size ≡ 0

-- a page size that is accepted is some bytes, and no more than 1,024
page_size_bounds : (size : ℕ) → is_page_size size ≡ true → (0 < size) × (size ≤ 1024)
unfolding is_page_size
page_size_bounds size t =
    by_test (eqb size 512) (λ e. let q = eqb-true size 512 e in (omega arith, omega arith))
    (λ e. let u : eqb size 1024 ≡ true = rw e at t in let q = eqb-true size 1024 u in (omega arith, omega arith))

pub dumps : (size n m : ℕ) → dump_refusal size n m ≡ 0 → Dumps size n m
unfolding dump_refusal are_dumps
dumps size n m e =
    let p = passes (is_page_size size) _ 2 (omega arith) e in
    let q = passes (are_dumps size n m) 0 31 (omega arith) p.1 in
    let w = both (eqb n m) (eqb (n % size) 0) q.0 in
    let b = page_size_bounds size p.0 in
    record { some = b.0; small = b.1; same = eqb-true n m w.0; whole = eqb-true (n % size) 0 w.1 }

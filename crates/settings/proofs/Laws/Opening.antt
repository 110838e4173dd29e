-- What an accepted opening says of settings, first page and image.
use mathlib.Core.Path.{◌≡◌}
use mathlib.Core.Bool.{◌&&◌}
use Prim.Native.Nat.{ℕ, ◌+◌, ◌*◌, ◌/◌, ◌%◌, ◌≤◌}
use native.Mathlib.Omega.{arith}
use native.Mathlib.Nat.{div-add-mod'}
use borrow.Author.Tests.{leb-true, eqb-true}
use lib.Dec.{eqb, leb}
use Rattle.laws.proofs.Tests.{passes, both, by_test}
use Rattle.settings.specs.Accepted.{settings_refusal, tidied}
use Rattle.settings.specs.declared.Settings.{Settings}
use Rattle.settings.proofs.Laws.Accepted.{Facts, facts, tidied_refusal}
use Rattle.settings.specs.Opening.{is_image, are_pages, opening_refusal}

pub record Opened (s : Settings) (first n : ℕ) : Type 0 where
  pub settings : Facts s
  pub some : 1 ≤ n
  pub whole : n ≡ n / s.size * s.size
  pub inside : first + n / s.size ≤ s.count

-- the settings of an accepted opening pass
pub settings_pass : (s : Settings) (first n : ℕ) → opening_refusal s first n ≡ 0 → settings_refusal s ≡ 0
unfolding opening_refusal
settings_pass s first n e = by_test (eqb (settings_refusal s) 0) (λ p. eqb-true (settings_refusal s) 0 p) (λ p. rw p at e)

pub opened : (s : Settings) (first n : ℕ) → opening_refusal s first n ≡ 0 → Opened s first n
unfolding opening_refusal is_image are_pages
opened s first n e =
    let h = settings_pass s first n e in
    let a = passes (leb 1 n && eqb (n % s.size) 0) _ 4 (omega arith) (rw h at e) in
    let b = both (leb 1 n) (eqb (n % s.size) 0) a.0 in
    let c = passes (leb (first + n / s.size) s.count) 0 5 (omega arith) a.1 in
    record {
      settings = facts s h;
      some = leb-true 1 n b.0;
      whole = omega (arith, div-add-mod' n s.size, eqb-true (n % s.size) 0 b.1);
      inside = leb-true (first + n / s.size) s.count c.0;
    }

-- what a session keeps of settings opens as they do
pub tidied_opening : (s : Settings) (first n : ℕ) → opening_refusal (tidied s) first n ≡ opening_refusal s first n
unfolding opening_refusal is_image are_pages
tidied_opening s first n = rw (tidied_refusal s)

-- Laws of accepted settings.
use mathlib.Core.Path.{◌≡◌, refl, sym, ap, ◌∙◌}
use mathlib.Core.Bool.{Bool, true, false, cond, ◌&&◌, ◌||◌}
use Prim.Native.Nat.{ℕ, suc, ◌*◌, ◌+◌, ◌<◌, ◌≤◌}
use native.Mathlib.Omega.{arith}
use native.Mathlib.Decide.{dec_le}
use native.Mathlib.Nat.{mul-le-mul_left}
use borrow.Author.Tests.{le-leb, lt-leb, leb-true, eqb-true}
use lib.Dec.{leb, ltb, eqb}
use lib.ListN.{length, get_or}
use Rattle.laws.proofs.Bytes.{getD_byte}
use Rattle.laws.proofs.Tests.{passes, both}
use Rattle.settings.specs.Accepted.{is_fpdat, is_page_size, is_page_count, settings_refusal, InBytes, tidied}
use Rattle.settings.specs.Registers.{are_pairs, are_registers, pairs_of, no_pairs, tidy}
use Rattle.settings.specs.declared.Pairs.{Pairs}
use Rattle.settings.specs.declared.Settings.{Settings}
use Rattle.settings.proofs.Laws.Registers.{pairs_facts, tidy_accepted}

-- a page count by the most pages of its size
pub count_by_most : (size most count : ℕ) → size * suc most ≡ 65536 + size → size * most ≡ 65536 → 1 ≤ size
    → leb (size * count) 65536 ≡ leb count most
count_by_most size most count e h one = go (dec_le count most)
  where
    go : Dec (count ≤ most) → leb (size * count) 65536 ≡ leb count most
    go (yes y) = le-leb (size * count) 65536 (omega (arith, mul-le-mul_left size y)) ∙ sym (le-leb count most y)
    go (no y) =
        lt-leb (size * count) 65536 (omega (arith, mul-le-mul_left {m = suc most} {n = count} size (omega arith))) ∙ sym (lt-leb count most (omega arith))

-- accepted settings, fact by fact; a page is 2 or 4 blocks of 256 bytes
pub record Facts (s : Settings) : Type 0 where
  pub fpdat : 3 ≤ s.fpdat
  pub blocks : ℕ
  pub size : s.size ≡ 256 * blocks
  pub some : 2 ≤ blocks
  pub few : blocks ≤ 4
  pub count : 1 ≤ s.count
  pub bytes : s.size * s.count ≤ 65536
  pub wait : 1 ≤ s.wait
  pub few_pairs : s.pairs.count ≤ 4
  pub registers : are_registers s.fpdat (pairs_of s.pairs) ≡ true

pub facts : (s : Settings) → settings_refusal s ≡ 0 → Facts s
unfolding settings_refusal is_fpdat is_page_size is_page_count
facts s e =
    let a = passes (leb 3 s.fpdat) _ 1 (omega arith) e in
    let b = passes (eqb s.size 512 || eqb s.size 1024) _ 2 (omega arith) a.1 in
    let c = passes (leb 1 s.count && leb (s.size * s.count) 65536) _ 3 (omega arith) b.1 in
    let w = passes (leb 1 s.wait) _ 18 (omega arith) c.1 in
    let r = passes (are_pairs s.fpdat s.pairs) 0 19 (omega arith) w.1 in
    let q = pairs_facts s.fpdat s.pairs r.0 in
    let d = both (leb 1 s.count) (leb (s.size * s.count) 65536) c.0 in
    sized s.size (eqb s.size 512) refl b.0
    (λ n h i j. record {
      fpdat = leb-true 3 s.fpdat a.0;
      blocks = n;
      size = h;
      some = i;
      few = j;
      count = leb-true 1 s.count d.0;
      bytes = leb-true (s.size * s.count) 65536 d.1;
      wait = leb-true 1 s.wait w.0;
      few_pairs = q.0;
      registers = q.1;
    })
  where
    sized : (m : ℕ) (t : Bool) → eqb m 512 ≡ t → t || eqb m 1024 ≡ true → ((n : ℕ) → m ≡ 256 * n → 2 ≤ n → n ≤ 4 → Facts s) → Facts s
    sized m true p h k = k 2 (eqb-true m 512 p) (omega arith) (omega arith)
    sized m false p h k = k 4 (eqb-true m 1024 h) (omega arith) (omega arith)

-- what a session keeps of settings is refused as they are
pub tidied_refusal : (s : Settings) → settings_refusal (tidied s) ≡ settings_refusal s
unfolding settings_refusal tidy
tidied_refusal s = rw (tidy_accepted s.fpdat s.pairs)

-- settings without pairs, as C has them
pub in_bytes : (s : Settings) → s.id < 256 → s.fpdat < 256 → s.wait < 256 → s.pairs ≡ no_pairs → InBytes s
in_bytes s i f w e =
    let z : 0 < 256 = omega arith in
    record {
      id = i;
      fpdat = f;
      wait = w;
      four_registers = ap (λ (p : Pairs). length p.registers) e;
      registers = rw e (z, (z, (z, (z, tt))));
      four_values = ap (λ (p : Pairs). length p.values) e;
      values = rw e (z, (z, (z, (z, tt))));
    }

-- what a session keeps of settings is as C has them
entry_byte : (b : Bool) (x : ℕ) → x < 256 → cond b x 0 < 256
entry_byte true x h = h
entry_byte false x h = omega arith

pub tidied_bytes : (t : Settings) → InBytes t → InBytes (tidied t)
unfolding tidy
tidied_bytes t i =
    let r : (k : ℕ) → cond (ltb k t.pairs.count) (get_or t.pairs.registers k 0) 0 < 256
    = λ k. entry_byte (ltb k t.pairs.count) (get_or t.pairs.registers k 0) (getD_byte t.pairs.registers k i.registers) in
    let v : (k : ℕ) → cond (ltb k t.pairs.count) (get_or t.pairs.values k 0) 0 < 256
    = λ k. entry_byte (ltb k t.pairs.count) (get_or t.pairs.values k 0) (getD_byte t.pairs.values k i.values) in
    record {
      id = i.id;
      fpdat = i.fpdat;
      wait = i.wait;
      four_registers = refl;
      registers = (r 0, (r 1, (r 2, (r 3, tt))));
      four_values = refl;
      values = (v 0, (v 1, (v 2, (v 3, tt))));
    }

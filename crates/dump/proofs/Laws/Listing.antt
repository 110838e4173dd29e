-- The loop that lists ranges: what it keeps, and what it leaves.
use mathlib.Core.Path.{◌≡◌, refl, ap, sym, ◌∙◌}
use mathlib.Core.List.{List, [], ◌∷◌, ◌++◌, append_assoc}
use Prim.Native.Nat.{ℕ, suc, ◌+◌, ◌-◌, ◌*◌, ◌/◌, ◌<◌, ◌≤◌}
use native.Mathlib.Numerals.{add-one}
use native.Mathlib.Omega.{arith}
use borrow.Author.Tests.{lt-ltb, le-ltb}
use Rattle.std.specs.Prelude.{Option, None, Some, IfSome}
use lib.ListN.{length, take, drop, get_or, set, length-append, length-drop, length-set}
use lib.Seq.{take-suc, drop-cons, take_all, set_at, length-take-le}
use Rattle.dump_ranges.specs.Ranges.{Range, range, ranges, listed}
use Rattle.dump_ranges.specs.Answers.{ranges_found, list_filled}
use Rattle.dump_ranges.proofs.Laws.Listed.{listed_length, listed_more}
use Rattle.dump_ranges.proofs.Laws.Ranges.{left, passes, runs, at_end, more_left}
use Rattle.dump.specs.Code.Stretch.{DifferenceAt, EndAt, reached}

-- So many ranges are listed; what is left of them starts at the next difference, where there is one.
pub record Sofar (a b list₀ list : List ℕ) (held : ℕ) (next : Option ℕ) : Type 0 where
  pub rest : drop held (ranges a b) ≡ left a b (reached (length a) next)
  pub some : held ≤ length (ranges a b)
  pub same : length list ≡ length list₀
  pub fits : 2 * held ≤ length list₀
  pub written : list ≡ listed (take held (ranges a b)) ++ drop (2 * held) list₀
  pub differs : IfSome next (λ at. (at < length a) × (get_or a at 0 ≡ get_or b at 0 → ⊥))

-- one range more, where what is left of them starts with it
one_more : (rs qs : List Range) (r : Range) (n : ℕ) → drop n rs ≡ r ∷ qs
    → (n < length rs) × (take (n + 1) rs ≡ take n rs ++ (r ∷ [])) × (drop (n + 1) rs ≡ qs)
one_more rs qs r n e =
    let l : length (drop n rs) ≡ length (r ∷ qs) = ap length e in
    let k : n < length rs = omega (arith, length-drop n rs) in
    let d : get_or rs n r ∷ drop (suc n) rs ≡ r ∷ qs = sym (drop-cons rs n r k) ∙ e in
    let h : get_or rs n r ≡ r = cc in
    (k, rw (add-one n, take-suc rs n r k, h), rw (add-one n) (cc))

within : (n : ℕ) (P : ℕ → Type 0) (next : Option ℕ) → IfSome next (λ at. (at < n) × P at) → reached n next ≤ n
within n P None h = omega arith
within n P (Some at) h = omega (arith, h.0)

pub starts : (a b list : List ℕ) (next : Option ℕ) → length a ≡ length b → DifferenceAt a b 0 next → Sofar a b list list 0 next
unfolding listed
starts a b list next e d = let at = reached (length a) next in record {
  rest = passes a b e at 0 at (omega arith) (within (length a) _ next d.differs) d.equal;
  some = omega arith;
  same = refl;
  fits = omega arith;
  written = refl;
  differs = d.differs;
}

-- a range stored behind those that are listed
store : (xs list : List ℕ) (n s l : ℕ) → length xs ≡ n → n + 2 ≤ length list
    → set (set (xs ++ drop n list) n s) (n + 1) l ≡ xs ++ (s ∷ l ∷ drop (n + 2) list)
store xs list n s l e h =
    let k : n < length list = omega arith in
    let m : suc n < length list = omega arith in
    let two : suc (suc n) ≡ n + 2 = omega arith in
    let o : length (xs ++ (s ∷ [])) ≡ n + 1 = omega (arith, length-append xs (s ∷ [])) in
    let rest = get_or list (suc n) 0 ∷ drop (suc (suc n)) list in
    let first : set (xs ++ drop n list) n s ≡ xs ++ (s ∷ drop (suc n) list) =
    ap (λ (t : List ℕ). set (xs ++ t) n s) (drop-cons list n 0 k) ∙ set_at xs _ _ s n e in
    let split : xs ++ (s ∷ drop (suc n) list) ≡ (xs ++ (s ∷ [])) ++ rest =
    ap (λ (t : List ℕ). xs ++ (s ∷ t)) (drop-cons list (suc n) 0 m) ∙ sym (append_assoc xs (s ∷ []) rest) in
    ap (λ (t : List ℕ). set t (n + 1) l) (first ∙ split) ∙ set_at (xs ++ (s ∷ [])) _ _ l (n + 1) o ∙ append_assoc xs (s ∷ []) _
    ∙ ap (λ (t : ℕ). xs ++ (s ∷ l ∷ drop t list)) two

module _ (a b list₀ list : List ℕ) (held : ℕ) (next : Option ℕ) (s : Sofar a b list₀ list held next) where
  listed_held : length (listed (take held (ranges a b))) ≡ 2 * held
  listed_held = listed_length (take held (ranges a b)) ∙ ap (λ (n : ℕ). 2 * n) (length-take-le held (ranges a b) s.some)

  pub goes_on : (at end : ℕ) (after : Option ℕ) → length a ≡ length b → next ≡ Some at → 2 ≤ length list - 2 * held → EndAt a b at end
      → DifferenceAt a b end after → Sofar a b list₀ (set (set list (2 * held) at) (2 * held + 1) (end - at)) (held + 1) after
  goes_on at end after e h room f d =
      let p = reached (length a) after in
      let l = s.same in
      let n = end - at - 1 in
      let q : at + suc n ≡ end = omega (arith, f.since) in
      let m : suc n ≡ end - at = omega (arith, f.since) in
      let u : 2 * (held + 1) ≡ 2 * held + 2 = omega arith in
      let rest = drop (2 * (held + 1)) list₀ in
      let r = s.rest ∙ ap (λ o. left a b (reached (length a) o)) h ∙ runs a b e n at end q f.within f.differing f.ended in
      let o = one_more (ranges a b) (left a b end) (range at (suc n)) held r in
      record {
        rest = o.2 ∙ passes a b e (p - end) end p (omega (arith, d.since)) (within (length a) _ after d.differs) d.equal;
        some = omega (arith, o.0);
        same = length-set (set list (2 * held) at) (2 * held + 1) (end - at) ∙ length-set list (2 * held) at ∙ l;
        fits = omega (arith, s.fits);
        written =
            ap (λ (t : List ℕ). set (set t (2 * held) at) (2 * held + 1) (end - at)) s.written
            ∙ store (listed (take held (ranges a b))) list₀ (2 * held) at (end - at) listed_held (omega arith)
            ∙ sym (ap (λ (t : List Range). listed t ++ rest) o.1 ∙ listed_more (take held (ranges a b)) rest at (suc n) ∙ rw (m, u));
        differs = d.differs;
      }

  pub full : (at : ℕ) → length a ≡ length b → next ≡ Some at → length list - 2 * held < 2
      → (record { number = 0; more = 1; held = held } ≡ ranges_found a b list₀) × (list ≡ list_filled a b list₀)
  unfolding ranges_found list_filled
  full at e h room =
      let f : (at < length a) × (get_or a at 0 ≡ get_or b at 0 → ⊥) = rw h at s.differs in
      let r = s.rest ∙ ap (λ o. left a b (reached (length a) o)) h in
      let q : length list₀ / 2 ≡ held = omega (arith, s.same, s.fits) in
      let m = more_left a b at f.0 (rw e at f.0) f.1 in
      let k : held < length (ranges a b) = omega (arith, ap length r, length-drop held (ranges a b)) in
      let t = length-take-le held (ranges a b) s.some in
      (rw (q, lt-ltb held (length (ranges a b)) k, t), rw (q, t) s.written)

  pub done : next ≡ None → (record { number = 0; more = 0; held = held } ≡ ranges_found a b list₀) × (list ≡ list_filled a b list₀)
  unfolding ranges_found list_filled
  done h =
      let k : held ≡ length (ranges a b) = omega (arith, ap length (s.rest ∙ ap (λ o. left a b (reached (length a) o)) h ∙ at_end a b (length a) (omega arith)), length-drop held (ranges a b), s.some) in
      let m : length (ranges a b) ≤ length list₀ / 2 = omega (arith, s.fits) in
      let t = take_all (length list₀ / 2) (ranges a b) m in
      let u = take_all held (ranges a b) (omega arith) in (
        rw (t, le-ltb (length list₀ / 2) (length (ranges a b)) m) (rw k),
        rw t (s.written ∙ ap (λ (x : List Range). listed x ++ drop (2 * held) list₀) u ∙ rw k),
      )

-- Laws of the faults of a line: an accepted line has none, and a refused one is refused by its lowest.
use mathlib.Core.Path.{◌≡◌, refl, sym, ap, ◌∙◌}
use mathlib.Core.Bool.{Bool, true, false, cond}
use mathlib.Core.List.{List, [], ◌∷◌}
use mathlib.Core.Logic.{inl, inr, ⊎_elim}
use Prim.Native.Nat.{ℕ, zero, suc, ◌+◌, ◌≤◌, ◌<◌}
use native.Mathlib.Omega.{arith}
use native.Mathlib.Decide.{dec_lt}
use lib.ListN.{length, take, drop, length-take, get_or-eq_default}
use lib.Seq.{sets, get_or-take, get_or-drop}
use Rattle.std.specs.Prelude.{Ok, Err}
use Rattle.numbers.specs.Numbers.{refusal_number}
use Rattle.numbers.specs.declared.Refusal.{Refusal}
use Rattle.numbers.specs.declared.Refusal.TheVariants.{BadLine, BadChecksum, BadHexRecord}
use Rattle.hex_format.specs.declared.Record.TheVariants.{Data, Last}
use Rattle.hex_format.specs.Lines.{is_line, adds_up, kind, count, address, Line, kinded, judged_line, data_of}
use Rattle.hex_format.specs.Reading.{unset, all_unset, first_set, took, placed, taken_as, line_taken}
use Rattle.hex_format.specs.Claims.{Ended, Twice, Fault}
use Rattle.hex_format.proofs.Laws.Lines.{held, closes, Right, right_data, right_last, data_kind, bad_cases}
use Rattle.hex_format.proofs.Laws.Cells.{cell, first_there, run_unset_at}
use Rattle.hex_format.proofs.Laws.Steps as Steps
use Rattle.hex_format.proofs.Laws.Steps.{accepted}
use Rattle.hex_format.proofs.Laws.Histories.{History}

no_bool : {A : Type 0} (t : Bool) → t ≡ true → t ≡ false → A
no_bool t p q = absurd (let e : ◌≡◌ {A = Bool} true false = sym p ∙ q in let y : ◌≡◌ {A = ℕ} 0 1 = cc in omega arith)

-- a line that is right by itself has no fault below 23
module _ (flash : ℕ) (before : List (List ℕ)) (l : List ℕ) (x : Line) (r : Right flash l x) (good : x ≡ Err BadHexRecord → ⊥) where
  by_others : (m : ℕ) {A : Type 0} → (Twice flash before l → m ≡ 23 → A) → (Ended flash before → m ≡ 24 → A) → Fault flash before l m → A
  by_others m t e (inl f) = no_bool (is_line l) r.shape f.1
  by_others m t e (inr (inl f)) = no_bool (adds_up l) r.sums f.2
  by_others m t e (inr (inr (inl f))) = absurd (good (sym r.is ∙ f.2))
  by_others m t e (inr (inr (inr (inl f)))) = t f.1 f.0
  by_others m t e (inr (inr (inr (inr f)))) = e f.1 f.0

-- an address of a run in which something is set
pub record Found (cells : List ℕ) (a n : ℕ) : Type 0 where
  pub k : ℕ
  pub from : a ≤ k
  pub below : k < a + n
  pub set : cell cells k ≡ unset → ⊥

pub found : (cells : List ℕ) (a n : ℕ) → all_unset (take n (drop a cells)) ≡ false → Found cells a n
found cells a n e = go (dec_lt i n)
  where
    i : ℕ
    i = first_set (take n (drop a cells))

    there : cell (take n (drop a cells)) i ≡ unset → ⊥
    there = first_there (take n (drop a cells)) e

    go : Dec (i < n) → Found cells a n
    go (yes y) =
        record {
          k = a + i;
          from = omega arith;
          below = omega arith;
          set = λ z. there (get_or-take n (drop a cells) i unset y ∙ get_or-drop a cells i unset ∙ z);
        }
    go (no y) =
        absurd
        (there
        (get_or-eq_default (take n (drop a cells)) unset {n = i} (let l = length-take n (drop a cells) in omega (arith, short n (drop a cells)))))
      where
        short : (n : ℕ) (s : List ℕ) → length (take n s) ≤ n
        short zero s = omega arith
        short (suc n) [] = omega arith
        short (suc n) (x ∷ s) = let h = short n s in omega arith

module _ (flash : ℕ) (before : List (List ℕ)) (ended : Bool) (cells l : List ℕ) (h : History flash before ended cells) where
  flat : (x : Line) → judged_line (length cells) l ≡ x → judged_line flash l ≡ x
  flat x j = ap (λ n. judged_line n l) (sym h.size) ∙ j

  -- data where nothing was set is not set twice
  fresh : (a n : ℕ) → judged_line flash l ≡ Ok (Data a n) → all_unset (take n (drop a cells)) ≡ true → Twice flash before l → ⊥
  fresh a n j f t =
      let d = held flash l a n j in
      let q : a ≤ t.k = omega (arith, t.from, d.place) in
      let r : t.k < a + n = omega (arith, t.below, d.place, d.many) in
      let u = run_unset_at a n cells f t.k q r in
      let v = h.holds t.i t.k t.b t.earlier in
      let w = h.byte t.i t.k t.b t.earlier in
      omega arith

  -- an end record covers nothing
  ends_none : judged_line flash l ≡ Ok Last → Twice flash before l → ⊥
  ends_none j t = let c = (closes flash l j).none in omega (arith, t.from, t.below)

  pub no_fault : (line_taken ended cells l).number ≡ 0 → (m : ℕ) → Fault flash before l m → ⊥
  no_fault z m f =
      let a = accepted ended cells l z in
      ⊎_elim
      (λ (s : Steps.Stored cells l (line_taken ended cells l)).
      let j = flat (Ok (Data s.a s.n)) s.line in
      by_others flash before l (Ok (Data s.a s.n)) (right_data flash l s.a s.n j) (λ q. absurd (let y : ◌≡◌ {A = ℕ} 0 1 = cc in omega arith)) m
      (λ t e. fresh s.a s.n j s.free t) (λ t e. h.unended a.0 t) f)
      (λ (s : Steps.Ended cells l (line_taken ended cells l)).
      let j = flat (Ok Last) s.line in
      by_others flash before l (Ok Last) (right_last flash l j) (λ q. absurd (let y : ◌≡◌ {A = ℕ} 0 1 = cc in omega arith)) m
      (λ t e. ends_none j t) (λ t e. h.unended a.0 t) f)
      a.1

  -- the number of a refused line is a fault of it, and its lowest
  abbrev Lowest : ℕ → Type 0
  Lowest number = Fault flash before l number × ((m : ℕ) → Fault flash before l m → number ≤ m)

  least : (m : ℕ) → Fault flash before l m → 20 ≤ m
  least m (inl f) = omega (arith, f.0)
  least m (inr (inl f)) = omega (arith, f.0)
  least m (inr (inr (inl f))) = omega (arith, f.0)
  least m (inr (inr (inr (inl f)))) = omega (arith, f.0)
  least m (inr (inr (inr (inr f)))) = omega (arith, f.0)

  bad_sum : is_line l ≡ true → (m : ℕ) → Fault flash before l m → 21 ≤ m
  bad_sum s m (inl f) = no_bool (is_line l) s f.1
  bad_sum s m (inr (inl f)) = omega (arith, f.0)
  bad_sum s m (inr (inr (inl f))) = omega (arith, f.0)
  bad_sum s m (inr (inr (inr (inl f)))) = omega (arith, f.0)
  bad_sum s m (inr (inr (inr (inr f)))) = omega (arith, f.0)

  bad_record : is_line l ≡ true → adds_up l ≡ true → (m : ℕ) → Fault flash before l m → 22 ≤ m
  bad_record s u m (inl f) = no_bool (is_line l) s f.1
  bad_record s u m (inr (inl f)) = no_bool (adds_up l) u f.2
  bad_record s u m (inr (inr (inl f))) = omega (arith, f.0)
  bad_record s u m (inr (inr (inr (inl f)))) = omega (arith, f.0)
  bad_record s u m (inr (inr (inr (inr f)))) = omega (arith, f.0)

  by_itself : (k : Refusal) → judged_line flash l ≡ Err k → Lowest (refusal_number k)
  by_itself k j =
      ⊎_elim
      (λ (f : (k ≡ BadLine) × (is_line l ≡ false)).
      let e : refusal_number k ≡ 20 = ap refusal_number f.0 in (inl (e, f.1), λ m g. let q = least m g in omega arith))
      (⊎_elim
      (λ (f : (k ≡ BadChecksum) × (is_line l ≡ true) × (adds_up l ≡ false)).
      let e : refusal_number k ≡ 21 = ap refusal_number f.0 in
      (inr (inl (e, f.1, f.2)), λ m g. let q = bad_sum f.1 m g in omega arith))
      (λ (f : (k ≡ BadHexRecord) × (is_line l ≡ true) × (adds_up l ≡ true) × (kinded flash (kind l) (count l) (address l) ≡ Err BadHexRecord)).
      let e : refusal_number k ≡ 22 = ap refusal_number f.0 in
      (inr (inr (inl (e, f.1, f.3))), λ m g. let q = bad_record f.1 f.2 m g in omega arith)))
      (bad_cases flash l k j)

  set_before : (a n : ℕ) → judged_line flash l ≡ Ok (Data a n) → Found cells a n → Twice flash before l
  set_before a n j f =
      let d = held flash l a n j in
      let r = right_data flash l a n j in
      let c = h.covered f.k f.set in
      record {
        shape = d.shape;
        data_type = data_kind flash (kind l) (count l) (address l) a n r.is;
        k = f.k;
        from = omega (arith, f.from, d.place);
        below = omega (arith, f.below, d.place, d.many);
        i = c.i;
        b = cell cells f.k;
        earlier = c.covers;
      }

  twice : (a n : ℕ) → judged_line flash l ≡ Ok (Data a n) → all_unset (take n (drop a cells)) ≡ false → Lowest 23
  twice a n j u = (
    inr (inr (inr (inl (refl, set_before a n j (found cells a n u))))),
    λ m g. by_others flash before l (Ok (Data a n)) (right_data flash l a n j) (λ q. absurd (let y : ◌≡◌ {A = ℕ} 0 1 = cc in omega arith)) m
        (λ t e. omega arith) (λ t e. omega arith) g,
  )

  late_data : (a n : ℕ) → judged_line flash l ≡ Ok (Data a n) → all_unset (take n (drop a cells)) ≡ true → ended ≡ true → Lowest 24
  late_data a n j u e = (
    inr (inr (inr (inr (refl, h.ends e)))),
    λ m g. by_others flash before l (Ok (Data a n)) (right_data flash l a n j) (λ q. absurd (let y : ◌≡◌ {A = ℕ} 0 1 = cc in omega arith)) m
        (λ t q. absurd (fresh a n j u t)) (λ t q. omega arith) g,
  )

  late_last : judged_line flash l ≡ Ok Last → ended ≡ true → Lowest 24
  late_last j e = (
    inr (inr (inr (inr (refl, h.ends e)))),
    λ m g. by_others flash before l (Ok Last) (right_last flash l j) (λ q. absurd (let y : ◌≡◌ {A = ℕ} 0 1 = cc in omega arith)) m
        (λ t q. absurd (ends_none j t)) (λ t q. omega arith) g,
  )

  pub lowest : ((line_taken ended cells l).number ≡ 0 → ⊥) → Lowest (line_taken ended cells l).number
  unfolding line_taken taken_as placed
  lowest n = go (judged_line (length cells) l) refl n
    where
      in_data : (a k : ℕ) (u e : Bool) → judged_line flash l ≡ Ok (Data a k) → all_unset (take k (drop a cells)) ≡ u → ended ≡ e
          → ((cond u (cond e (took 24 ended cells) (took 0 ended (sets cells a (data_of l)))) (took 23 ended cells)).number ≡ 0 → ⊥)
          → Lowest (cond u (cond e (took 24 ended cells) (took 0 ended (sets cells a (data_of l)))) (took 23 ended cells)).number
      in_data a k true true j f g z = late_data a k j f g
      in_data a k true false j f g z = absurd (z refl)
      in_data a k false e j f g z = twice a k j f

      in_last : (e : Bool) → judged_line flash l ≡ Ok Last → ended ≡ e → (◌≡◌ {A = ℕ} (cond e 24 0) 0 → ⊥) → Lowest (cond e 24 0)
      in_last true j g z = late_last j g
      in_last false j g z = absurd (z refl)

      go : (x : Line) → judged_line (length cells) l ≡ x → ((taken_as ended cells l x).number ≡ 0 → ⊥) → Lowest (taken_as ended cells l x).number
      go (Err k) j z = by_itself k (flat (Err k) j)
      go (Ok (Data a k)) j z = in_data a k (all_unset (take k (drop a cells))) ended (flat (Ok (Data a k)) j) refl refl z
      go (Ok Last) j z = in_last ended (flat (Ok Last) j) refl z

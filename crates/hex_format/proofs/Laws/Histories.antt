-- Laws of the lines before a line: what is set so far is what they cover.
use mathlib.Core.Path.{◌≡◌, refl, sym, ap, ◌∙◌}
use mathlib.Core.Bool.{Bool, true, false}
use mathlib.Core.List.{List, [], ◌∷◌, ◌++◌}
use mathlib.Core.Logic.{◌⊎◌, inl, inr, ⊎_elim}
use Prim.Native.Nat.{ℕ, zero, suc, ◌+◌, ◌-◌, ◌≤◌, ◌<◌}
use native.Mathlib.Omega.{arith}
use native.Mathlib.Decide.{dec_le, dec_lt}
use lib.ListN.{length, get_or, take, drop, replicate, length-append, length-replicate, get_or-append, get_or-eq_default}
use lib.Seq.{sets, length-sets, get_or_at}
use Rattle.std.specs.Prelude.{Ok, Err}
use Rattle.numbers.specs.declared.Refusal.TheVariants.{BadLine}
use Rattle.hex_format.specs.declared.Record.TheVariants.{Data, Last}
use Rattle.hex_format.specs.Lines.{is_line, judged_line, data_of}
use Rattle.hex_format.specs.Reading.{unset, all_unset, line_taken}
use Rattle.hex_format.specs.Claims.{SetsByte, Ended}
use Rattle.hex_format.proofs.Laws.Cells.{cell, stored, kept, run_unset_at, byte_below, unset_at, unset_fresh}
use Rattle.hex_format.proofs.Laws.Steps as Steps
use Rattle.hex_format.proofs.Laws.Steps.{Placed, in_place, accepted}

-- an empty line covers nothing and ends nothing
empty_line : (flash : ℕ) → judged_line flash [] ≡ Err BadLine
unfolding judged_line is_line
empty_line flash = refl

pub none_covers : (flash k b : ℕ) → SetsByte flash [] k b → ⊥
none_covers flash k b c = let z : Err BadLine ≡ Ok (Data c.a c.n) = sym (empty_line flash) ∙ c.line in let y : ◌≡◌ {A = ℕ} 0 1 = cc in omega arith

none_ends : (flash : ℕ) → judged_line flash [] ≡ Ok Last → ⊥
none_ends flash e = let z : Err BadLine ≡ Ok Last = sym (empty_line flash) ∙ e in let y : ◌≡◌ {A = ℕ} 0 1 = cc in omega arith

-- a line behind others
abbrev Lines : Type 0
Lines = List (List ℕ)

at_old : (before : Lines) (l : List ℕ) (i : ℕ) → i < length before → get_or (before ++ (l ∷ [])) i [] ≡ get_or before i []
at_old before l i h = get_or-append before (l ∷ []) [] i h

pub at_new : (before : Lines) (l : List ℕ) → get_or (before ++ (l ∷ [])) (length before) [] ≡ l
at_new before l = get_or_at before l [] [] (length before) refl

past_new : (before : Lines) (l : List ℕ) (i : ℕ) → length before < i → get_or (before ++ (l ∷ [])) i [] ≡ []
past_new before l i h =
    get_or-eq_default (before ++ (l ∷ [])) [] {n = i} (rw (length-append before (l ∷ [])) (omega arith))

-- where a line stands that covers an address: among the old ones, or behind them
split : (flash : ℕ) (before : Lines) (l : List ℕ) (i k b : ℕ) → SetsByte flash (get_or (before ++ (l ∷ [])) i []) k b
    → ((i < length before) × SetsByte flash (get_or before i []) k b) ⊎ ((i ≡ length before) × SetsByte flash l k b)
split flash before l i k b c = go (dec_lt i (length before)) (dec_lt (length before) i)
  where
    go : Dec (i < length before) → Dec (length before < i)
        → ((i < length before) × SetsByte flash (get_or before i []) k b) ⊎ ((i ≡ length before) × SetsByte flash l k b)
    go (yes y) z = inl (y, rw (at_old before l i y) at c)
    go (no y) (yes z) = absurd (none_covers flash k b (rw (past_new before l i z) at c))
    go (no y) (no z) =
        let e : i ≡ length before = omega arith in
        inr (e, rw (e, at_new before l) at c)

split_end : (flash : ℕ) (before : Lines) (l : List ℕ) → Ended flash (before ++ (l ∷ [])) → Ended flash before ⊎ (judged_line flash l ≡ Ok Last)
split_end flash before l e = go (dec_lt e.i (length before)) (dec_lt (length before) e.i)
  where
    go : Dec (e.i < length before) → Dec (length before < e.i) → Ended flash before ⊎ (judged_line flash l ≡ Ok Last)
    go (yes y) z = inl (record { i = e.i; line = rw (at_old before l e.i y) at e.line })
    go (no y) (yes z) = absurd (none_ends flash (rw (past_new before l e.i z) at e.line))
    go (no y) (no z) = let q : e.i ≡ length before = omega arith in inr (rw (q, at_new before l) at e.line)

-- some of the lines covers an address
pub record Among (flash : ℕ) (before : List (List ℕ)) (k b : ℕ) : Type 0 where
  pub i : ℕ
  pub covers : SetsByte flash (get_or before i []) k b

among_old : (flash : ℕ) (before : Lines) (l : List ℕ) (k b : ℕ) → Among flash before k b → Among flash (before ++ (l ∷ [])) k b
among_old flash before l k b m = record { i = m.i; covers = go (dec_lt m.i (length before)) }
  where
    go : Dec (m.i < length before) → SetsByte flash (get_or (before ++ (l ∷ [])) m.i []) k b
    go (yes y) = rw (at_old before l m.i y) m.covers
    go (no y) = absurd (none_covers flash k b (rw (get_or-eq_default before [] {n = m.i} (omega arith)) at m.covers))

-- the lines before, and what is set by them
pub record History (flash : ℕ) (before : List (List ℕ)) (ended : Bool) (cells : List ℕ) : Type 0 where
  pub size : length cells ≡ flash
  pub ends : ended ≡ true → Ended flash before
  pub unended : ended ≡ false → Ended flash before → ⊥
  pub covered : (k : ℕ) → (cell cells k ≡ unset → ⊥) → Among flash before k (cell cells k)
  pub holds : (i k b : ℕ) → SetsByte flash (get_or before i []) k b → cell cells k ≡ b
  pub byte : (i k b : ℕ) → SetsByte flash (get_or before i []) k b → b < 256
  pub once : (i j k b c : ℕ) → SetsByte flash (get_or before i []) k b → SetsByte flash (get_or before j []) k c → i ≡ j

differ : {A : Type 0} → ◌≡◌ {A = Bool} true false → A
differ e = absurd (let y : ◌≡◌ {A = ℕ} 0 1 = cc in omega arith)

pub history_none : (flash : ℕ) → History flash [] false (replicate flash unset)
history_none flash =
    record {
      size = length-replicate {A = ℕ} flash unset;
      ends = λ e. differ (sym e);
      unended = λ _ e. none_ends flash e.line;
      covered = λ k n. absurd (n (unset_at (replicate flash unset) k (unset_fresh flash)));
      holds = λ i k b c. absurd (none_covers flash k b c);
      byte = λ i k b c. absurd (none_covers flash k b c);
      once = λ i j k b d c. absurd (none_covers flash k b c);
    }

-- a record of data more
module _ (flash : ℕ) (before : List (List ℕ)) (cells l : List ℕ) (h : History flash before false cells) (a n : ℕ)
    (j : judged_line (length cells) l ≡ Ok (Data a n)) (free : all_unset (take n (drop a cells)) ≡ true) where
  abbrev later : List ℕ
  later = sets cells a (data_of l)

  p : Placed cells l a n
  p = in_place cells l a n j

  same : judged_line flash l ≡ Ok (Data a n)
  same = ap (λ x. judged_line x l) (sym h.size) ∙ j

  none : (d : List ℕ) (k : ℕ) → length d ≡ 0 → cell (sets cells a d) k ≡ cell cells k
  none [] k e = refl
  none (x ∷ d) k e = absurd (omega arith)

  room : (k : ℕ) → a ≤ k → k < a + n → a + length (data_of l) ≤ length cells
  room k g q = rw p.long (p.room (λ z. omega arith))

  in_run : (k : ℕ) → a ≤ k → k < a + n → cell later k ≡ get_or (data_of l) (k - a) unset
  in_run k g q = stored cells a (data_of l) (room k g q) p.bytes k g (rw p.long q)

  out_run : (k : ℕ) → (a ≤ k → k < a + n → ⊥) → cell later k ≡ cell cells k
  out_run k f = go (dec_le n 0)
    where
      go : Dec (n ≤ 0) → cell later k ≡ cell cells k
      go (yes y) = none (data_of l) k (p.long ∙ omega arith)
      go (no y) =
          let r : a + length (data_of l) ≤ length cells = rw p.long (p.room (λ z. y (omega arith))) in
          kept cells a (data_of l) r p.bytes k (λ g q. f g (rw p.long at q))

  was_free : (k : ℕ) → a ≤ k → k < a + n → cell cells k ≡ unset
  was_free k g q = run_unset_at a n cells free k g q

  default : (d : List ℕ) (i : ℕ) → i < length d → get_or d i 0xff ≡ get_or d i unset
  default [] i q = absurd (omega arith)
  default (x ∷ d) zero q = refl
  default (x ∷ d) (suc i) q = default d i (omega arith)

  data_byte : (k : ℕ) → a ≤ k → k < a + n → get_or (data_of l) (k - a) 0xff ≡ get_or (data_of l) (k - a) unset
  data_byte k g q = let e = p.long in default (data_of l) (k - a) (omega arith)

  -- a line that covers an address, as this one
  record Mine (k b : ℕ) : Type 0 where
    low : a ≤ k
    high : k < a + n
    value : get_or (data_of l) (k - a) 0xff ≡ b

  mine : (k b : ℕ) → SetsByte flash l k b → Mine k b
  mine k b c =
      let e : Ok (Data c.a c.n) ≡ Ok (Data a n) = sym c.line ∙ same in
      let x : c.a ≡ a = cc in
      let y : c.n ≡ n = cc in
      record { low = rw x at c.from; high = rw (x, y) at c.below; value = rw x at c.byte }

  new_holds : (k b : ℕ) → Mine k b → cell later k ≡ b
  new_holds k b m = in_run k m.low m.high ∙ sym (data_byte k m.low m.high) ∙ m.value

  new_byte : (k b : ℕ) → Mine k b → b < 256
  new_byte k b m =
      let e = p.long in
      let f = byte_below (data_of l) (k - a) 0xff p.bytes (omega (arith, m.low, m.high)) in
      rw m.value at f

  -- an old one is elsewhere
  apart : (i k b c : ℕ) → SetsByte flash (get_or before i []) k b → Mine k c → ⊥
  apart i k b c o m =
      let e = h.holds i k b o in
      let f = h.byte i k b o in
      let g = was_free k m.low m.high in
      omega arith

  covers_new : (k : ℕ) → a ≤ k → k < a + n → Among flash (before ++ (l ∷ [])) k (cell later k)
  covers_new k g q =
      record {
        i = length before;
        covers =
            rw (at_new before l)
            (record { a = a; n = n; line = same; from = g; below = q; byte = data_byte k g q ∙ sym (in_run k g q) });
      }

  pub history_data : History flash (before ++ (l ∷ [])) false later
  history_data =
      record {
        size = length-sets cells a (data_of l) ∙ h.size;
        ends = λ e. differ (sym e);
        unended = λ _ e. ⊎_elim (λ o. h.unended refl o) (λ q. last q) (split_end flash before l e);
        covered = λ k f. cover k f (dec_le a k) (dec_lt k (a + n));
        holds = λ i k b c. ⊎_elim (λ o. old i k b o.1) (λ o. new_holds k b (mine k b o.1)) (split flash before l i k b c);
        byte = λ i k b c. ⊎_elim (λ o. h.byte i k b o.1) (λ o. new_byte k b (mine k b o.1)) (split flash before l i k b c);
        once = λ i j k b d c e. only i j k b d (split flash before l i k b c) (split flash before l j k d e);
      }
    where
      last : judged_line flash l ≡ Ok Last → ⊥
      last q = let z : Ok Last ≡ Ok (Data a n) = sym q ∙ same in let y : ◌≡◌ {A = ℕ} 0 1 = cc in omega arith

      old : (i k b : ℕ) → SetsByte flash (get_or before i []) k b → cell later k ≡ b
      old i k b o =
          let e = h.holds i k b o in
          let f = h.byte i k b o in
          out_run k (λ g q. let w = was_free k g q in omega arith) ∙ e

      cover : (k : ℕ) → (cell later k ≡ unset → ⊥) → Dec (a ≤ k) → Dec (k < a + n) → Among flash (before ++ (l ∷ [])) k (cell later k)
      cover k f (yes y) (yes z) = covers_new k y z
      cover k f (yes y) (no z) =
          let e = out_run k (λ g q. z q) in
          rw e (among_old flash before l k (cell cells k) (h.covered k (λ w. f (e ∙ w))))
      cover k f (no y) z =
          let e = out_run k (λ g q. y g) in
          rw e (among_old flash before l k (cell cells k) (h.covered k (λ w. f (e ∙ w))))

      only : (i j k b d : ℕ) → ((i < length before) × SetsByte flash (get_or before i []) k b) ⊎ ((i ≡ length before) × SetsByte flash l k b)
          → ((j < length before) × SetsByte flash (get_or before j []) k d) ⊎ ((j ≡ length before) × SetsByte flash l k d) → i ≡ j
      only i j k b d (inl o) (inl q) = h.once i j k b d o.1 q.1
      only i j k b d (inl o) (inr q) = absurd (apart i k b d o.1 (mine k d q.1))
      only i j k b d (inr o) (inl q) = absurd (apart j k d b q.1 (mine k b o.1))
      only i j k b d (inr o) (inr q) = o.0 ∙ sym q.0

-- the end record more
pub history_last : (flash : ℕ) (before : List (List ℕ)) (cells l : List ℕ) → History flash before false cells → judged_line (length cells) l ≡ Ok Last
    → History flash (before ++ (l ∷ [])) true cells
history_last flash before cells l h j =
    record {
      size = h.size;
      ends = λ _. record { i = length before; line = rw (at_new before l) same };
      unended = λ e. differ e;
      covered = λ k f. among_old flash before l k (cell cells k) (h.covered k f);
      holds = λ i k b c. ⊎_elim (λ o. h.holds i k b o.1) (λ o. absurd (not_mine k b o.1)) (split flash before l i k b c);
      byte = λ i k b c. ⊎_elim (λ o. h.byte i k b o.1) (λ o. absurd (not_mine k b o.1)) (split flash before l i k b c);
      once = λ i j k b d c e. only i j k b d (split flash before l i k b c) (split flash before l j k d e);
    }
  where
    same : judged_line flash l ≡ Ok Last
    same = ap (λ x. judged_line x l) (sym h.size) ∙ j

    not_mine : (k b : ℕ) → SetsByte flash l k b → ⊥
    not_mine k b c = let z : Ok Last ≡ Ok (Data c.a c.n) = sym same ∙ c.line in let y : ◌≡◌ {A = ℕ} 0 1 = cc in omega arith

    only : (i j k b d : ℕ) → ((i < length before) × SetsByte flash (get_or before i []) k b) ⊎ ((i ≡ length before) × SetsByte flash l k b)
        → ((j < length before) × SetsByte flash (get_or before j []) k d) ⊎ ((j ≡ length before) × SetsByte flash l k d) → i ≡ j
    only i j k b d (inl o) (inl q) = h.once i j k b d o.1 q.1
    only i j k b d (inl o) (inr q) = absurd (not_mine k d q.1)
    only i j k b d (inr o) q = absurd (not_mine k b o.1)

-- a line that is accepted goes into the history
pub history_more : (flash : ℕ) (before : List (List ℕ)) (ended : Bool) (cells l : List ℕ) → History flash before ended cells → (line_taken ended cells l).number ≡ 0
    → History flash (before ++ (l ∷ [])) (line_taken ended cells l).ended (line_taken ended cells l).cells
history_more flash before ended cells l h z =
    let a = accepted ended cells l z in
    let g : History flash before false cells = rw a.0 at h in
    ⊎_elim
    (λ (s : Steps.Stored cells l (line_taken ended cells l)).
    rw s.gives (history_data flash before cells l g s.a s.n s.line s.free))
    (λ (s : Steps.Ended cells l (line_taken ended cells l)). rw s.gives (history_last flash before cells l g s.line))
    a.1

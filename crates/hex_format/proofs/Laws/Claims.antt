-- The claims, proved: the history of a whole file by induction over its lines, then what the answer makes of
-- it.
use mathlib.Core.Path.{◌≡◌, refl, sym, ap, ◌∙◌}
use mathlib.Core.Bool.{Bool, true, false, cond}
use mathlib.Core.List.{List, [], ◌∷◌, ◌++◌, append_assoc, append-nil}
use mathlib.Core.Logic.{◌⊎◌, inl, inr}
use Prim.Native.Nat.{ℕ, suc, ◌+◌, ◌-◌, ◌*◌, ◌/◌, ◌%◌, ◌≤◌, ◌<◌}
use native.Mathlib.Omega.{arith}
use native.Mathlib.Decide.{dec_lt, ℕ_discrete}
use native.Mathlib.Nat.{suc-mul, lt_of_mul-lt-mul_right}
use borrow.Author.Tests.{eqb-true, eq-eqb, ne_eqb}
use lib.Dec.{eqb, ltb}
use lib.ListN.{length, get_or, take, drop, replicate, length-append}
use lib.Seq.{take_at, get_or_at}
use Rattle.laws.proofs.Tests.{by_test}
use Rattle.settings.specs.declared.Settings.{Settings}
use Rattle.settings.specs.Accepted.{settings_refusal}
use Rattle.settings.proofs.Laws.Accepted.{facts}
use Rattle.hex_format.specs.Reading.{lines, unset, all_unset, first_set, past_set, cell_byte, bytes, LineTaken, took, line_taken, LinesTaken, ended_with, lines_taken, Answer, refused, copied, cut_out, read_answer, hex_read}
use Rattle.hex_format.specs.Claims.{WrittenReads, Set, Shows, AcceptedShows, Fault, FirstFault, NoFault}
use Rattle.hex_format.proofs.Laws.Cells.{cell, first_there, past_there, past_within, set_from, set_below, byte_is, window_long, window_at}
use Rattle.hex_format.proofs.Laws.Steps.{step_on, step_stop, walk_accepts, walk_rest, walk_zero, no_line}
use Rattle.hex_format.proofs.Laws.Histories.{Among, History, history_none, history_more}
use Rattle.hex_format.proofs.Laws.Faults as Faults
use Rattle.hex_format.proofs.Laws.Pages.{page_start, page_end, page_within, page_run}
use Rattle.hex_format.proofs.Laws.ReadBack.{read_back}

pub written_reads : WrittenReads
written_reads s first space room image all e big = read_back s first space room image all e big

-- taken, as a record of its parts
pub parts : (t : LineTaken) → t.number ≡ 0 → t ≡ took 0 t.ended t.cells
parts t z = ap (λ n. took n t.ended t.cells) z

-- the history of an accepted file
pub record Whole (flash : ℕ) (ls : List (List ℕ)) (final : List ℕ) : Type 0 where
  pub ended : Bool
  pub history : History flash ls ended final

whole : (flash n : ℕ) (before ls : List (List ℕ)) (ended : Bool) (cells final : List ℕ) → History flash before ended cells
    → lines_taken n ended cells ls ≡ ended_with 0 0 final → Whole flash (before ++ ls) final
unfolding lines_taken
whole flash n before [] ended cells final h e =
    let q : cells ≡ final = ap (λ (w : LinesTaken). w.cells) e in
    rw (append-nil before) (record { ended = ended; history = rw q at h })
whole flash n before (l ∷ ls) ended cells final h e =
    let z = walk_accepts n ended cells l ls final e in
    let t = line_taken ended cells l in
    let r = walk_rest n ended cells l ls final e t.ended t.cells (parts t z) in
    let w = whole flash (n + 1) (before ++ (l ∷ [])) ls t.ended t.cells final (history_more flash before ended cells l h z) r in
    rw (append_assoc before (l ∷ []) ls) at w

-- the first faulty line of a walk, with the lines that have been
pub record Judges (flash : ℕ) (all : List (List ℕ)) (w : LinesTaken) : Type 0 where
  pub at : (i : ℕ) → w.line ≡ suc i → i < length all
  pub fault : (i : ℕ) → w.line ≡ suc i → Fault flash (take i all) (get_or all i []) w.number
  pub lowest : (i : ℕ) → w.line ≡ suc i → (m : ℕ) → Fault flash (take i all) (get_or all i []) m → w.number ≤ m
  pub before : (i : ℕ) → w.line ≡ suc i → (j m : ℕ) → j < i → Fault flash (take j all) (get_or all j []) m → ⊥
  pub none : w.line ≡ 0 → (j m : ℕ) → j < length all → Fault flash (take j all) (get_or all j []) m → ⊥

judges : (flash n : ℕ) (all before ls : List (List ℕ)) (ended : Bool) (cells : List ℕ) → all ≡ before ++ ls → n ≡ length before
    → History flash before ended cells → ((j m : ℕ) → j < length before → Fault flash (take j all) (get_or all j []) m → ⊥)
    → Judges flash all (lines_taken n ended cells ls)
unfolding lines_taken
judges flash n all before [] ended cells e c h f =
    let q : length all ≡ length before = ap length (e ∙ append-nil before) in
    record {
      at = λ i z. absurd (omega arith);
      fault = λ i z. absurd (omega arith);
      lowest = λ i z. absurd (omega arith);
      before = λ i z. absurd (omega arith);
      none = λ z j m g. f j m (omega arith);
    }
judges flash n all before (l ∷ ls) ended cells e c h f =
    by_test (eqb (line_taken ended cells l).number 0)
    (λ p. goes (eqb-true (line_taken ended cells l).number 0 p)
    (λ z. judges flash (n + 1) all (before ++ (l ∷ [])) ls (line_taken ended cells l).ended (line_taken ended cells l).cells
    (e ∙ sym (append_assoc before (l ∷ []) ls)) (longer c) (history_more flash before ended cells l h z) (more z)))
    (λ p. stops (λ z. let y : ◌≡◌ {A = Bool} true false = sym (eq-eqb (line_taken ended cells l).number 0 z) ∙ p in let x : ◌≡◌ {A = ℕ} 0 1 = cc in omega arith))
  where
    here : take (length before) all ≡ before
    here = ap (take (length before)) e ∙ take_at before (l ∷ ls) (length before) refl

    this : get_or all (length before) [] ≡ l
    this = ap (λ x. get_or x (length before) []) e ∙ get_or_at before l ls [] (length before) refl

    longer : n ≡ length before → n + 1 ≡ length (before ++ (l ∷ []))
    longer c = rw (length-append before (l ∷ [])) (omega arith)

    more : (line_taken ended cells l).number ≡ 0 → (j m : ℕ) → j < length (before ++ (l ∷ [])) → Fault flash (take j all) (get_or all j []) m → ⊥
    more z j m g = go (dec_lt j (length before))
      where
        go : Dec (j < length before) → Fault flash (take j all) (get_or all j []) m → ⊥
        go (yes y) = f j m y
        go (no y) =
            let k : length (before ++ (l ∷ [])) ≡ length before + 1 = length-append before (l ∷ []) in
            let q : j ≡ length before = omega arith in
            rw (q, here, this) (Faults.no_fault flash before ended cells l h z m)

    goes : (line_taken ended cells l).number ≡ 0 → ((line_taken ended cells l).number ≡ 0 → Judges flash all (lines_taken (n + 1) (line_taken ended cells l).ended (line_taken ended cells l).cells ls))
        → Judges flash all (lines_taken n ended cells (l ∷ ls))
    goes z k =
        rw (step_on n ended (line_taken ended cells l).ended cells (line_taken ended cells l).cells l ls (parts (line_taken ended cells l) z)) (k z)

    stops : ((line_taken ended cells l).number ≡ 0 → ⊥) → Judges flash all (lines_taken n ended cells (l ∷ ls))
    stops z =
        let t = line_taken ended cells l in
        let o = Faults.lowest flash before ended cells l h z in
        let a : length all ≡ length before + suc (length ls) = ap length e ∙ length-append before (l ∷ ls) in
        rw (step_stop n t.number ended t.ended cells t.cells l ls refl z)
        (record {
          at = λ i q. omega (arith, c, a);
          fault = λ i q. let b : i ≡ length before = omega (arith, c) in rw (b, here, this) o.0;
          lowest = λ i q. let b : i ≡ length before = omega (arith, c) in rw (b, here, this) o.1;
          before = λ i q j m g. f j m (omega (arith, c));
          none = λ q. absurd (omega arith);
        })

pub file_judges : (flash : ℕ) (file : List ℕ) → Judges flash (lines file) (lines_taken 0 false (replicate flash unset) (lines file))
file_judges flash file =
    judges flash 0 (lines file) [] (lines file) false (replicate flash unset) refl refl (history_none flash) (λ j m g. absurd (omega arith))

-- the answer's line and number are the walk's where a line decided
abbrev pub walk : Settings → List ℕ → LinesTaken
walk s file = lines_taken 0 false (replicate (s.size * s.count) unset) (lines file)

cut_line : (size room : ℕ) (cells : List ℕ) → (cut_out size room cells).line ≡ 0
unfolding cut_out copied
cut_line size room cells =
    let page = first_set cells / size in
    let stop = (past_set cells - 1) / size * size + size in
    go page (bytes (take (stop - page * size) (drop (page * size) cells))) (all_unset cells) (ltb room (stop - page * size))
  where
    go : (page : ℕ) (image : List ℕ) (t u : Bool)
        → (cond t (refused 25 0) (cond u (refused 26 0) (record { number = 0; line = 0; first = page; image = image }))).line ≡ 0
    go page image true u = refl
    go page image false true = refl
    go page image false false = refl

no_bool : {A : Type 0} (t : Bool) → t ≡ true → t ≡ false → A
no_bool t p q = absurd (let e : ◌≡◌ {A = Bool} true false = sym p ∙ q in let y : ◌≡◌ {A = ℕ} 0 1 = cc in omega arith)

answered_line : (size room : ℕ) (w : LinesTaken) → (w.number ≡ 0 → w.line ≡ 0) → (read_answer size room w).line ≡ w.line
unfolding read_answer
answered_line size room w n =
    by_test (eqb w.number 0)
    (λ t. rw t (cut_line size room w.cells ∙ sym (n (eqb-true w.number 0 t))))
    (λ t. rw t)

answered_number : (size room : ℕ) (w : LinesTaken) → (w.number ≡ 0 → ⊥) → (read_answer size room w).number ≡ w.number
unfolding read_answer
answered_number size room w n = rw (ne_eqb w.number 0 n)

module _ (s : Settings) (room : ℕ) (file : List ℕ) (ok : settings_refusal s ≡ 0) where
  pub is_answered : hex_read s room file ≡ read_answer s.size room (walk s file)
  unfolding hex_read
  is_answered = rw ok

  zero_line : (walk s file).number ≡ 0 → (walk s file).line ≡ 0
  zero_line z = no_line 0 false (replicate (s.size * s.count) unset) (lines file) z

  read_line : (hex_read s room file).line ≡ (walk s file).line
  read_line = ap (λ (a : Answer). a.line) is_answered ∙ answered_line s.size room (walk s file) zero_line

  read_number : (i : ℕ) → (walk s file).line ≡ suc i → (hex_read s room file).number ≡ (walk s file).number
  read_number i e =
      ap (λ (a : Answer). a.number) is_answered
      ∙ answered_number s.size room (walk s file) (λ z. let y = zero_line z in omega arith)

pub first_fault_holds : FirstFault
first_fault_holds s room file i ok e =
    let l : (walk s file).line ≡ suc i = sym (read_line s room file ok) ∙ e in
    let j = file_judges (s.size * s.count) file in
    rw (read_number s room file ok i l)
    (record { there = j.at i l; fault = j.fault i l; lowest = j.lowest i l; before = j.before i l })

pub no_fault_holds : NoFault
no_fault_holds s room file ok e = (file_judges (s.size * s.count) file).none (sym (read_line s room file ok) ∙ e)

-- an accepted file: what its answer is
pub record Accepts (s : Settings) (room : ℕ) (file : List ℕ) : Type 0 where
  pub ok : settings_refusal s ≡ 0
  pub right : (walk s file).number ≡ 0
  pub some : all_unset (walk s file).cells ≡ false
  pub is :
      hex_read s room file
      ≡ record {
        number = 0;
        line = 0;
        first = first_set (walk s file).cells / s.size;
        image =
            bytes
            (take ((past_set (walk s file).cells - 1) / s.size * s.size + s.size - first_set (walk s file).cells / s.size * s.size)
            (drop (first_set (walk s file).cells / s.size * s.size) (walk s file).cells));
      }

accepts : (s : Settings) (room : ℕ) (file : List ℕ) → (hex_read s room file).number ≡ 0 → Accepts s room file
unfolding hex_read read_answer cut_out copied
accepts s room file z = by_test (eqb (settings_refusal s) 0) (λ t. settled t (rw t at z)) (λ t. no_bool (eqb (settings_refusal s) 0) (eq-eqb (settings_refusal s) 0 (rw t at z)) t)
  where
    page : ℕ
    page = first_set (walk s file).cells / s.size

    n : ℕ
    n = (past_set (walk s file).cells - 1) / s.size * s.size + s.size - first_set (walk s file).cells / s.size * s.size

    im : List ℕ
    im =
        bytes
        (take ((past_set (walk s file).cells - 1) / s.size * s.size + s.size - first_set (walk s file).cells / s.size * s.size)
        (drop (first_set (walk s file).cells / s.size * s.size) (walk s file).cells))

    settled : eqb (settings_refusal s) 0 ≡ true
        → (cond (eqb (walk s file).number 0) (cut_out s.size room (walk s file).cells) (refused (walk s file).number (walk s file).line)).number ≡ 0
        → Accepts s room file
    settled t y =
        by_test (eqb (walk s file).number 0)
        (λ u. cells t u (all_unset (walk s file).cells) (ltb room n) refl refl (rw u at y))
        (λ u. no_bool (eqb (walk s file).number 0) (eq-eqb (walk s file).number 0 (rw u at y)) u)
      where
        cells : eqb (settings_refusal s) 0 ≡ true → eqb (walk s file).number 0 ≡ true → (a b : Bool) → all_unset (walk s file).cells ≡ a → ltb room n ≡ b
            → (cond a (refused 25 0) (cond b (refused 26 0) (record { number = 0; line = 0; first = page; image = im }))).number ≡ 0 → Accepts s room file
        cells t u true b p q y = absurd (omega arith)
        cells t u false true p q y = absurd (omega arith)
        cells t u false false p q y =
            record {
              ok = eqb-true (settings_refusal s) 0 t;
              right = eqb-true (walk s file).number 0 u;
              some = p;
              is = rw (t, u, p, q);
            }

-- the image of an accepted file, byte by byte
module _ (s : Settings) (file : List ℕ) (ok : settings_refusal s ≡ 0) (right : (walk s file).number ≡ 0) (some : all_unset (walk s file).cells ≡ false) where
  abbrev size : ℕ
  size = s.size

  abbrev flash : ℕ
  flash = s.size * s.count

  abbrev F : List ℕ
  F = (walk s file).cells

  abbrev page : ℕ
  page = first_set (walk s file).cells / s.size

  abbrev last : ℕ
  last = (past_set (walk s file).cells - 1) / s.size

  abbrev n : ℕ
  n = last * s.size + s.size - page * s.size

  pos : 0 < s.size
  pos = let f = facts s ok in omega (arith, f.size, f.some)

  all : Whole flash (lines file) F
  all =
      whole flash 0 [] (lines file) false (replicate flash unset) F (history_none flash)
      (walk_zero 0 false (replicate flash unset) (lines file) right)

  h : History flash (lines file) all.ended F
  h = all.history

  order : first_set F < past_set F
  order = set_below F (first_set F) (first_there F some)

  low : page * s.size ≤ first_set F
  low = page_start (first_set F) s.size

  high : past_set F ≤ last * s.size + s.size
  high = let e = page_end (past_set F - 1) s.size pos in let o = order in omega arith

  ends : page * s.size + n ≡ last * s.size + s.size
  ends = let l = low in let o = order in let g = high in omega arith

  fits : page * s.size + n ≤ length F
  fits =
      let o = order in
      let p = past_within F in
      let z = h.size in
      let w = page_within (past_set F - 1) s.size s.count (omega arith) in
      let e = ends in
      omega arith

  pages_order : page ≤ last
  pages_order =
      let l = low in
      let o = order in
      let g = high in
      let m = suc-mul last s.size in
      let b : page * s.size < suc last * s.size = omega arith in
      let r = lt_of_mul-lt-mul_right s.size b in
      omega arith

  abbrev image : List ℕ
  image = bytes (take n (drop (page * s.size) F))

  pub long : length image ≡ n
  long = window_long F (page * s.size) n fits

  to_set : (k b : ℕ) → Among flash (lines file) k b → Set flash file k b
  to_set k b m = record { i = m.i; covers = m.covers }

  set_cell : (k b : ℕ) → Set flash file k b → (cell F k ≡ b) × (b < 256)
  set_cell k b c = (h.holds c.i k b c.covers, h.byte c.i k b c.covers)

  is_set : (k b : ℕ) → Set flash file k b → cell F k ≡ unset → ⊥
  is_set k b c z = let e = set_cell k b c in omega (arith, e.0, e.1)

  byte_at : (k : ℕ) → k < length image
      → Set flash file (page * s.size + k) (get_or image k 0xff)
      ⊎ ((get_or image k 0xff ≡ 0xff) × ((b : ℕ) → Set flash file (page * s.size + k) b → ⊥))
  unfolding cell_byte
  byte_at k g = go (ℕ_discrete (cell F (page * s.size + k)) unset)
    where
      at : get_or image k 0xff ≡ cell_byte (cell F (page * s.size + k))
      at = let l = long in window_at F (page * s.size) n fits k (omega arith)

      go : Dec (cell F (page * s.size + k) ≡ unset)
          → Set flash file (page * s.size + k) (get_or image k 0xff)
          ⊎ ((get_or image k 0xff ≡ 0xff) × ((b : ℕ) → Set flash file (page * s.size + k) b → ⊥))
      go (yes y) = inr (at ∙ ap cell_byte y, λ b c. is_set (page * s.size + k) b c y)
      go (no y) =
          let m = h.covered (page * s.size + k) y in
          let b = h.byte m.i (page * s.size + k) (cell F (page * s.size + k)) m.covers in
          inl (rw (at ∙ byte_is (cell F (page * s.size + k)) b) (to_set (page * s.size + k) (cell F (page * s.size + k)) m))

  pub shows_image : Shows s file (record { number = 0; line = 0; first = page; image = image })
  shows_image =
      let f = h.covered (first_set F) (first_there F some) in
      let p = past_there F some in
      let t = h.covered (past_set F - 1) p.1 in
      record {
        byte = byte_at;
        all = λ k b c.
            let x = set_from F k (is_set k b c) in
            let y = set_below F k (is_set k b c) in
            let l = low in
            let g = high in
            let e = ends in
            let z = long in
            (omega arith, omega arith);
        once = λ i j k b d c e. h.once i j k b d c e;
        pages = ap (λ x. x % s.size) long ∙ page_run page last s.size pages_order;
        first_page = first_set F;
        first_byte = cell F (first_set F);
        first_touched = (to_set (first_set F) (cell F (first_set F)) f, page_end (first_set F) s.size pos);
        last_page = past_set F - 1;
        last_byte = cell F (past_set F - 1);
        last_touched = (
          to_set (past_set F - 1) (cell F (past_set F - 1)) t,
          let e = ends in
              let z = long in
              let q = page_start (past_set F - 1) s.size in
              omega arith,
        );
      }

pub accepted_shows_holds : AcceptedShows
accepted_shows_holds s room file z =
    let a = accepts s room file z in
    rw a.is (shows_image s file a.ok a.right a.some)

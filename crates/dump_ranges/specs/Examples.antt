-- Worked examples in one table: what the definitions give beside what document 02 says of it, and the one
-- statement that they agree.
use Rattle.std.specs.Prelude.{◌≡◌, List, [], ◌∷◌, ℕ, replicate}
use Rattle.std.proofs.lemmas.List.Edits.{sets}
use Rattle.dump_ranges.specs.Answers.{ranges_answer, ranges_list, first_answer}

-- the answer of the ranges, number, more and held, with the list buffer behind it
unfoldable pub ranges_told : (page_size : ℕ) → (a b list : List ℕ) → List ℕ
ranges_told size a b list =
    let r = ranges_answer size a b list in
    r.number ∷ r.more ∷ r.held ∷ ranges_list size a b list

-- the answer of the quick form: number, differs, page and offset
unfoldable pub first_told : (page_size : ℕ) → (a b : List ℕ) → List ℕ
first_told size a b =
    let r = first_answer size a b in
    r.number ∷ r.differs ∷ r.page ∷ r.offset ∷ []

-- a dump of zeros, and one that has some bytes at a place
abbrev pub zeros : ℕ → List ℕ
zeros n = replicate n 0

abbrev pub dump : (length place : ℕ) → List ℕ → List ℕ
dump n p bytes = sets (zeros n) p bytes

pub record DumpRow : Type 0 where
  pub given : List ℕ
  pub paper : List ℕ

abbrev pub dump_row : List ℕ → List ℕ → DumpRow
dump_row g p = record { given = g; paper = p }

unfoldable pub dump_table : List DumpRow
dump_table =
    -- equal dumps, and empty ones: nothing is held, there is no more, the list buffer stays
    dump_row (ranges_told 512 (zeros 512) (zeros 512) (7 ∷ 8 ∷ [])) (0 ∷ 0 ∷ 0 ∷ 7 ∷ 8 ∷ []) ∷
    dump_row (ranges_told 1024 [] [] (7 ∷ 8 ∷ [])) (0 ∷ 0 ∷ 0 ∷ 7 ∷ 8 ∷ []) ∷
    dump_row (first_told 512 (zeros 512) (zeros 512)) (0 ∷ 0 ∷ 0 ∷ 0 ∷ []) ∷
    -- a range over the border of two pages is one; the quick form tells its first byte
    dump_row (ranges_told 512 (zeros 1024) (dump 1024 510 (1 ∷ 2 ∷ 3 ∷ 4 ∷ [])) (7 ∷ 8 ∷ 9 ∷ [])) (0 ∷ 0 ∷ 1 ∷ 510 ∷ 4 ∷ 9 ∷ []) ∷
    dump_row (first_told 512 (zeros 1024) (dump 1024 512 (1 ∷ []))) (0 ∷ 1 ∷ 1 ∷ 0 ∷ []) ∷
    dump_row (first_told 1024 (zeros 1024) (dump 1024 1023 (1 ∷ []))) (0 ∷ 1 ∷ 0 ∷ 1023 ∷ []) ∷
    -- three ranges, and room for two whole: the first two are held, more exist, the odd number stays
    dump_row (ranges_told 512 (zeros 512) (dump 512 0 (1 ∷ 0 ∷ 1 ∷ 1 ∷ 0 ∷ 1 ∷ [])) (7 ∷ 7 ∷ 7 ∷ 7 ∷ 9 ∷ []))
    (0 ∷ 1 ∷ 2 ∷ 0 ∷ 1 ∷ 2 ∷ 2 ∷ 9 ∷ []) ∷
    -- room for one number takes no range
    dump_row (ranges_told 512 (zeros 512) (dump 512 511 (1 ∷ [])) (7 ∷ [])) (0 ∷ 1 ∷ 0 ∷ 7 ∷ []) ∷
    -- 2 comes first; 31 for unlike lengths, and for a length that is not whole pages
    dump_row (ranges_told 513 (zeros 2) (zeros 3) (7 ∷ 8 ∷ [])) (2 ∷ 0 ∷ 0 ∷ 7 ∷ 8 ∷ []) ∷
    dump_row (ranges_told 512 (zeros 512) (zeros 1024) (7 ∷ 8 ∷ [])) (31 ∷ 0 ∷ 0 ∷ 7 ∷ 8 ∷ []) ∷
    dump_row (first_told 1024 (zeros 512) (zeros 512)) (31 ∷ 0 ∷ 0 ∷ 0 ∷ []) ∷ []

abbrev pub AllAgree : List DumpRow → Type 0
AllAgree [] = Unit {0}
AllAgree (r ∷ rows) = (r.given ≡ r.paper) × AllAgree rows

abbrev pub ExamplesAgree : Type 0
ExamplesAgree = AllAgree dump_table

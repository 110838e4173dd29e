-- What is claimed of two dumps compared (document 02, k), beyond the answers of one call. Types alone:
-- `Claims` in proofs/Laws proves each.
use Rattle.std.specs.Prelude.{◌≡◌, List, [], ◌∷◌, ◌++◌, ◌↔◌, ◌⊎◌, ℕ, suc, ◌+◌, ◌*◌, ◌<◌, ◌≤◌, length, take, drop, get_or}
use Rattle.dump_ranges.specs.Ranges.{Range, range, ranges, listed}
use Rattle.dump_ranges.specs.Answers.{dump_refusal, ranges_answer, ranges_list, first_answer}

-- at a place of the dumps their bytes are equal; at a place of the dumps they differ
abbrev pub EqualAt : (a b : List ℕ) → (place : ℕ) → Type 0
EqualAt a b k = get_or a k 0 ≡ get_or b k 0

abbrev pub DiffersAt : (a b : List ℕ) → (place : ℕ) → Type 0
DiffersAt a b k = (k < length a) × (EqualAt a b k → ⊥)

-- a range has a place; one of the ranges has it
abbrev pub InRange : Range → (place : ℕ) → Type 0
InRange r k = (r.start ≤ k) × (k < r.start + r.length)

abbrev pub Covered : List Range → (place : ℕ) → Type 0
Covered [] k = ⊥
Covered (r ∷ rs) k = InRange r k ⊎ Covered rs k

-- Ranges that rise and don't touch: none is empty, and behind each at least one byte is left out before the
-- next one starts.
abbrev pub Rising : (from : ℕ) → List Range → Type 0
Rising from [] = Unit {0}
Rising from (r ∷ rs) = (from ≤ r.start) × (0 < r.length) × Rising (suc (r.start + r.length)) rs

-- A range that is as long as possible: the byte before it and the one behind it are equal, or there is none.
pub record Longest (a b : List ℕ) (r : Range) : Type 0 where
  pub before : (k : ℕ) → suc k ≡ r.start → EqualAt a b k
  pub behind : r.start + r.length < length a → EqualAt a b (r.start + r.length)

abbrev pub Each : (Range → Type 0) → List Range → Type 0
Each P [] = Unit {0}
Each P (r ∷ rs) = P r × Each P rs

-- The ranges of two dumps of one length cover exactly the bytes that differ.
abbrev pub RangesCover : Type 0
RangesCover = (a b : List ℕ) → length a ≡ length b → (k : ℕ) → Covered (ranges a b) k ↔ DiffersAt a b k

-- The ranges of two dumps rise and don't touch.
abbrev pub RangesRise : Type 0
RangesRise = (a b : List ℕ) → Rising 0 (ranges a b)

-- Each range of two dumps of one length is as long as possible.
abbrev pub RangesLongest : Type 0
RangesLongest = (a b : List ℕ) → length a ≡ length b → Each (Longest a b) (ranges a b)

-- No other list of ranges rises, does not touch and covers exactly the bytes that differ.
abbrev pub RangesOnly : Type 0
RangesOnly = (a b : List ℕ) → length a ≡ length b → (rs : List Range) → Rising 0 rs → ((k : ℕ) → Covered rs k ↔ DiffersAt a b k)
    → rs ≡ ranges a b

-- two dumps that a call accepts
abbrev pub Accepted : (page_size : ℕ) → (a b : List ℕ) → Type 0
Accepted size a b = dump_refusal size (length a) (length b) ≡ 0

-- An accepted call says that more ranges exist exactly if there are more than it holds.
abbrev pub MoreExactly : Type 0
MoreExactly = (size : ℕ) (a b list : List ℕ) → Accepted size a b
    → (ranges_answer size a b list).more ≡ 1 ↔ (ranges_answer size a b list).held < length (ranges a b)

-- Else, where it holds all of them, it says 0.
abbrev pub NoMore : Type 0
NoMore = (size : ℕ) (a b list : List ℕ) → Accepted size a b
    → (ranges_answer size a b list).more ≡ 0 ↔ (ranges_answer size a b list).held ≡ length (ranges a b)

-- An accepted call answers the number 0.
abbrev pub AcceptedZero : Type 0
AcceptedZero = (size : ℕ) (a b list : List ℕ) → Accepted size a b
    → ((ranges_answer size a b list).number ≡ 0) × ((first_answer size a b).number ≡ 0)

-- What a refused call answers: its number, and nothing found. The list buffer is as it was lent.
pub record NothingFound (size : ℕ) (a b list : List ℕ) : Type 0 where
  pub ranges_number : (ranges_answer size a b list).number ≡ dump_refusal size (length a) (length b)
  pub no_more : (ranges_answer size a b list).more ≡ 0
  pub none_held : (ranges_answer size a b list).held ≡ 0
  pub list_stays : ranges_list size a b list ≡ list
  pub first_number : (first_answer size a b).number ≡ dump_refusal size (length a) (length b)
  pub no_difference : (first_answer size a b).differs ≡ 0
  pub no_page : (first_answer size a b).page ≡ 0
  pub no_offset : (first_answer size a b).offset ≡ 0

-- Every refused call answers so.
abbrev pub RefusedFindsNothing : Type 0
RefusedFindsNothing = (size : ℕ) (a b list : List ℕ) → (Accepted size a b → ⊥) → NothingFound size a b list

-- What a list buffer holds afterwards: the first ranges, all of them or as many as it takes whole. Every
-- number behind them stays.
pub record Holds (a b list : List ℕ) (held : ℕ) (after : List ℕ) : Type 0 where
  pub fits : 2 * held ≤ length list
  pub fills : held < length (ranges a b) → length list < 2 * held + 2
  pub first : take (2 * held) after ≡ listed (take held (ranges a b))
  pub rest : drop (2 * held) after ≡ drop (2 * held) list
  pub long : length after ≡ length list

-- After an accepted call the list buffer holds the first ranges.
abbrev pub HoldsFirst : Type 0
HoldsFirst = (size : ℕ) (a b list : List ℕ) → Accepted size a b
    → Holds a b list (ranges_answer size a b list).held (ranges_list size a b list)

-- The quick form says equal exactly if there is no range.
abbrev pub EqualExactly : Type 0
EqualExactly = (size : ℕ) (a b : List ℕ) → Accepted size a b → (first_answer size a b).differs ≡ 0 ↔ ranges a b ≡ []

-- Where it says equal, page and offset are 0.
abbrev pub EqualZeros : Type 0
EqualZeros = (size : ℕ) (a b : List ℕ) → Accepted size a b → (first_answer size a b).differs ≡ 0
    → ((first_answer size a b).page ≡ 0) × ((first_answer size a b).offset ≡ 0)

-- the quick form tells a place: that of a difference, by its page and the offset in it
pub record Tells (size : ℕ) (a b : List ℕ) (place : ℕ) : Type 0 where
  pub differs : (first_answer size a b).differs ≡ 1
  pub told : (first_answer size a b).page * size + (first_answer size a b).offset ≡ place
  pub in_page : (first_answer size a b).offset < size

-- The place that the quick form tells is the first byte of the first range.
abbrev pub FirstOfRanges : Type 0
FirstOfRanges = (size : ℕ) (a b : List ℕ) (r : Range) (rs : List Range) → Accepted size a b → ranges a b ≡ r ∷ rs
    → Tells size a b r.start

-- ranges, each moved to a later place; a range that ends by a place
unfoldable pub moved : (by : ℕ) → List Range → List Range
moved p [] = []
moved p (r ∷ rs) = range (p + r.start) r.length ∷ moved p rs

abbrev pub EndsBy : (place : ℕ) → Range → Type 0
EndsBy e r = r.start + r.length ≤ e

-- Where the ranges up to r were held, and those behind it were not: the rest of both dumps from a place on
-- has, moved to their places in the dumps, some ranges that end by the end of r, and then exactly those that
-- were not held, which start behind that end.
pub record RestGoesOn (a b : List ℕ) (place : ℕ) (r : Range) (not_held : List Range) : Type 0 where
  pub again : List Range
  pub all : moved place (ranges (drop place a) (drop place b)) ≡ again ++ not_held
  pub ended : Each (EndsBy (r.start + r.length)) again
  pub later : Rising (suc (r.start + r.length)) not_held

-- A comparison goes on from every place that is not behind the end of the last range held.
abbrev pub PiecesGoOn : Type 0
PiecesGoOn = (a b : List ℕ) → length a ≡ length b → (rs : List Range) (r : Range) (qs : List Range) → ranges a b ≡ rs ++ r ∷ qs
    → (place : ℕ) → place ≤ r.start + r.length → RestGoesOn a b place r qs

-- Behind n ranges the next one starts at place 2 n or later: with room for one more than half a page's bytes,
-- a full list buffer reaches the next page.
abbrev pub PiecesReach : Type 0
PiecesReach = (a b : List ℕ) (rs : List Range) (r : Range) (qs : List Range) → ranges a b ≡ rs ++ r ∷ qs → 2 * length rs ≤ r.start

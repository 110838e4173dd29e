-- What the two calls on dumps answer, and what the list buffer then holds, for all inputs (document 02, k).
use Rattle.std.specs.Prelude.{Bool, cond, ◌&&◌, List, ◌++◌, ℕ, ◌*◌, ◌/◌, ◌%◌, eqb, ltb, length, take, drop}
use Rattle.numbers.specs.Numbers.{bad_page_size, bad_dumps}
use Rattle.settings.specs.Accepted.{is_page_size}
use Rattle.dump_ranges.specs.declared.RangesFound.{RangesFound}
use Rattle.dump_ranges.specs.declared.DifferenceFound.{DifferenceFound}
use Rattle.dump_ranges.specs.Ranges.{Range, ranges, listed, equal_bytes}

-- the dumps are of one length, and that is a whole number of pages
unfoldable pub are_dumps : (page_size length_a length_b : ℕ) → Bool
are_dumps size n m = eqb n m && eqb (n % size) 0

-- the number by which dumps of these lengths are refused, tested in this order, or 0
unfoldable pub dump_refusal : (page_size length_a length_b : ℕ) → ℕ
dump_refusal size n m = cond (is_page_size size) (cond (are_dumps size n m) 0 bad_dumps) bad_page_size

-- what an accepted call gives, else what a refused one gives
abbrev pub accepted_or : {A : Type 0} → (page_size : ℕ) → (a b : List ℕ) → A → A → A
accepted_or size a b x y = cond (eqb (dump_refusal size (length a) (length b)) 0) x y

-- The ranges that are held: the first ones, as many as a list buffer of so many numbers takes whole.
abbrev pub ranges_held : (numbers : ℕ) → (a b : List ℕ) → List Range
ranges_held n a b = take (n / 2) (ranges a b)

-- The answer of accepted dumps says how many are held, and whether there are more than the list buffer takes.
unfoldable pub ranges_found : (a b list : List ℕ) → RangesFound
ranges_found a b list = record {
  number = 0;
  more = cond (ltb (length list / 2) (length (ranges a b))) 1 0;
  held = length (ranges_held (length list) a b);
}

-- A refused call holds nothing.
unfoldable pub ranges_refused : (number : ℕ) → RangesFound
ranges_refused n = record { number = n; more = 0; held = 0 }

unfoldable pub ranges_answer : (page_size : ℕ) → (a b list : List ℕ) → RangesFound
ranges_answer size a b list = accepted_or size a b (ranges_found a b list) (ranges_refused (dump_refusal size (length a) (length b)))

-- The list buffer afterwards: the ranges that are held, and past them as it was.
unfoldable pub list_filled : (a b list : List ℕ) → List ℕ
list_filled a b list =
    listed (ranges_held (length list) a b) ++ drop (2 * length (ranges_held (length list) a b)) list

-- A refused call leaves the list buffer as it was.
unfoldable pub ranges_list : (page_size : ℕ) → (a b list : List ℕ) → List ℕ
ranges_list size a b list = accepted_or size a b (list_filled a b list) list

-- The quick form's answer: the page and the offset in it of the first difference, or that the dumps are
-- equal.
unfoldable pub first_found : (page_size : ℕ) → (a b : List ℕ) → DifferenceFound
first_found size a b =
    cond (ltb (equal_bytes a b) (length a))
    (record { number = 0; differs = 1; page = equal_bytes a b / size; offset = equal_bytes a b % size })
    (record { number = 0; differs = 0; page = 0; offset = 0 })

unfoldable pub first_refused : (number : ℕ) → DifferenceFound
first_refused n = record { number = n; differs = 0; page = 0; offset = 0 }

unfoldable pub first_answer : (page_size : ℕ) → (a b : List ℕ) → DifferenceFound
first_answer size a b = accepted_or size a b (first_found size a b) (first_refused (dump_refusal size (length a) (length b)))

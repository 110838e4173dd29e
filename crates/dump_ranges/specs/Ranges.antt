-- Where two dumps differ (document 02, k): the ranges of differing bytes, "each as long as possible, rising,
-- covering exactly the bytes that differ". `Claims` says these words as types, and that no other list of
-- ranges meets them.
use Rattle.std.specs.Prelude.{cond, List, [], ◌∷◌, ℕ, suc, eqb}

-- A range of a dump's bytes: the place of its first byte, counted from 0, and how many bytes it has.
pub record Range : Type 0 where
  pub start : ℕ
  pub length : ℕ

abbrev pub range : (start length : ℕ) → Range
range s n = record { start = s; length = n }

-- Ranges with one differing byte more, at a place before all of them: the first range takes it in if it
-- starts right behind that place; else the byte is a range by itself.
unfoldable pub grown : (place : ℕ) → List Range → List Range
grown p [] = range p 1 ∷ []
grown p (r ∷ rs) = cond (eqb r.start (suc p)) (range p (suc r.length) ∷ rs) (range p 1 ∷ r ∷ rs)

-- The ranges of two dumps, or of what is left of them from a place on.
unfoldable pub ranges_from : (place : ℕ) → (a b : List ℕ) → List Range
ranges_from p [] b = []
ranges_from p (x ∷ a) [] = []
ranges_from p (x ∷ a) (y ∷ b) = let rest = ranges_from (suc p) a b in cond (eqb x y) rest (grown p rest)

abbrev pub ranges : (a b : List ℕ) → List Range
ranges a b = ranges_from 0 a b

-- Ranges as the list buffer has them: start then length, for each.
unfoldable pub listed : List Range → List ℕ
listed [] = []
listed (r ∷ rs) = r.start ∷ r.length ∷ listed rs

-- How many bytes are equal from the beginning on: the place of the first difference, or the dumps' length.
unfoldable pub equal_bytes : (a b : List ℕ) → ℕ
equal_bytes [] b = 0
equal_bytes (x ∷ a) [] = 0
equal_bytes (x ∷ a) (y ∷ b) = cond (eqb x y) (suc (equal_bytes a b)) 0

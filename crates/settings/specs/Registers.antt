-- Pairs of register and value (document 02, e): what some devices want written before their flash is touched.
use Rattle.std.specs.Prelude.{Bool, true, false, not, cond, ◌&&◌, ◌||◌, List, [], ◌∷◌, ℕ, zero, suc, eqb, ltb, leb, get_or}
use Rattle.settings.specs.declared.Pairs.{Pairs}

-- a register and the value that is written to it
pub record Pair : Type 0 where
  pub register : ℕ
  pub value : ℕ

-- the pair of this number, counted from 0
abbrev pub pair_at : Pairs → ℕ → Pair
pair_at p i = record { register = get_or p.registers i 0; value = get_or p.values i 0 }

-- so many pairs in order, from that of this number on
unfoldable pub pairs_from : Pairs → (number count : ℕ) → List Pair
pairs_from p i zero = []
pairs_from p i (suc n) = pair_at p i ∷ pairs_from p (suc i) n

-- the pairs that are named; entries from the count on are not looked at
abbrev pub pairs_of : Pairs → List Pair
pairs_of p = pairs_from p 0 p.count

-- no pairs
abbrev pub no_pairs : Pairs
no_pairs = record { count = 0; registers = 0 ∷ 0 ∷ 0 ∷ 0 ∷ []; values = 0 ∷ 0 ∷ 0 ∷ 0 ∷ [] }

-- a register that a pair may name: neither below 3 nor the FPDAT address
abbrev pub is_register : (fpdat register : ℕ) → Bool
is_register fpdat r = leb 3 r && not (eqb r fpdat)

unfoldable pub are_registers : (fpdat : ℕ) → List Pair → Bool
are_registers fpdat [] = true
are_registers fpdat (p ∷ ps) = is_register fpdat p.register && are_registers fpdat ps

-- pairs that are accepted: at most four, each of a register that it may name
unfoldable pub are_pairs : (fpdat : ℕ) → Pairs → Bool
are_pairs fpdat p = leb p.count 4 && are_registers fpdat (pairs_of p)

-- the four entries with 0 for those that are not named
abbrev pub named : (count : ℕ) → (entries : List ℕ) → List ℕ
named n xs =
    cond (ltb 0 n) (get_or xs 0 0) 0 ∷ cond (ltb 1 n) (get_or xs 1 0) 0 ∷ cond (ltb 2 n) (get_or xs 2 0) 0 ∷ cond (ltb 3 n) (get_or xs 3 0) 0 ∷ []

-- the same pairs with entries that are not named 0: what a session keeps of them
unfoldable pub tidy : Pairs → Pairs
tidy p = record { count = p.count; registers = named p.count p.registers; values = named p.count p.values }

-- whether the entry of this number is named, or 0
abbrev pub named_or_0 : Pairs → ℕ → Bool
named_or_0 p i = ltb i p.count || (eqb (pair_at p i).register 0 && eqb (pair_at p i).value 0)

-- whether entries that are not named are 0
unfoldable pub is_tidy : Pairs → Bool
is_tidy p = named_or_0 p 0 && (named_or_0 p 1 && (named_or_0 p 2 && named_or_0 p 3))

-- Whether these writes, in order, leave the value of a pair in its register: the last of them to it decides, or
-- what stood there before.
unfoldable pub leaves : (before : Bool) → List Pair → Pair → Bool
leaves b [] w = b
leaves b (p ∷ ps) w = leaves (cond (eqb p.register w.register) (eqb p.value w.value) b) ps w

-- whether these writes, from a reset on, leave the value of every wanted pair in its register
unfoldable pub leave_all : List Pair → (wanted : List Pair) → Bool
leave_all ps [] = true
leave_all ps (w ∷ ws) = leaves false ps w && leave_all ps ws

-- Laws of the lines that are written: each is judged to be its record, and reading them sets the image's
-- bytes.
use mathlib.Core.Path.{◌≡◌, refl, sym, ap, ◌∙◌}
use mathlib.Core.Bool.{true, false, cond}
use mathlib.Core.List.{List, [], ◌∷◌, ◌++◌, append_assoc}
use Prim.Native.Nat.{ℕ, zero, suc, ◌+◌, ◌*◌, ◌/◌, ◌%◌, ◌≤◌, ◌<◌}
use native.Mathlib.Omega.{arith}
use native.Mathlib.Decide.{dec_lt}
use borrow.Author.Tests.{lt-ltb, le-ltb, le-leb, ne_eqb}
use lib.Dec.{ltb, eqb}
use lib.ListN.{length, take, drop, set, length-append, length-drop, take-append-drop}
use lib.Seq.{take_at, drop_at, sets, length-sets, drop-set-lt, length-take-le, drop-drop}
use Rattle.laws.proofs.Tests.{both}
use Rattle.laws.proofs.Below.{same_below}
use Rattle.std.specs.Prelude.{Ok}
use Rattle.hex_format.specs.declared.Record.TheVariants.{Data}
use Rattle.laws.specs.Bytes.{Bytes}
use Rattle.hex_format.specs.Digits.{digit, all_digits, octet, octets, upper, text}
use Rattle.hex_format.specs.Lines.{sum, is_end, count, digits, is_line, adds_up, kind, address, data_of, kinded, judged_line}
use Rattle.hex_format.specs.Reading.{joined_line, lines, all_unset, took, placed, taken_as, line_taken, ended_with, lines_taken}
use Rattle.hex_format.specs.Writing.{checksum, line_of, data_line, last_line, data_lines}
use Rattle.hex_format.proofs.Laws.Steps.{step_on}

digit_upper : (n : ℕ) → n < 16 → digit (upper n) ≡ n
unfolding digit upper
digit_upper n h = same_below (λ n. digit (upper n)) (λ n. n) 16 refl n h

octet_upper : (b : ℕ) → b < 256 → octet (upper (b / 16)) (upper (b % 16)) ≡ b
unfolding octet
octet_upper b h = rw (digit_upper (b / 16) (omega arith), digit_upper (b % 16) (omega arith)) (omega arith)

pub bytes_append : (s t : List ℕ) → Bytes s → Bytes t → Bytes (s ++ t)
bytes_append [] t h k = k
bytes_append (b ∷ s) t h k = (h.0, bytes_append s t h.1 k)

pub bytes_take : (n : ℕ) (s : List ℕ) → Bytes s → Bytes (take n s)
bytes_take zero s h = tt
bytes_take (suc n) [] h = tt
bytes_take (suc n) (b ∷ s) h = (h.0, bytes_take n s h.1)

pub bytes_drop : (n : ℕ) (s : List ℕ) → Bytes s → Bytes (drop n s)
bytes_drop zero s h = h
bytes_drop (suc n) [] h = tt
bytes_drop (suc n) (b ∷ s) h = bytes_drop n s h.1

text_length : (s : List ℕ) → length (text s) ≡ 2 * length s
unfolding text
text_length [] = refl
text_length (b ∷ s) = let e = text_length s in omega arith

text_append : (s t : List ℕ) → text (s ++ t) ≡ text s ++ text t
unfolding text
text_append [] t = refl
text_append (b ∷ s) t = ap (λ x. upper (b / 16) ∷ upper (b % 16) ∷ x) (text_append s t)

text_octets : (s : List ℕ) → Bytes s → octets (text s) ≡ s
unfolding text octets
text_octets [] h = refl
text_octets (b ∷ s) h = rw (octet_upper b h.0, text_octets s h.1)

text_digits : (s : List ℕ) → Bytes s → all_digits (text s) ≡ true
unfolding text all_digits
text_digits [] h = refl
text_digits (b ∷ s) h =
    let p : b / 16 < 16 = omega (arith, h.0) in
    let q : b % 16 < 16 = omega arith in
    rw (digit_upper (b / 16) p, digit_upper (b % 16) q, lt-ltb (b / 16) 16 p, lt-ltb (b % 16) 16 q) (text_digits s h.1)

-- the line of a whole record: length, address, type, data and checksum
module _ (n h w k : ℕ) (d : List ℕ) (long : length d ≡ n + 1) (all : Bytes (n ∷ h ∷ w ∷ k ∷ d)) where
  count_is : count (58 ∷ (text (n ∷ h ∷ w ∷ k ∷ d) ++ (10 ∷ []))) ≡ n
  unfolding count text
  count_is = octet_upper n all.0

  text_long : length (text (n ∷ h ∷ w ∷ k ∷ d)) ≡ 2 * n + 10
  text_long = let e = text_length (n ∷ h ∷ w ∷ k ∷ d) in omega (arith, e)

  digits_are : digits (58 ∷ (text (n ∷ h ∷ w ∷ k ∷ d) ++ (10 ∷ []))) ≡ text (n ∷ h ∷ w ∷ k ∷ d)
  digits_are = rw count_is (take_at (text (n ∷ h ∷ w ∷ k ∷ d)) (10 ∷ []) (2 * n + 10) text_long)

  line_is : is_line (58 ∷ (text (n ∷ h ∷ w ∷ k ∷ d) ++ (10 ∷ []))) ≡ true
  unfolding is_line is_end
  line_is =
      let p : 2 * n + 11 ≡ suc (2 * n + 10) = omega arith in
      rw (digits_are, text_digits (n ∷ h ∷ w ∷ k ∷ d) all, count_is, p, drop_at (text (n ∷ h ∷ w ∷ k ∷ d)) (10 ∷ []) (2 * n + 10) text_long)

  kind_is : kind (58 ∷ (text (n ∷ h ∷ w ∷ k ∷ d) ++ (10 ∷ []))) ≡ k
  unfolding kind text
  kind_is = octet_upper k all.1.1.1.0

  address_is : address (58 ∷ (text (n ∷ h ∷ w ∷ k ∷ d) ++ (10 ∷ []))) ≡ 256 * h + w
  unfolding address text
  address_is = rw (octet_upper h all.1.0, octet_upper w all.1.1.0)

  pub judged_is : (flash : ℕ) → sum (n ∷ h ∷ w ∷ k ∷ d) % 256 ≡ 0 → judged_line flash (58 ∷ (text (n ∷ h ∷ w ∷ k ∷ d) ++ (10 ∷ []))) ≡ kinded flash k n (256 * h + w)
  unfolding judged_line adds_up
  judged_is flash e = rw (line_is, digits_are, text_octets (n ∷ h ∷ w ∷ k ∷ d) all, e, kind_is, count_is, address_is)

-- the data of a line
pub data_is : (n h w k s : ℕ) (bs : List ℕ) → length bs ≡ n → n < 256 → Bytes bs
    → data_of (58 ∷ (text (n ∷ h ∷ w ∷ k ∷ (bs ++ (s ∷ []))) ++ (10 ∷ []))) ≡ bs
unfolding data_of count text
data_is n h w k s bs long small all =
    let m : length (text bs) ≡ 2 * n = text_length bs ∙ ap (λ x. 2 * x) long in
    rw (octet_upper n small, text_append bs (s ∷ []), append_assoc (text bs) (text (s ∷ [])) (10 ∷ []), take_at (text bs) (text (s ∷ []) ++ (10 ∷ [])) (2 * n) m)
    (text_octets bs all)

-- the sum with the checksum
sum_append : (s t : List ℕ) → sum (s ++ t) ≡ sum s + sum t
unfolding sum
sum_append [] t = omega arith
sum_append (a ∷ s) t = let e = sum_append s t in omega arith

pub sum_is : (s : List ℕ) → sum (s ++ (checksum s ∷ [])) % 256 ≡ 0
unfolding checksum sum
sum_is s = rw (sum_append s (checksum s ∷ [])) (omega arith)

pub check_byte : (s : List ℕ) → checksum s < 256
unfolding checksum
check_byte s = omega arith

-- lines of a file that starts with a line
abbrev Plain : List ℕ → Type 0
Plain [] = Unit {0}
Plain (b ∷ p) = (b ≡ 10 → ⊥) × Plain p

lines_cut : (p r : List ℕ) → Plain p → lines (p ++ (10 ∷ r)) ≡ (p ++ (10 ∷ [])) ∷ lines r
unfolding lines joined_line
lines_cut [] r h = refl
lines_cut (b ∷ p) r h = rw (ne_eqb b 10 h.0, lines_cut p r h.1)

upper_plain : (n : ℕ) → upper n ≡ 10 → ⊥
unfolding upper
upper_plain n = go (dec_lt n 10)
  where
    go : Dec (n < 10) → cond (ltb n 10) (n + 48) (n + 55) ≡ 10 → ⊥
    go (yes y) e = let f = rw (lt-ltb n 10 y) at e in omega arith
    go (no y) e = let f = rw (le-ltb n 10 (omega arith)) at e in omega arith

text_plain : (s : List ℕ) → Plain (text s)
unfolding text
text_plain [] = tt
text_plain (b ∷ s) = (upper_plain (b / 16), (upper_plain (b % 16), text_plain s))

pub lines_of : (s r : List ℕ) → lines (line_of s ++ r) ≡ line_of s ∷ lines r
unfolding line_of
lines_of s r =
    let t = text (s ++ (checksum s ∷ [])) in
    rw (append_assoc t (10 ∷ []) r) (lines_cut (58 ∷ t) r ((λ e. absurd (omega arith)), text_plain (s ++ (checksum s ∷ []))))

-- a data line, judged and taken
pub data_judged : (flash a : ℕ) (bs : List ℕ) → length bs ≡ 16 → a + 16 ≤ flash → flash ≤ 65536 → Bytes bs → judged_line flash (data_line a bs) ≡ Ok (Data a 16)
unfolding data_line line_of kinded
data_judged flash a bs long fits small all =
    let h : a / 256 < 256 = omega arith in
    let r = length bs ∷ a / 256 ∷ a % 256 ∷ 0 ∷ bs in
    let d : length (bs ++ (checksum r ∷ [])) ≡ length bs + 1 = length-append bs (checksum r ∷ []) in
    let x : 256 * (a / 256) + a % 256 ≡ a = omega arith in
    judged_is (length bs) (a / 256) (a % 256) 0 (bs ++ (checksum r ∷ [])) d (omega arith, (h, (omega arith, (omega arith, bytes_append bs (checksum r ∷ []) all (check_byte r, tt))))) flash (sum_is r)
    ∙ rw (long, x, le-leb (a + 16) flash fits)

data_back : (a : ℕ) (bs : List ℕ) → length bs ≡ 16 → Bytes bs → data_of (data_line a bs) ≡ bs
unfolding data_line line_of
data_back a bs long all =
    data_is (length bs) (a / 256) (a % 256) 0 (checksum (length bs ∷ a / 256 ∷ a % 256 ∷ 0 ∷ bs)) bs refl (omega arith) all

pub data_taken : (a : ℕ) (bs cells : List ℕ) → length bs ≡ 16 → a + 16 ≤ length cells → length cells ≤ 65536 → Bytes bs → all_unset (take 16 (drop a cells)) ≡ true
    → line_taken false cells (data_line a bs) ≡ took 0 false (sets cells a bs)
unfolding line_taken taken_as placed
data_taken a bs cells long fits small all free =
    rw (data_judged (length cells) a bs long fits small all, free) (ap (λ v. took 0 false (sets cells a v)) (data_back a bs long all))

last_taken : (cells : List ℕ) → line_taken false cells last_line ≡ took 0 true cells
unfolding line_taken taken_as judged_line adds_up kinded is_line all_digits digit octet octets sum is_end count address kind last_line line_of text upper checksum
last_taken cells = refl

last_lines : lines last_line ≡ last_line ∷ []
unfolding lines joined_line last_line line_of text upper checksum sum
last_lines = refl

-- runs of stores
sets_append : (vs ws l : List ℕ) (i : ℕ) → sets l i (vs ++ ws) ≡ sets (sets l i vs) (i + length vs) ws
sets_append [] ws l i = let e : i + 0 ≡ i = omega arith in rw e
sets_append (v ∷ vs) ws l i =
    let e : suc i + length vs ≡ i + suc (length vs) = omega arith in
    sets_append vs ws (set l i v) (suc i) ∙ ap (λ k. sets (sets (set l i v) (suc i) vs) k ws) e

pub drop_sets : (vs l : List ℕ) (i k : ℕ) → i + length vs ≤ k → drop k (sets l i vs) ≡ drop k l
drop_sets [] l i k h = refl
drop_sets (v ∷ vs) l i k h = drop_sets vs (set l i v) (suc i) k (omega arith) ∙ drop-set-lt k l i v (omega arith)

pub unset_drop : (k : ℕ) (s : List ℕ) → all_unset s ≡ true → all_unset (drop k s) ≡ true
unfolding all_unset
unset_drop zero s e = e
unset_drop (suc k) [] e = refl
unset_drop (suc k) (a ∷ s) e = unset_drop k s (both (eqb a 256) (all_unset s) e).1

unset_take : (k : ℕ) (s : List ℕ) → all_unset s ≡ true → all_unset (take k s) ≡ true
unfolding all_unset
unset_take zero s e = refl
unset_take (suc k) [] e = refl
unset_take (suc k) (a ∷ s) e = let b = both (eqb a 256) (all_unset s) e in rw b.0 (unset_take k s b.1)

cut_line : (a : ℕ) (bs rest : List ℕ) → lines (data_line a bs ++ rest) ≡ data_line a bs ∷ lines rest
unfolding data_line
cut_line a bs rest = lines_of (length bs ∷ a / 256 ∷ a % 256 ∷ 0 ∷ bs) rest

ends : (m : ℕ) (cells : List ℕ) → lines_taken m true cells [] ≡ ended_with 0 0 cells
unfolding lines_taken
ends m cells = refl

data_lines_of : (a : ℕ) (bs rest : List ℕ) (line : ℕ) (cells after : List ℕ) → line_taken false cells (data_line a bs) ≡ took 0 false after
    → lines_taken line false cells (lines (data_line a bs ++ rest)) ≡ lines_taken (line + 1) false after (lines rest)
data_lines_of a bs rest line cells after t = rw (cut_line a bs rest) (step_on line false false cells after (data_line a bs) (lines rest) t)

pub walk_data : (n a line : ℕ) (image cells : List ℕ) → length image ≡ 16 * n → a + 16 * n ≤ length cells → length cells ≤ 65536 → Bytes image
    → all_unset (drop a cells) ≡ true → lines_taken line false cells (lines (data_lines n a image)) ≡ ended_with 0 0 (sets cells a image)
unfolding data_lines
walk_data zero a line [] cells long fits small all free = rw last_lines (step_on line false true cells cells last_line [] (last_taken cells) ∙ ends (line + 1) cells)
walk_data zero a line (x ∷ image) cells long fits small all free = absurd (omega arith)
walk_data (suc n) a line image cells long fits small all free =
    let bs = take 16 image in
    let m : length bs ≡ 16 = length-take-le 16 image (omega arith) in
    let after = sets cells a bs in
    let k : length after ≡ length cells = length-sets cells a bs in
    let t = data_taken a bs cells m (omega arith) small (bytes_take 16 image all) (unset_take 16 (drop a cells) free) in
    let free2 : all_unset (drop (a + 16) after) ≡ true = ap all_unset (drop_sets bs cells a (a + 16) (omega arith) ∙ sym (drop-drop 16 a cells)) ∙ unset_drop 16 (drop a cells) free in
    data_lines_of a bs (data_lines n (a + 16) (drop 16 image)) line cells after t
    ∙ walk_data n (a + 16) (line + 1) (drop 16 image) after (length-drop 16 image ∙ omega arith) (omega arith) (omega arith) (bytes_drop 16 image all) free2
    ∙ ap (λ c. ended_with 0 0 c) (ap (λ x. sets after x (drop 16 image)) (omega arith) ∙ sym (sets_append bs (drop 16 image) cells a) ∙ ap (λ v. sets cells a v) (take-append-drop 16 image))

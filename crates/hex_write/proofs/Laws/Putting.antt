-- Laws of the loops that write digits, a record, a line and the lines of a file.
use Rattle.std.proofs.Common.{◌≡◌, ℕ, zero, suc, ◌+◌, ◌*◌, ◌/◌, ◌%◌, ◌<◌, ◌≤◌, List, [], ◌∷◌, ◌++◌, length, get_or, take, drop, set, sym, refl, ap, ◌∙◌, append_assoc, append-nil, arith, length-append, length-drop, length-set, drop_of_length-le, length-take-le, drop-cons, drop-drop, take_at, drop_at}
use Rattle.std.specs.Prelude.{Result, Ok, Err, IsErrAnd}
use Rattle.numbers.specs.Numbers.{refusal_number}
use Rattle.numbers.specs.declared.Refusal.{Refusal}
use lib.Seq.{set_at}
use borrow.Rule.Slice.PartMut.{put_mid}
use Rattle.std.specs.List.{fold}
use Rattle.hex_format.specs.Lines.{sum}
use Rattle.hex_format.proofs.Laws.Lines.{low_byte}
use Rattle.hex_write.specs.Code.Firsts.{firsts}
use Rattle.hex_format.specs.Digits.{upper, text}
use Rattle.hex_format.specs.Writing.{line_of, data_line, last_line, data_lines, checksum, writing_done}
use Rattle.hex_write.specs.Code.Write.{writing_of}

pub text_long : (s : List ℕ) → length (text s) ≡ 2 * length s
unfolding text
text_long [] = refl
text_long (b ∷ s) = let e = text_long s in omega arith

pub text_high : (s : List ℕ) (i : ℕ) → i < length s → get_or (text s) (2 * i) 0 ≡ upper (get_or s i 0 / 16)
unfolding text
text_high [] i h = absurd (omega arith)
text_high (b ∷ s) zero h = refl
text_high (b ∷ s) (suc i) h = let p : 2 * suc i ≡ suc (suc (2 * i)) = omega arith in rw p (text_high s i (omega arith))

pub text_low : (s : List ℕ) (i : ℕ) → i < length s → get_or (text s) (2 * i + 1) 0 ≡ upper (get_or s i 0 % 16)
unfolding text
text_low [] i h = absurd (omega arith)
text_low (b ∷ s) zero h = refl
text_low (b ∷ s) (suc i) h = let p : 2 * suc i + 1 ≡ suc (suc (2 * i + 1)) = omega arith in rw p (text_low s i (omega arith))

-- the bytes folded by wrapping add are the low byte of their sum
pub fold_is : (s : List ℕ) (t : ℕ) → fold (λ x b. (x + b) % 256) t s % 256 ≡ (t + sum s) % 256
unfolding sum
fold_is [] t = omega arith
fold_is (b ∷ s) t = fold_is s ((t + b) % 256) ∙ low_byte t b (sum s)

-- a record's bytes as they are put
abbrev pub head : (out : List ℕ) (h w : ℕ) → List ℕ
head out h w = set (set (set (set out 0 16) 1 h) 2 w) 3 0

pub head_long : (out : List ℕ) (h w : ℕ) → length (head out h w) ≡ length out
head_long out h w = simp length-set

pub middle : (out s c : List ℕ) (h w : ℕ) → length s ≡ 16 → length out ≡ 21 → c ≡ s
    → put_mid 4 16 (head out h w) c ≡ 16 ∷ h ∷ w ∷ 0 ∷ (s ++ (get_or out 20 0 ∷ []))
middle out s c h w long all e =
    ap (λ x. put_mid 4 16 (head out h w) x) e
    ∙ go out all
  where
    tail : (r : List ℕ) → length r ≡ 17 → drop 16 r ≡ get_or r 16 0 ∷ []
    tail r k = drop-cons r 16 0 (omega arith) ∙ ap (λ x. get_or r 16 0 ∷ x) (drop_of_length-le r {i = 17} (omega arith))

    go : (out : List ℕ) → length out ≡ 21 → put_mid 4 16 (head out h w) s ≡ 16 ∷ h ∷ w ∷ 0 ∷ (s ++ (get_or out 20 0 ∷ []))
    go [] k = absurd (omega arith)
    go (x0 ∷ []) k = absurd (omega arith)
    go (x0 ∷ x1 ∷ []) k = absurd (omega arith)
    go (x0 ∷ x1 ∷ x2 ∷ []) k = absurd (omega arith)
    go (x0 ∷ x1 ∷ x2 ∷ x3 ∷ r) k = ap (λ x. 16 ∷ h ∷ w ∷ 0 ∷ (s ++ x)) (tail r (omega arith))

-- the line as it is put
pub line_put : (out t : List ℕ) → length out ≡ 44 → length t ≡ 42 → set (put_mid 1 42 (set out 0 58) t) 43 10 ≡ 58 ∷ (t ++ (10 ∷ []))
line_put [] t k e = absurd (omega arith)
line_put (x ∷ r) t k e =
    let f : drop 42 r ≡ get_or r 42 0 ∷ [] = drop-cons r 42 0 (omega arith) ∙ ap (λ y. get_or r 42 0 ∷ y) (drop_of_length-le r {i = 43} (omega arith)) in
    ap (λ y. set (58 ∷ (t ++ y)) 43 10) f ∙ ap (λ y. 58 ∷ y) (set_at t (get_or r 42 0) [] 10 42 e)

pub line_room : (out t : List ℕ) → length out ≡ 44 → length t ≡ 42 → 43 < length (put_mid 1 42 (set out 0 58) t)
line_room out t k e = rw (← length-set (put_mid 1 42 (set out 0 58) t) 43 10, line_put out t k e, length-append) (omega arith)

-- the first lines, and the lines from there on
pub firsts_more : (r m a : ℕ) (im : List ℕ)
    → firsts r a im ++ data_lines (suc m) (a + 16 * r) (drop (16 * r) im) ≡ firsts (suc r) a im ++ data_lines m (a + 16 * suc r) (drop (16 * suc r) im)
unfolding data_lines firsts
firsts_more r m a im =
    let e : a + 16 * r + 16 ≡ a + 16 * suc r = omega arith in
    let f : 16 * r + 16 ≡ 16 * suc r = omega arith in
    sym (append_assoc (firsts r a im) (data_line (a + 16 * r) (take 16 (drop (16 * r) im))) (data_lines m (a + 16 * r + 16) (drop 16 (drop (16 * r) im))))
    ∙ rw (drop-drop 16 (16 * r) im, e, f)

pub firsts_all : (r m a : ℕ) (im : List ℕ) → firsts r a im ++ data_lines m (a + 16 * r) (drop (16 * r) im) ≡ data_lines (r + m) a im
unfolding firsts
firsts_all zero m a im =
    let e : a + 16 * 0 ≡ a = omega arith in
    let f : 0 + m ≡ m = omega arith in
    rw (e, f)
firsts_all (suc r) m a im =
    let e : suc r + m ≡ r + suc m = omega arith in
    rw e (sym (firsts_more r m a im) ∙ firsts_all r (suc m) a im)

-- a part put behind what is there
pub put_after : (p d l : List ℕ) (k : ℕ) → length p ≡ k → put_mid k 44 (p ++ d) l ≡ (p ++ l) ++ drop 44 d
put_after p d l k e = rw (take_at p d k e, drop_at p d k e) (sym (append_assoc p l (drop 44 d)))

pub line_long : (a : ℕ) (bs : List ℕ) → length bs ≡ 16 → length (data_line a bs) ≡ 44
unfolding data_line line_of
line_long a bs e =
    let r = length bs ∷ a / 256 ∷ a % 256 ∷ 0 ∷ bs in
    let n : length (r ++ (checksum r ∷ [])) ≡ 21 = rw length-append (omega arith) in
    ap suc (length-append (text (r ++ (checksum r ∷ []))) (10 ∷ [])) ∙ rw (text_long (r ++ (checksum r ∷ [])), n)

pub firsts_long : (r a : ℕ) (im : List ℕ) → 16 * r ≤ length im → length (firsts r a im) ≡ 44 * r
unfolding firsts
firsts_long zero a im h = refl
firsts_long (suc r) a im h =
    let e = firsts_long r a im (omega arith) in
    let n : length (take 16 (drop (16 * r) im)) ≡ 16 = length-take-le 16 (drop (16 * r) im) (rw (length-drop (16 * r) im) (omega arith)) in
    length-append (firsts r a im) (data_line (a + 16 * r) (take 16 (drop (16 * r) im))) ∙ rw (e, line_long (a + 16 * r) (take 16 (drop (16 * r) im)) n) (omega arith)

-- a line more in the buffer
pub put_more : (r a : ℕ) (im d l : List ℕ) → 16 * (r + 1) ≤ length im → l ≡ data_line (a + 16 * r) (take 16 (drop (16 * r) im))
    → put_mid (44 * r) 44 (firsts r a im ++ drop (44 * r) d) l ≡ firsts (r + 1) a im ++ drop (44 * (r + 1)) d
unfolding firsts
put_more r a im d l h e =
    let p : r + 1 ≡ suc r = omega arith in
    let f : 44 * r + 44 ≡ 44 * suc r = omega arith in
    put_after (firsts r a im) (drop (44 * r) d) l (44 * r) (firsts_long r a im (omega arith)) ∙ rw (e, drop-drop 44 (44 * r) d, f, p)

pub line_is : (x : ℕ) (bs : List ℕ) → length bs ≡ 16 → line_of (16 ∷ x / 256 ∷ x % 256 ∷ 0 ∷ bs) ≡ data_line x bs
unfolding data_line
line_is x bs e = rw e

-- the end of the buffer
pub put_last : (p d l : List ℕ) (k m : ℕ) → length p ≡ k → length d ≤ m → put_mid k m (p ++ d) l ≡ p ++ l
put_last p d l k m e h = rw (take_at p d k e, drop_at p d k e, drop_of_length-le d {i = m} h, append-nil l)

pub file_is : (n a : ℕ) (im : List ℕ) → firsts n a im ++ last_line ≡ data_lines n a im
unfolding data_lines
file_is n a im = let e : n + 0 ≡ n = omega arith in firsts_all n 0 a im ∙ ap (λ k. data_lines k a im) e

pub last_is : 58 ∷ 48 ∷ 48 ∷ 48 ∷ 48 ∷ 48 ∷ 48 ∷ 48 ∷ 49 ∷ 70 ∷ 70 ∷ 10 ∷ [] ≡ last_line
unfolding last_line line_of text upper checksum sum
last_is = refl

pub file_long : (n a : ℕ) (im : List ℕ) → 16 * n ≤ length im → length (data_lines n a im) ≡ 44 * n + 12
unfolding last_line line_of text upper checksum sum
file_long n a im h =
    ap length (sym (file_is n a im)) ∙ length-append (firsts n a im) last_line ∙ ap (λ k. k + 12) (firsts_long n a im h)

-- a refusal that is handed on
pub writing_err : (r : Result ℕ Refusal) (e : Refusal) (buffer : List ℕ) → IsErrAnd r (λ y. y ≡ e)
    → writing_of r buffer ≡ writing_done (refusal_number e) 0 buffer
writing_err (Ok n) e buffer p = absurd p
writing_err (Err y) e buffer p = ap (λ (x : Refusal). writing_done (refusal_number x) 0 buffer) p

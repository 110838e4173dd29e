-- The act that the code finds by arithmetic (specs/Code/Acts.antt of c2_acts) is the one that stands at that
-- place in the session's order.
use mathlib.Core.Path.{◌≡◌, refl, ap, ◌∙◌}
use mathlib.Core.Bool.{Bool, true, false, cond}
use mathlib.Core.List.{List, [], ◌∷◌, ◌++◌}
use Prim.Native.Nat.{ℕ, zero, suc, ◌+◌, ◌*◌, ◌-◌, ◌/◌, ◌%◌, ◌<◌, ◌≤◌}
use native.Mathlib.Nat.{not-suc-le-zero}
use native.Mathlib.Omega.{arith}
use native.Mathlib.Decide.{dec_lt}
use borrow.Author.Tests.{lt-ltb, le-ltb, ne_eqb, eqb-true, eqb-false}
use lib.Dec.{eqb, ltb}
use lib.ListN.{length, get_or, length-append, get_or-append}
use lib.Seq.{get_or-append-add}
use Rattle.laws.proofs.Below.{upto, same_below}
use Rattle.numbers.specs.Numbers.{bad_status, compare_differs, other_device}
use Rattle.c2_wire.specs.Exchange.{outcome}
use Rattle.settings.specs.declared.Settings.{Settings}
use Rattle.c2_order.specs.Acts.{Act, poll, expect, reset_pulse, pause_20_ms, address_write, data_write, input_taken, output_ready, put, get, status, puts, compares, length_code, Block, erase, block_command, block_write, block_read}
use Rattle.settings.specs.Registers.{Pair}
use Rattle.c2_order.specs.Order.{lead, pair_acts}
use Rattle.c2_acts.specs.declared.Stage.TheVariants.{Lead, Erase, Write, Read, Register}
use Rattle.c2_acts.specs.declared.Task.{Task}
use Rattle.c2_acts.specs.declared.Task.TheVariants.{Reset, Pause, Address, Send, Input, Output, Ident, Status, Compare}
use Rattle.c2_acts.specs.Code.Acts.{task_of}
use Rattle.c2_session.specs.Code.Bytes.{lead_byte}

-- the act of a task: it sends this byte, or expects it, with this image offset, on a device with this ID
abbrev pub task_act : Task → (byte id offset : ℕ) → Act
task_act Reset b id o = reset_pulse
task_act Pause b id o = pause_20_ms
task_act Address b id o = address_write b
task_act Send b id o = data_write b
task_act Input b id o = poll input_taken
task_act Output b id o = poll output_ready
task_act Ident b id o = expect id (outcome other_device)
task_act Status b id o = expect 13 (outcome bad_status)
task_act Compare b id o = expect b (record { number = compare_differs; offset = o })

-- the acts of bytes put in a row, and of bytes compared in a row
puts_send : (bs : List ℕ) (i : ℕ) (d : Act) → i < length bs → get_or (puts bs) (2 * i) d ≡ data_write (get_or bs i 0)
unfolding puts put
puts_send [] i d h = absurd (not-suc-le-zero h)
puts_send (b ∷ bs) zero d h = refl
puts_send (b ∷ bs) (suc i) d h =
    let e : 2 * suc i ≡ suc (suc (2 * i)) = omega arith in
    rw e (puts_send bs i d (omega arith))

puts_poll : (bs : List ℕ) (i : ℕ) (d : Act) → i < length bs → get_or (puts bs) (2 * i + 1) d ≡ poll input_taken
unfolding puts put
puts_poll [] i d h = absurd (not-suc-le-zero h)
puts_poll (b ∷ bs) zero d h = refl
puts_poll (b ∷ bs) (suc i) d h =
    let e : 2 * suc i + 1 ≡ suc (suc (2 * i + 1)) = omega arith in
    rw e (puts_poll bs i d (omega arith))

pub length_puts : (bs : List ℕ) → length (puts bs) ≡ 2 * length bs
unfolding puts put
length_puts [] = refl
length_puts (b ∷ bs) = omega (arith, length_puts bs)

compares_poll : (o : ℕ) (bs : List ℕ) (i : ℕ) (d : Act) → i < length bs → get_or (compares o bs) (2 * i) d ≡ poll output_ready
unfolding compares get
compares_poll o [] i d h = absurd (not-suc-le-zero h)
compares_poll o (b ∷ bs) zero d h = refl
compares_poll o (b ∷ bs) (suc i) d h =
    let e : 2 * suc i ≡ suc (suc (2 * i)) = omega arith in
    rw e (compares_poll (suc o) bs i d (omega arith))

compares_expect : (o : ℕ) (bs : List ℕ) (i : ℕ) (d : Act) → i < length bs
    → get_or (compares o bs) (2 * i + 1) d ≡ expect (get_or bs i 0) (record { number = compare_differs; offset = o + i })
unfolding compares get
compares_expect o [] i d h = absurd (not-suc-le-zero h)
compares_expect o (b ∷ bs) zero d h = let e : o + 0 ≡ o = omega arith in rw e
compares_expect o (b ∷ bs) (suc i) d h =
    let e : 2 * suc i + 1 ≡ suc (suc (2 * i + 1)) = omega arith in
    let f : o + suc i ≡ suc o + i = omega arith in
    rw (e, f) (compares_expect (suc o) bs i d (omega arith))

pub length_compares : (o : ℕ) (bs : List ℕ) → length (compares o bs) ≡ 2 * length bs
unfolding compares get
length_compares o [] = refl
length_compares o (b ∷ bs) = omega (arith, length_compares (suc o) bs)

-- the acts of the lead (`lead_at`) and of an erase (`erase_at`)
pub lead_at : (s : Settings) (k : ℕ) (d : Act) (o : ℕ) → k < 8 → get_or (lead s) k d ≡ task_act (task_of Lead k) (lead_byte k) s.id o
unfolding lead lead_byte
lead_at s k d o h = same_below (λ n. get_or (lead s) n d) (λ n. task_act (task_of Lead n) (lead_byte n) s.id o) 8 (below s d) k h
  where
    below : (s : Settings) (d : Act) → upto (λ n. get_or (lead s) n d) 8 ≡ upto (λ n. task_act (task_of Lead n) (lead_byte n) s.id o) 8
    below s d = refl

abbrev pub erase_act_byte : (fpdat page k : ℕ) → ℕ
erase_act_byte f p k = cond (eqb k 0) f (cond (eqb k 1) 8 (cond (eqb k 5) p 0))

pub erase_at : (f p k : ℕ) (d : Act) (id o : ℕ) → k < 13 → get_or (erase f p) k d ≡ task_act (task_of Erase k) (erase_act_byte f p k) id o
unfolding erase put get status
erase_at f p k d id o h = same_below (λ n. get_or (erase f p) n d) (λ n. task_act (task_of Erase n) (erase_act_byte f p n) id o) 13 (below f p d) k h
  where
    below : (f p : ℕ) (d : Act) → upto (λ n. get_or (erase f p) n d) 13 ≡ upto (λ n. task_act (task_of Erase n) (erase_act_byte f p n) id o) 13
    below f p d = refl

-- the byte that an act of a block's command sends
abbrev pub command_byte : (fpdat command : ℕ) → Block → (k : ℕ) → ℕ
command_byte f c b k =
    cond (eqb k 0) f (cond (eqb k 1) c (cond (eqb k 5) (b.address / 256) (cond (eqb k 7) (b.address % 256) (cond (eqb k 9) (length_code (length b.bytes)) 0))))

module _ (f c : ℕ) (b : Block) (d : Act) where
  command_writes : (id o : ℕ) → upto (λ n. get_or (block_command f c b) n d) 11 ≡ upto (λ n. task_act (task_of Write n) (command_byte f c b n) id o) 11
  unfolding block_command put get status
  command_writes id o = refl

  command_reads : (id o : ℕ) → upto (λ n. get_or (block_command f c b) n d) 11 ≡ upto (λ n. task_act (task_of Read n) (command_byte f c b n) id o) 11
  unfolding block_command put get status
  command_reads id o = refl

pub length_command : (f c : ℕ) (b : Block) → length (block_command f c b) ≡ 11
unfolding block_command put get status
length_command f c b = refl

-- the act at a place of a list in three parts, of which the first has 11 acts
module _ (C P S : List Act) (d : Act) (n : ℕ) (c : length C ≡ 11) (p : length P ≡ n) where
  first_part : (k : ℕ) → k < 11 → get_or (C ++ P ++ S) k d ≡ get_or C k d
  first_part k h = get_or-append (C ++ P) S d k (omega (arith, length-append C P)) ∙ get_or-append C P d k (omega arith)

  second_part : (k : ℕ) → 11 ≤ k → k < 11 + n → get_or (C ++ P ++ S) k d ≡ get_or P (k - 11) d
  second_part k g h =
      let e : k ≡ length C + (k - 11) = omega arith in
      get_or-append (C ++ P) S d k (omega (arith, length-append C P)) ∙ ap (λ (m : ℕ). get_or (C ++ P) m d) e ∙ get_or-append-add C P (k - 11) d

  third_part : (k : ℕ) → 11 + n ≤ k → get_or (C ++ P ++ S) k d ≡ get_or S (k - (11 + n)) d
  third_part k g =
      let e : k ≡ length (C ++ P) + (k - (11 + n)) = omega (arith, length-append C P) in
      ap (λ (m : ℕ). get_or (C ++ P ++ S) m d) e ∙ get_or-append-add (C ++ P) S (k - (11 + n)) d

abbrev pub write_act_byte : (fpdat : ℕ) → Block → (k : ℕ) → ℕ
write_act_byte f b k = cond (ltb k 11) (command_byte f 7 b k) (get_or b.bytes ((k - 11) / 2) 0)

pub write_at : (f : ℕ) (b : Block) (k : ℕ) (d : Act) (id o : ℕ) → length b.bytes ≡ 256 → k < 525
    → get_or (block_write f b) k d ≡ task_act (task_of Write k) (write_act_byte f b k) id o
unfolding block_write status get
write_at f b k d id o e h = go (dec_lt k 11) (dec_lt k 523)
  where
    C : List Act
    C = block_command f 7 b

    P : List Act
    P = puts b.bytes

    lp : length (puts b.bytes) ≡ 512
    lp = length_puts b.bytes ∙ omega arith

    middle : 11 ≤ k → k < 523 → (t : Bool) → eqb (k % 2) 1 ≡ t → get_or (puts b.bytes) (k - 11) d ≡ task_act (cond t Send Input) (get_or b.bytes ((k - 11) / 2) 0) id o
    middle g i true q =
        let m : k - 11 ≡ 2 * ((k - 11) / 2) = omega (arith, eqb-true (k % 2) 1 q) in
        ap (λ (x : ℕ). get_or (puts b.bytes) x d) m ∙ puts_send b.bytes ((k - 11) / 2) d (omega arith)
    middle g i false q =
        let m : k - 11 ≡ 2 * ((k - 11) / 2) + 1 = omega (arith, eqb-false (k % 2) 1 q) in
        ap (λ (x : ℕ). get_or (puts b.bytes) x d) m ∙ puts_poll b.bytes ((k - 11) / 2) d (omega arith)

    last : 523 ≤ k → Dec (k < 524) → get_or status (k - 523) d ≡ task_act (task_of Write k) (write_act_byte f b k) id o
    last g (yes x) = let q : k ≡ 523 = omega arith in rw q
    last g (no x) = let q : k ≡ 524 = omega arith in rw q

    go : Dec (k < 11) → Dec (k < 523) → get_or (block_command f 7 b ++ puts b.bytes ++ status) k d ≡ task_act (task_of Write k) (write_act_byte f b k) id o
    go (yes y) z =
        first_part C P status d 512 (length_command f 7 b) lp k y
        ∙ rw (lt-ltb k 11 y) (same_below (λ n. get_or C n d) (λ n. task_act (task_of Write n) (command_byte f 7 b n) id o) 11 (command_writes f 7 b d id o) k y)
    go (no y) (yes z) =
        second_part C P status d 512 (length_command f 7 b) lp k (omega arith) z
        ∙ rw (le-ltb k 11 (omega arith), ne_eqb k 0 (λ q. omega arith), ne_eqb k 3 (λ q. omega arith), ne_eqb k 4 (λ q. omega arith), lt-ltb k 523 z)
        (middle (omega arith) z (eqb (k % 2) 1) refl)
    go (no y) (no z) = third_part C P status d 512 (length_command f 7 b) lp k (omega arith) ∙ last (omega arith) (dec_lt k 524)

pub length_status : length status ≡ 2
unfolding status get
length_status = refl

status_poll : (d : Act) → get_or status 0 d ≡ poll output_ready
unfolding status get
status_poll d = refl

status_expect : (d : Act) → get_or status 1 d ≡ expect 13 (outcome bad_status)
unfolding status get
status_expect d = refl

abbrev pub read_act_byte : (fpdat : ℕ) → Block → (k : ℕ) → ℕ
read_act_byte f b k = cond (ltb k 11) (command_byte f 6 b k) (get_or b.bytes ((k - 14) / 2) 0)

pub read_at : (f : ℕ) (b : Block) (k : ℕ) (d : Act) (id : ℕ) → length b.bytes ≡ 256 → k < 525
    → get_or (block_read f b) k d ≡ task_act (task_of Read k) (read_act_byte f b k) id (b.offset + (k - 14) / 2)
unfolding block_read
read_at f b k d id e h = go (dec_lt k 11) (dec_lt k 13)
  where
    C : List Act
    C = block_command f 6 b

    S : List Act
    S = compares b.offset b.bytes

    o : ℕ
    o = b.offset + (k - 14) / 2

    two : length status ≡ 2
    two = length_status

    middle : 11 ≤ k → Dec (k < 12) → k < 13 → get_or status (k - 11) d ≡ task_act (task_of Read k) (read_act_byte f b k) id (b.offset + (k - 14) / 2)
    middle g (yes x) i = let q : k ≡ 11 = omega arith in rw q (status_poll d)
    middle g (no x) i = let q : k ≡ 12 = omega arith in rw q (status_expect d)

    last : 13 ≤ k → (t : Bool) → eqb (k % 2) 1 ≡ t → get_or (compares b.offset b.bytes) (k - 13) d
        ≡ task_act (cond t Output (cond (eqb k 12) Status Compare)) (get_or b.bytes ((k - 14) / 2) 0) id (b.offset + (k - 14) / 2)
    last g true q =
        let m : k - 13 ≡ 2 * ((k - 13) / 2) = omega (arith, eqb-true (k % 2) 1 q) in
        ap (λ (x : ℕ). get_or (compares b.offset b.bytes) x d) m ∙ compares_poll b.offset b.bytes ((k - 13) / 2) d (omega arith)
    last g false q =
        let m : k - 13 ≡ 2 * ((k - 14) / 2) + 1 = omega (arith, eqb-false (k % 2) 1 q) in
        ap (λ (x : ℕ). get_or (compares b.offset b.bytes) x d) m
        ∙ rw (ne_eqb k 12 (λ p. omega arith)) (compares_expect b.offset b.bytes ((k - 14) / 2) d (omega (arith, eqb-false (k % 2) 1 q)))

    go : Dec (k < 11) → Dec (k < 13) → get_or (block_command f 6 b ++ status ++ compares b.offset b.bytes) k d
        ≡ task_act (task_of Read k) (read_act_byte f b k) id (b.offset + (k - 14) / 2)
    go (yes y) z =
        first_part C status S d 2 (length_command f 6 b) two k y
        ∙ rw (lt-ltb k 11 y)
        (rw (lt-ltb k 11 y) at (same_below (λ n. get_or C n d) (λ n. task_act (task_of Read n) (command_byte f 6 b n) id o) 11 (command_reads f 6 b d id o) k y))
    go (no y) (yes z) = second_part C status S d 2 (length_command f 6 b) two k (omega arith) z ∙ middle (omega arith) (dec_lt k 12) z
    go (no y) (no z) =
        third_part C status S d 2 (length_command f 6 b) two k (omega arith)
        ∙ rw (le-ltb k 11 (omega arith), ne_eqb k 0 (λ q. omega arith), ne_eqb k 3 (λ q. omega arith), ne_eqb k 4 (λ q. omega arith))
        (last (omega arith) (eqb (k % 2) 1) refl)

-- the acts of a pair
pub pair_acts_at : (p : Pair) (k : ℕ) (d : Act) (id o : ℕ) → k < 2
    → get_or (pair_acts p) k d ≡ task_act (task_of Register k) (cond (eqb k 0) p.register p.value) id o
unfolding pair_acts
pair_acts_at p zero d id o h = refl
pair_acts_at p (suc zero) d id o h = refl
pair_acts_at p (suc (suc k)) d id o h = absurd (omega arith)

-- Page erase, block write and block read against the target: what the flash is on the way and afterwards.
use mathlib.Core.Path.{◌≡◌, refl, ap, ◌∙◌}
use mathlib.Core.Bool.{true, cond}
use mathlib.Core.List.{List, [], ◌∷◌, ◌++◌, append_assoc}
use Prim.Native.Nat.{ℕ, suc, ◌+◌, ◌-◌, ◌*◌, ◌/◌, ◌%◌, ◌<◌, ◌≤◌}
use native.Mathlib.Nat.{mod-eq_of_lt}
use native.Mathlib.Omega.{arith}
use native.Mathlib.Decide.{ℕ_discrete}
use borrow.Author.Tests.{lt-ltb, le-leb, ne_eqb}
use lib.Bits.{bit_and, and_comm, and_mask}
use lib.Dec.{eqb}
use lib.ListN.{length, take, drop, replicate, length-append}
use lib.Seq.{set_at, get_or_at, append_snoc}
use Rattle.numbers.specs.Numbers.{bad_status}
use Rattle.laws.specs.Bytes.{Bytes}
use Rattle.c2_wire.specs.Exchange.{Outcome, outcome}
use Rattle.c2_order.specs.Acts.{Act, put, get, status, puts, compares, length_code, coded_length, erase, block_command, block_write, block_read}
use Rattle.c2_target.specs.declared.Command.{Command}
use Rattle.c2_target.specs.declared.Command.TheVariants.{Ready, Byte}
use Rattle.c2_target.specs.declared.Output.{Output}
use Rattle.c2_target.specs.declared.Output.TheVariants.{Empty, Status, StatusBlock}
use Rattle.c2_target.specs.declared.Met.{Met}
use Rattle.c2_target.specs.declared.Target.{Target}
use Rattle.c2_target.specs.Delays.{Setup}
use Rattle.c2_target.specs.Commands.{erased, stored, in_flash, opens, takes_put, some_output, first_byte, other_bytes}
use Rattle.c2_target.specs.Interface.{prepared}
use Rattle.c2_play.proofs.Laws.Interface.{Fit, Kept, Good, good_now, put_good, get_good, status_good, address_good}
use Rattle.c2_play.proofs.Laws.Covers.{Covers}
use Rattle.c2_target.specs.declared.Output.TheVariants as outputs

-- a byte that needs no bit raised is the byte written
pub stored_covers : (A Z : List ℕ) (o b a : ℕ) → length A ≡ a → bit_and o b ≡ b → stored a b (A ++ o ∷ Z) ≡ A ++ b ∷ Z
unfolding stored
stored_covers A Z o b a e h = rw (get_or_at A o Z 0 a e, h) (set_at A o Z b a e)

-- erased bytes need no bit raised
and_erased : (b : ℕ) → b < 256 → bit_and 0xff b ≡ b
and_erased b h = and_comm 0xff b ∙ and_mask b 8 ∙ mod-eq_of_lt h

pub erased_covers : (bs : List ℕ) → Bytes bs → Covers (replicate (length bs) 0xff) bs
unfolding Covers
erased_covers [] h = tt
erased_covers (b ∷ bs) h = (and_erased b h.0, erased_covers bs h.1)

pub covers_length : (os bs : List ℕ) → Covers os bs → length os ≡ length bs
unfolding Covers
covers_length [] [] h = refl
covers_length [] (b ∷ bs) h = absurd h
covers_length (o ∷ os) [] h = absurd h
covers_length (o ∷ os) (b ∷ bs) h = ap suc (covers_length os bs h.1)

-- up to 256 bytes are meant by their length code
coded : (n : ℕ) → 1 ≤ n → n ≤ 256 → coded_length (length_code n) ≡ n
unfolding coded_length length_code
coded n h1 h = go (ℕ_discrete n 256)
  where
    go : Dec (n ≡ 256) → cond (eqb (n % 256) 0) 256 (n % 256) ≡ n
    go (yes e) = rw e
    go (no d) =
        let m : n % 256 ≡ n = mod-eq_of_lt (omega arith) in
        rw (m, ne_eqb n 0 (λ e. omega arith))

code_byte : (n : ℕ) → length_code n < 256
unfolding length_code
code_byte n = omega arith

module _ (u : Setup) (l r : ℕ) (fit : Fit u l r) (m : Met) (end : Outcome) (J : List ℕ → Type 0) (Z : Target → List ℕ → Type 0) (kept : Kept J Z)
    (ready : prepared u.wanted m ≡ true) where
  abbrev good : List Act → Command → Output → List ℕ → Type 0
  good acts c o f = Good u l r fit m end J Z kept acts c o f

  pub erase_good : (page : ℕ) (acts : List Act) (f : List ℕ) → page < 256 → page < u.settings.count → J f
      → good acts Ready Empty (erased u.settings.size page f) → good (erase u.settings.fpdat page ++ acts) Ready Empty f
  unfolding erase put status get takes_put opens
  erase_good page acts f h hc j g =
      address_good u l r fit m end J Z kept _ _ _ _
      (put_good u l r fit m end J Z kept 0x08 _ _ _ _ (omega arith) j
      (rw ready
      (status_good u l r fit m end J Z kept _ _ _
      (put_good u l r fit m end J Z kept page _ _ _ _ h j
      (rw (lt-ltb page u.settings.count hc)
      (status_good u l r fit m end J Z kept _ _ _
      (put_good u l r fit m end J Z kept 0x00 _ _ _ _ (omega arith) j
      (status_good u l r fit m end J Z kept _ _ _ g))))))))

  -- the bytes of a block write: after k of them the first k are new and the others old
  puts_good : (A : List ℕ) (b : ℕ) (bs : List ℕ) (o : ℕ) (os W : List ℕ) (a : ℕ) (acts : List Act) → length A ≡ a → b < 256 → Bytes bs
      → bit_and o b ≡ b → Covers os bs → ((k : ℕ) → J (A ++ (take k (b ∷ bs) ++ (drop k (o ∷ os) ++ W))))
      → good acts Ready (Status true) (A ++ (b ∷ bs ++ W))
      → good (puts (b ∷ bs) ++ acts) (Byte a (suc (length bs))) Empty (A ++ (o ∷ os ++ W))
  unfolding puts put takes_put Covers
  puts_good A b [] o [] W a acts ea hb h hc cs j g = put_good u l r fit m end J Z kept b _ _ _ _ hb (j 0) (rw (stored_covers A W o b a ea hc) g)
  puts_good A b [] o (y ∷ os) W a acts ea hb h hc cs j g = absurd cs
  puts_good A b (x ∷ bs) o [] W a acts ea hb h hc cs j g = absurd cs
  puts_good A b (x ∷ bs) o (y ∷ os) W a acts ea hb h hc cs j g =
      let one : suc (suc (length bs)) - 1 ≡ suc (length bs) = omega arith in
      put_good u l r fit m end J Z kept b _ _ _ _ hb (j 0)
      (rw (
        lt-ltb 1 (suc (suc (length bs))) (omega arith),
        one,
        stored_covers A (y ∷ os ++ W) o b a ea hc,
        ← append_snoc A b (y ∷ os ++ W),
      )
      (puts_good (A ++ b ∷ []) x bs y os W (a + 1) acts (rw length-append (omega arith)) h.0 h.1 cs.0 cs.1
      (λ k. rw (append_snoc A b (take k (x ∷ bs) ++ (drop k (y ∷ os) ++ W))) (j (suc k)))
      (rw (append_snoc A b (x ∷ bs ++ W)) g)))

  -- the bytes of a block read are those of the flash
  compares_good : (A : List ℕ) (b : ℕ) (bs W : List ℕ) (a o : ℕ) (acts : List Act) (c : Command) → length A ≡ a → b < 256 → Bytes bs
      → good acts c Empty (A ++ (b ∷ bs ++ W))
      → good (compares o (b ∷ bs) ++ acts) c (outputs.Block a (suc (length bs))) (A ++ (b ∷ bs ++ W))
  unfolding compares get some_output first_byte other_bytes
  compares_good A b [] W a o acts c ea hb h g = get_good u l r fit m end J Z kept b _ _ c (outputs.Block a 1) _ hb refl (get_or_at A b W 0 a ea) g
  compares_good A b (x ∷ bs) W a o acts c ea hb h g =
      let one : suc (suc (length bs)) - 1 ≡ suc (length bs) = omega arith in
      get_good u l r fit m end J Z kept b _ _ c (outputs.Block a (suc (suc (length bs)))) _ hb refl (get_or_at A b (x ∷ bs ++ W) 0 a ea)
      (rw (lt-ltb 1 (suc (suc (length bs))) (omega arith), one, ← append_snoc A b (x ∷ bs ++ W))
      (compares_good (A ++ b ∷ []) x bs W (a + 1) (suc o) acts c (rw length-append (omega arith)) h.0 h.1 (rw (append_snoc A b (x ∷ bs ++ W)) g)))

  pub block_write_good : (A bs os W : List ℕ) (a o : ℕ) (acts : List Act) → length A ≡ a → a < 65536 → 1 ≤ length bs → length bs ≤ 256 → Bytes bs
      → Covers os bs → ((k : ℕ) → J (A ++ (take k bs ++ (drop k os ++ W))))
      → good acts Ready Empty (A ++ (bs ++ W))
      → good (block_write u.settings.fpdat (record { address = a; offset = o; bytes = bs }) ++ acts) Ready Empty (A ++ (os ++ W))
  unfolding block_write block_command put status get takes_put opens in_flash Covers
  block_write_good A [] os W a o acts ea ha h1 hn h cs j g = absurd (omega arith)
  block_write_good A (b ∷ bs) [] W a o acts ea ha h1 hn h cs j g = absurd cs
  block_write_good A (b ∷ bs) (y ∷ os) W a o acts ea ha h1 hn h cs j g =
      let f : List ℕ = A ++ (y ∷ os ++ W) in
      let ad : (a / 256) * 256 + a % 256 ≡ a = omega arith in
      let same : length os ≡ length bs = covers_length os bs cs.1 in
      let fits : a + suc (length bs) ≤ length f = simp length-append (omega arith) in
      address_good u l r fit m end J Z kept _ _ _ _
      (put_good u l r fit m end J Z kept 0x07 _ _ _ _ (omega arith) (j 0)
      (rw ready
      (status_good u l r fit m end J Z kept _ _ _
      (put_good u l r fit m end J Z kept (a / 256) _ _ _ _ (omega arith) (j 0)
      (put_good u l r fit m end J Z kept (a % 256) _ _ _ _ (omega arith) (j 0)
      (put_good u l r fit m end J Z kept (length_code (suc (length bs))) _ _ _ _ (code_byte (suc (length bs))) (j 0)
      (rw (ad, coded (suc (length bs)) h1 hn, le-leb (a + suc (length bs)) (length f) fits, append_assoc (puts (b ∷ bs)) status acts)
      (puts_good A b bs y os W a _ ea h.0 h.1 cs.0 cs.1 j
      (status_good u l r fit m end J Z kept _ _ _ g)))))))))

  pub block_read_good : (A bs W : List ℕ) (a o : ℕ) (acts : List Act) → length A ≡ a → a < 65536 → 1 ≤ length bs → length bs ≤ 256 → Bytes bs
      → good acts Ready Empty (A ++ (bs ++ W))
      → good (block_read u.settings.fpdat (record { address = a; offset = o; bytes = bs }) ++ acts) Ready Empty (A ++ (bs ++ W))
  unfolding block_read block_command put status get takes_put opens in_flash some_output first_byte other_bytes
  block_read_good A [] W a o acts ea ha h1 hn h g = absurd (omega arith)
  block_read_good A (b ∷ bs) W a o acts ea ha h1 hn h g =
      let f : List ℕ = A ++ (b ∷ bs ++ W) in
      let j : J f = good_now u l r fit m end J Z kept _ _ _ _ g in
      let ad : (a / 256) * 256 + a % 256 ≡ a = omega arith in
      let fits : a + suc (length bs) ≤ length f = simp length-append (omega arith) in
      address_good u l r fit m end J Z kept _ _ _ _
      (put_good u l r fit m end J Z kept 0x06 _ _ _ _ (omega arith) j
      (status_good u l r fit m end J Z kept _ _ _
      (put_good u l r fit m end J Z kept (a / 256) _ _ _ _ (omega arith) j
      (put_good u l r fit m end J Z kept (a % 256) _ _ _ _ (omega arith) j
      (put_good u l r fit m end J Z kept (length_code (suc (length bs))) _ _ _ _ (code_byte (suc (length bs))) j
      (rw (ad, coded (suc (length bs)) h1 hn, le-leb (a + suc (length bs)) (length f) fits)
      (get_good u l r fit m end J Z kept 0x0d (outcome bad_status) _ _ (StatusBlock a (suc (length bs))) _ (omega arith) refl refl
      (compares_good A b bs W a o _ _ ea h.0 h.1 g))))))))

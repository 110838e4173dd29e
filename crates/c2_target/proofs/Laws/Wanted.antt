-- Wanted pairs: which of them are met after writes in a row, and that the key writes meet none.
use mathlib.Core.Path.{◌≡◌, refl, sym, ap, ◌∙◌}
use mathlib.Core.Bool.{Bool, true, false, cond, ◌&&◌}
use mathlib.Core.List.{List, [], ◌∷◌}
use Prim.Native.Nat.{ℕ, zero, suc, ◌<◌, ◌≤◌}
use native.Mathlib.Omega.{arith}
use borrow.Author.Tests.{leb-true, ne_eqb}
use lib.Dec.{eqb, ltb, leb}
use lib.ListN.{get_or}
use Rattle.laws.proofs.Tests.{both, by_test}
use Rattle.settings.specs.declared.Pairs.{Pairs}
use Rattle.settings.specs.Registers.{Pair, pair_at, pairs_from, are_pairs, leaves, leave_all}
use Rattle.settings.proofs.Laws.Registers.{pairs_facts, fine, entry_by_entry}
use Rattle.c2_target.specs.declared.Met.{Met}
use Rattle.c2_target.specs.Interface.{met_after, met_written, none_met, prepared}

-- which wanted pairs are met after these writes, none of them at FPDAT
unfoldable pub all_written : (wanted : Pairs) → List Pair → Met → Met
all_written w [] m = m
all_written w (p ∷ ps) m = all_written w ps (met_written w p.register p.value m)

-- whether the wanted pair of this number is met
unfoldable met_at : Met → ℕ → Bool
met_at m zero = m.first
met_at m (suc zero) = m.second
met_at m (suc (suc zero)) = m.third
met_at m (suc (suc (suc i))) = m.fourth

written_at : (w : Pairs) (i a b : ℕ) (m : Met) → i < 4 → met_at (met_written w a b m) i ≡ met_after w i a b (met_at m i)
unfolding met_at met_written
written_at w zero a b m h = refl
written_at w (suc zero) a b m h = refl
written_at w (suc (suc zero)) a b m h = refl
written_at w (suc (suc (suc zero))) a b m h = refl
written_at w (suc (suc (suc (suc i)))) a b m h = absurd (omega arith)

-- a wanted pair is met as the writes leave its register
left_at : (w : Pairs) (i : ℕ) (ps : List Pair) (m : Met) → i < 4 → ltb i w.count ≡ true
    → met_at (all_written w ps m) i ≡ leaves (met_at m i) ps (pair_at w i)
unfolding all_written leaves
left_at w i [] m h e = refl
left_at w i (p ∷ ps) m h e =
    let here : met_after w i p.register p.value (met_at m i)
    ≡ cond (eqb p.register (pair_at w i).register) (eqb p.value (pair_at w i).value) (met_at m i) = rw e in
    left_at w i ps (met_written w p.register p.value m) h e
    ∙ ap (λ (b : Bool). leaves b ps (pair_at w i)) (written_at w i p.register p.value m h ∙ here)

and_true : (b : Bool) → b && true ≡ b
and_true true = refl
and_true false = refl

-- after writes from a reset on the device is prepared exactly if they leave the wanted values
prepared_by : (w : Pairs) (ps : List Pair) (n : ℕ) → w.count ≡ n → n ≤ 4 → prepared w (all_written w ps none_met) ≡ leave_all ps (pairs_from w 0 n)
unfolding prepared leave_all pairs_from met_at
prepared_by w ps zero e h = rw e
prepared_by w ps (suc zero) e h =
    let l0 = left_at w 0 ps none_met (omega arith) (ap (ltb 0) e) in
    rw (l0, e)
prepared_by w ps (suc (suc zero)) e h =
    let l0 = left_at w 0 ps none_met (omega arith) (ap (ltb 0) e) in
    let l1 = left_at w 1 ps none_met (omega arith) (ap (ltb 1) e) in
    rw (l0, l1, e)
prepared_by w ps (suc (suc (suc zero))) e h =
    let l0 = left_at w 0 ps none_met (omega arith) (ap (ltb 0) e) in
    let l1 = left_at w 1 ps none_met (omega arith) (ap (ltb 1) e) in
    let l2 = left_at w 2 ps none_met (omega arith) (ap (ltb 2) e) in
    rw (l0, l1, l2, e)
prepared_by w ps (suc (suc (suc (suc zero)))) e h =
    let l0 = left_at w 0 ps none_met (omega arith) (ap (ltb 0) e) in
    let l1 = left_at w 1 ps none_met (omega arith) (ap (ltb 1) e) in
    let l2 = left_at w 2 ps none_met (omega arith) (ap (ltb 2) e) in
    let l3 = left_at w 3 ps none_met (omega arith) (ap (ltb 3) e) in
    rw (l0, l1, l2, l3, e, and_true (leaves false ps (pair_at w 3)))
prepared_by w ps (suc (suc (suc (suc (suc n))))) e h = absurd (omega arith)

pub prepared_is : (fpdat : ℕ) (w : Pairs) (ps : List Pair) → are_pairs fpdat w ≡ true
    → prepared w (all_written w ps none_met) ≡ leave_all ps (pairs_from w 0 w.count)
prepared_is fpdat w ps h = prepared_by w ps w.count refl (pairs_facts fpdat w h).0

-- a wanted register is none of the key writes'
not_a_key : (fpdat n i : ℕ) (rs : List ℕ) → fine fpdat n rs i ≡ true → (ltb i n && eqb 0x02 (get_or rs i 0)) ≡ false
not_a_key fpdat n i rs h =
    by_test (ltb i n)
    (λ e.
    let k = both (leb 3 (get_or rs i 0)) _ (rw e at h) in
    rw e (ne_eqb 2 (get_or rs i 0) (λ z. omega (arith, leb-true 3 (get_or rs i 0) k.0, z))))
    (λ e. rw e)

pub keys_meet_none : (fpdat : ℕ) (w : Pairs) (b : ℕ) (m : Met) → are_pairs fpdat w ≡ true → met_written w 0x02 b m ≡ m
unfolding met_written
keys_meet_none fpdat w b m h =
    let n : ℕ = w.count in
    let rs : List ℕ = w.registers in
    let q = pairs_facts fpdat w h in
    let a = both (fine fpdat n rs 0) _ (sym (entry_by_entry fpdat w n q.0) ∙ q.1) in
    let c = both (fine fpdat n rs 1) _ a.1 in
    let d = both (fine fpdat n rs 2) _ c.1 in
    rw (not_a_key fpdat n 0 rs a.0, not_a_key fpdat n 1 rs c.0, not_a_key fpdat n 2 rs d.0, not_a_key fpdat n 3 rs d.1)

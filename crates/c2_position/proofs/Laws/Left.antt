-- How many acts of the order are left from a point of a session on, and that no other point has as many left.
use mathlib.Core.Path.{◌≡◌, refl, ap, ◌∙◌}
use mathlib.Core.List.{List, ◌++◌}
use mathlib.Core.Logic.{◌⊎◌, inl, inr}
use Prim.Native.Nat.{ℕ, zero, suc, ◌+◌, ◌*◌, ◌-◌, ◌/◌, ◌<◌, ◌≤◌}
use native.Mathlib.Nat.{mul-le-mul_right}
use native.Mathlib.Omega.{arith}
use native.Mathlib.Decide.{dec_lt}
use lib.ListN.{length, drop, length-drop, length-append}
use Rattle.c2_acts.specs.declared.Stage.{Stage}
use Rattle.c2_acts.specs.declared.Stage.TheVariants.{Lead, Erase, Write, Read, Close, Register}
use Rattle.c2_session.specs.declared.Session.{Session}
use Rattle.c2_acts.specs.Code.Acts.{acts_in}
use Rattle.c2_session.specs.Code.Next.{act_at}
use Rattle.c2_range.specs.Range.{pages_in, blocks_in}
use Rattle.c2_position.specs.Position.{stage_acts, pages_from, writes_from, reads_from, registers_from, after_stage, acts_from}
use Rattle.c2_position.proofs.Laws.Position.{Fits}
use Rattle.c2_position.proofs.Laws.Onward.{pages_on, pages_over, writes_on, writes_over, reads_on, reads_over, registers_on, registers_over, stage_length}

-- the acts of a page of so many blocks
abbrev page_length : (blocks : ℕ) → ℕ
page_length b = 13 + (b * 525 + b * 525)

-- The acts left are those of so many whole pages (`pages_left`), and so many more (`more_left`).
abbrev pages_left : Stage → (pages page : ℕ) → ℕ
pages_left Lead n i = n
pages_left Erase n i = n - suc i
pages_left Write n i = n - suc i
pages_left Read n i = n - suc i
pages_left Close n i = 0
pages_left Register n i = n

abbrev more_left : Stage → (pairs blocks page block act : ℕ) → ℕ
more_left Lead m b i j k = m * 2 + (9 - k)
more_left Erase m b i j k = b * 525 + b * 525 + (14 - k)
more_left Write m b i j k = b * 525 + (b - suc j) * 525 + (526 - k)
more_left Read m b i j k = (b - suc j) * 525 + (526 - k)
more_left Close m b i j k = 1 - k
more_left Register m b i j k = (m - suc i) * 2 + (3 - k)

module _ (s : Session) (image : List ℕ) (h : Fits s image) where
  abbrev b : ℕ
  b = s.settings.size / 256

  writes_length : (m i j : ℕ) → i < s.pages → j + m ≡ b → length (writes_from s image i j) ≡ m * 525
  writes_length zero i j g e = rw (writes_over s image h i j (omega arith))
  writes_length (suc m) i j g e =
      rw (writes_on s image h i j (omega arith))
      (length-append (stage_acts Write s image i j) (writes_from s image i (suc j))
      ∙ omega (arith, stage_length s image h Write i j g (omega arith), writes_length m i (suc j) g (omega arith)))

  reads_length : (m i j : ℕ) → i < s.pages → j + m ≡ b → length (reads_from s image i j) ≡ m * 525
  reads_length zero i j g e = rw (reads_over s image h i j (omega arith))
  reads_length (suc m) i j g e =
      rw (reads_on s image h i j (omega arith))
      (length-append (stage_acts Read s image i j) (reads_from s image i (suc j))
      ∙ omega (arith, stage_length s image h Read i j g (omega arith), reads_length m i (suc j) g (omega arith)))

  -- the acts of what follows a block written, a block read, and a page erased
  after_length : (m i : ℕ) → i < s.pages → length (pages_from s image (suc i)) ≡ m → length (reads_from s image i 0 ++ pages_from s image (suc i)) ≡ b * 525 + m
  after_length m i g e = length-append (reads_from s image i 0) (pages_from s image (suc i)) ∙ omega (arith, reads_length b i 0 g (omega arith))

  pages_length : (m i : ℕ) → i + m ≡ s.pages → length (pages_from s image i) ≡ m * page_length b + 1
  pages_length zero i e = rw (pages_over s image h i (omega arith)) (omega arith)
  pages_length (suc m) i e =
      let g : i < s.pages = omega arith in
      let p = pages_length m (suc i) (omega arith) in
      let rest = reads_from s image i 0 ++ pages_from s image (suc i) in
      rw (pages_on s image h i g)
      (length-append (stage_acts Erase s image i 0) (after_stage Erase s image i 0)
      ∙ omega (
        arith,
        stage_length s image h Erase i 0 g (omega arith),
        length-append (writes_from s image i 0) rest,
        writes_length b i 0 g (omega arith),
        after_length (m * page_length b + 1) i g p,
      ))

  pages_rest : (i : ℕ) → i < s.pages → length (pages_from s image (suc i)) ≡ (s.pages - suc i) * page_length b + 1
  pages_rest i g = pages_length (s.pages - suc i) (suc i) (omega arith)

  registers_length : (m i : ℕ) → i + m ≡ s.settings.pairs.count → length (registers_from s image i) ≡ m * 2 + (s.pages * page_length b + 1)
  registers_length zero i e = rw (registers_over s image h i (omega arith)) (omega (arith, pages_length s.pages 0 (omega arith)))
  registers_length (suc m) i e =
      rw (registers_on s image h i (omega arith))
      (length-append (stage_acts Register s image i 0) (registers_from s image (suc i))
      ∙ omega (arith, stage_length s image h Register i 0 (omega arith) (omega arith), registers_length m (suc i) (omega arith)))

  after_stage_length : (g : Stage) (i j : ℕ) → i < pages_in g s.settings.pairs.count s.pages → j < blocks_in g s.settings.size → (k : ℕ) → k < acts_in g
      → acts_in g - k + length (after_stage g s image i j) ≡ pages_left g s.pages i * page_length b + more_left g s.settings.pairs.count b i j k
  after_stage_length Lead i j gi gj k gk = omega (arith, registers_length s.settings.pairs.count 0 (omega arith))
  after_stage_length Erase i j gi gj k gk =
      omega (
        arith,
        length-append (writes_from s image i 0) (reads_from s image i 0 ++ pages_from s image (suc i)),
        writes_length b i 0 gi (omega arith),
        after_length _ i gi (pages_rest i gi),
      )
  after_stage_length Write i j gi gj k gk =
      omega (
        arith,
        length-append (writes_from s image i (suc j)) (reads_from s image i 0 ++ pages_from s image (suc i)),
        writes_length (b - suc j) i (suc j) gi (omega arith),
        after_length _ i gi (pages_rest i gi),
      )
  after_stage_length Read i j gi gj k gk =
      omega (
        arith,
        length-append (reads_from s image i (suc j)) (pages_from s image (suc i)),
        reads_length (b - suc j) i (suc j) gi (omega arith),
        pages_rest i gi,
      )
  after_stage_length Close i j gi gj k gk = omega arith
  after_stage_length Register i j gi gj k gk = omega (arith, registers_length (s.settings.pairs.count - suc i) (suc i) (omega arith))

  pub acts_length : (g : Stage) (i j k : ℕ) → i < pages_in g s.settings.pairs.count s.pages → j < blocks_in g s.settings.size → k < acts_in g
      → length (acts_from g s image i j k) ≡ pages_left g s.pages i * page_length b + more_left g s.settings.pairs.count b i j k
  acts_length g i j k gi gj gk =
      length-append (drop k (stage_acts g s image i j)) (after_stage g s image i j)
      ∙ ap (λ (m : ℕ). m + length (after_stage g s image i j)) (length-drop k (stage_acts g s image i j) ∙ ap (λ (m : ℕ). m - k) (stage_length s image h g i j gi gj))
      ∙ after_stage_length g i j gi gj k gk

-- whole pages and a rest of 2 to one more than a page's acts are found from their sum
unique : (p m e n f : ℕ) → 2 ≤ e → e ≤ suc p → 2 ≤ f → f ≤ suc p → m * p + e ≡ n * p + f → (m ≡ n) × (e ≡ f)
unique p m e n f a b c d q = go (dec_lt m n) (dec_lt n m)
  where
    go : Dec (m < n) → Dec (n < m) → (m ≡ n) × (e ≡ f)
    go (yes y) z = absurd (omega (arith, mul-le-mul_right {m = suc m} {n = n} p y))
    go (no y) (yes z) = absurd (omega (arith, mul-le-mul_right {m = suc n} {n = m} p z))
    go (no y) (no z) =
        let g : m ≡ n = omega arith in
        (g, omega (arith, ap (λ (x : ℕ). x * p) g))

at_same : (g : Stage) {i j k x y z : ℕ} → i ≡ x → j ≡ y → k ≡ z → act_at g i j k ≡ act_at g x y z
at_same g d e f = λ t. act_at g (d t) (e t) (f t)

-- every stage but the last
abbrev Early : Stage → Type 0
Early Lead = Unit {0}
Early Erase = Unit {0}
Early Write = Unit {0}
Early Read = Unit {0}
Early Close = ⊥
Early Register = Unit {0}

module _ (m n size : ℕ) (few : m ≤ 4) (some : 0 < size / 256) where
  more_bounds : (g : Stage) → Early g → (i j k : ℕ) → i < pages_in g m n → j < blocks_in g size → k < acts_in g
      → (2 ≤ more_left g m (size / 256) i j k) × (more_left g m (size / 256) i j k ≤ suc (page_length (size / 256)))
  more_bounds Lead u i j k gi gj gk = (omega arith, omega arith)
  more_bounds Erase u i j k gi gj gk = (omega arith, omega arith)
  more_bounds Write u i j k gi gj gk = (omega arith, omega arith)
  more_bounds Read u i j k gi gj gk = (omega arith, omega arith)
  more_bounds Close u i j k gi gj gk = absurd u
  more_bounds Register u i j k gi gj gk = (omega arith, omega arith)

  same : (g q : Stage) (i j k x y z : ℕ) → i < pages_in g m n → j < blocks_in g size → k < acts_in g → x < pages_in q m n → y < blocks_in q size → z < acts_in q
      → Early g → Early q → pages_left g n i ≡ pages_left q n x → more_left g m (size / 256) i j k ≡ more_left q m (size / 256) x y z → act_at g i j k ≡ act_at q x y z
  same Lead Lead i j k x y z gi gj gk hx hy hz u v e f = at_same Lead (omega arith) (omega arith) (omega arith)
  same Lead Erase i j k x y z gi gj gk hx hy hz u v e f = absurd (omega arith)
  same Lead Write i j k x y z gi gj gk hx hy hz u v e f = absurd (omega arith)
  same Lead Read i j k x y z gi gj gk hx hy hz u v e f = absurd (omega arith)
  same Erase Lead i j k x y z gi gj gk hx hy hz u v e f = absurd (omega arith)
  same Erase Erase i j k x y z gi gj gk hx hy hz u v e f = at_same Erase (omega arith) (omega arith) (omega arith)
  same Erase Write i j k x y z gi gj gk hx hy hz u v e f = absurd (omega arith)
  same Erase Read i j k x y z gi gj gk hx hy hz u v e f = absurd (omega arith)
  same Write Lead i j k x y z gi gj gk hx hy hz u v e f = absurd (omega arith)
  same Write Erase i j k x y z gi gj gk hx hy hz u v e f = absurd (omega arith)
  same Write Write i j k x y z gi gj gk hx hy hz u v e f = at_same Write (omega arith) (omega arith) (omega arith)
  same Write Read i j k x y z gi gj gk hx hy hz u v e f = absurd (omega arith)
  same Read Lead i j k x y z gi gj gk hx hy hz u v e f = absurd (omega arith)
  same Read Erase i j k x y z gi gj gk hx hy hz u v e f = absurd (omega arith)
  same Read Write i j k x y z gi gj gk hx hy hz u v e f = absurd (omega arith)
  same Read Read i j k x y z gi gj gk hx hy hz u v e f = at_same Read (omega arith) (omega arith) (omega arith)
  same Lead Register i j k x y z gi gj gk hx hy hz u v e f = absurd (omega arith)
  same Erase Register i j k x y z gi gj gk hx hy hz u v e f = absurd (omega arith)
  same Write Register i j k x y z gi gj gk hx hy hz u v e f = absurd (omega arith)
  same Read Register i j k x y z gi gj gk hx hy hz u v e f = absurd (omega arith)
  same Register Lead i j k x y z gi gj gk hx hy hz u v e f = absurd (omega arith)
  same Register Erase i j k x y z gi gj gk hx hy hz u v e f = absurd (omega arith)
  same Register Write i j k x y z gi gj gk hx hy hz u v e f = absurd (omega arith)
  same Register Read i j k x y z gi gj gk hx hy hz u v e f = absurd (omega arith)
  same Register Register i j k x y z gi gj gk hx hy hz u v e f = at_same Register (omega arith) (omega arith) (omega arith)
  same Close q i j k x y z gi gj gk hx hy hz u v e f = absurd u
  same Lead Close i j k x y z gi gj gk hx hy hz u v e f = absurd v
  same Erase Close i j k x y z gi gj gk hx hy hz u v e f = absurd v
  same Write Close i j k x y z gi gj gk hx hy hz u v e f = absurd v
  same Read Close i j k x y z gi gj gk hx hy hz u v e f = absurd v
  same Register Close i j k x y z gi gj gk hx hy hz u v e f = absurd v

  -- the last stage has one act, every other point more than one left
  early_or_close : (g : Stage) → Early g ⊎ (g ≡ Close)
  early_or_close Lead = inl tt
  early_or_close Erase = inl tt
  early_or_close Write = inl tt
  early_or_close Read = inl tt
  early_or_close Close = inr refl
  early_or_close Register = inl tt

  abbrev left : Stage → (page block act : ℕ) → ℕ
  left g i j k = pages_left g n i * page_length (size / 256) + more_left g m (size / 256) i j k

  close_left : (g : Stage) (i j k : ℕ) → g ≡ Close → left g i j k ≤ 1
  close_left g i j k e = rw e (omega arith)

  close_at : (g q : Stage) (i j k x y z : ℕ) → i < pages_in g m n → j < blocks_in g size → k < acts_in g → x < pages_in q m n → y < blocks_in q size → z < acts_in q
      → g ≡ Close → q ≡ Close → act_at g i j k ≡ act_at q x y z
  close_at g q i j k x y z gi gj gk hx hy hz d e =
      let a = rw d at gi in
      let b = rw d at gj in
      let c = rw d at gk in
      let l = rw e at hx in
      let m = rw e at hy in
      let o = rw e at hz in
      rw (d, e) (at_same Close (omega arith) (omega arith) (omega arith))

  -- points of a session with as many acts left are the same
  pub one_at : (g q : Stage) (i j k x y z : ℕ) → i < pages_in g m n → j < blocks_in g size → k < acts_in g → x < pages_in q m n → y < blocks_in q size → z < acts_in q
      → left g i j k ≡ left q x y z → act_at g i j k ≡ act_at q x y z
  one_at g q i j k x y z gi gj gk hx hy hz e = go (early_or_close g) (early_or_close q)
    where
      go : Early g ⊎ (g ≡ Close) → Early q ⊎ (q ≡ Close) → act_at g i j k ≡ act_at q x y z
      go (inl u) (inl v) =
          let a = more_bounds g u i j k gi gj gk in
          let b = more_bounds q v x y z hx hy hz in
          let w = unique (page_length (size / 256)) (pages_left g n i) (more_left g m (size / 256) i j k) (pages_left q n x) (more_left q m (size / 256) x y z) a.0 a.1 b.0 b.1 e in
          same g q i j k x y z gi gj gk hx hy hz u v w.0 w.1
      go (inl u) (inr v) = absurd (omega (arith, (more_bounds g u i j k gi gj gk).0, close_left q x y z v))
      go (inr u) (inl v) = absurd (omega (arith, (more_bounds q v x y z hx hy hz).0, close_left g i j k u))
      go (inr u) (inr v) = close_at g q i j k x y z gi gj gk hx hy hz u v

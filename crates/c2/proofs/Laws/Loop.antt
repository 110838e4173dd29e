-- What the loop of `c2::run` keeps: at its start, after a turn, and where it is left.
pub mod Exchange
use mathlib.Core.Path.{◌≡◌, refl, sym, ap, ◌∙◌}
use mathlib.Core.Bool.{true, false}
use mathlib.Core.List.{List, [], ◌∷◌, ◌++◌, append_assoc, append-nil}
use Prim.Native.Nat.{ℕ, suc, ◌+◌, ◌-◌, ◌≤◌, ◌<◌}
use native.Mathlib.Numerals.{add-one}
use native.Mathlib.Omega.{arith}
use lib.ListN.{length, get_or, set, take, drop, length-set, take-append-drop, drop_of_length-le, length-drop}
use lib.Seq.{drop-cons, take-suc-set, drop-set-lt, drop-drop, length-take-le, take_all}
use Rattle.c2_session.specs.declared.Session.{Session}
use Rattle.c2_session.specs.declared.Runner.{Runner}
use Rattle.c2_session.specs.Code.Step.{session_step}
use Rattle.c2_session.specs.Code.Advance.{advanced}
use Rattle.c2_session.specs.Code.Run.{runner_advanced, runner_step}
use Rattle.c2_session.proofs.Laws.Run.{Knows, Ready, goes_on_ready, runner_goes, session_of, session_goes, session_waits}
use Rattle.c2_outcome.specs.Outcome.{is_running}
use Rattle.c2.specs.Code.Loop.{ran, wrote}

-- a session that has ended takes nothing
ran_stops : (image : List ℕ) (s : Session) (rs : List ℕ) → is_running s.point ≡ false → ran image s rs ≡ s
ran_stops image s [] p = refl
ran_stops image s (r ∷ rs) p = rw p

wrote_stops : (image : List ℕ) (s : Session) (rs : List ℕ) → is_running s.point ≡ false → wrote image s rs ≡ []
wrote_stops image s [] p = refl
wrote_stops image s (r ∷ rs) p = rw p

pub record Sofar (image replies steps₀ : List ℕ) (s₀ : Session) (steps : List ℕ) (s : Session) (i : ℕ) : Type 0 where
  pub small : i ≤ length replies
  pub long : length steps ≡ length steps₀
  pub room : length replies ≤ length steps₀
  pub session : ran image s₀ replies ≡ ran image s (drop i replies)
  pub out : wrote image s₀ replies ≡ take i steps ++ wrote image s (drop i replies)
  pub rest : drop i steps ≡ drop i steps₀

-- what is due where the loop is left
pub record Due (image replies steps₀ : List ℕ) (s₀ : Session) (steps : List ℕ) (s : Session) (i : ℕ) : Type 0 where
  pub session : s ≡ ran image s₀ replies
  pub taken : i ≡ length (wrote image s₀ replies)
  pub out : steps ≡ wrote image s₀ replies ++ drop i steps₀

module _ (image replies steps₀ : List ℕ) (s₀ : Session) where
  pub starts : length replies ≤ length steps₀ → Sofar image replies steps₀ s₀ steps₀ s₀ 0
  starts h = record { small = omega arith; long = refl; room = h; session = refl; out = refl; rest = refl }

  module _ (steps : List ℕ) (s : Session) (i : ℕ) (k : Sofar image replies steps₀ s₀ steps s i) where
    pub goes : i < length replies → is_running s.point ≡ true
        → Sofar image replies steps₀ s₀ (set steps i (session_step (advanced s (get_or replies i 0) image) image)) (advanced s (get_or replies i 0) image) (i + 1)
    goes h run =
        let v : ℕ = session_step (advanced s (get_or replies i 0) image) image in
        let hs : i < length steps = omega (arith, k.long, k.room) in
        let hi : i < suc i = omega arith in
        record {
          small = omega arith;
          long = length-set steps i v ∙ k.long;
          room = k.room;
          session = k.session ∙ rw (add-one, drop-cons replies i 0, run);
          out = k.out ∙ rw (add-one, take-suc-set steps i v, append_assoc, drop-cons replies i 0, run);
          rest = rw (add-one, drop-set-lt (suc i) steps i v, ← add-one, ← drop-drop 1 i steps, k.rest, drop-drop 1 i steps₀);
        }

    -- the loop is left: the steps written so far are all
    ends : wrote image s (drop i replies) ≡ [] → s ≡ ran image s (drop i replies) → Due image replies steps₀ s₀ steps s i
    ends e f =
        let w : wrote image s₀ replies ≡ take i steps = k.out ∙ rw (e, append-nil) in
        let hs : i ≤ length steps = omega (arith, k.long, k.room, k.small) in
        record {
          session = f ∙ sym k.session;
          taken = sym (ap length w ∙ length-take-le i steps hs);
          out = sym (take-append-drop i steps) ∙ rw (w, k.rest);
        }

    pub done : length replies ≤ i → Due image replies steps₀ s₀ steps s (length replies)
    done h =
        let z : drop i replies ≡ [] = drop_of_length-le replies h in
        let all : length replies ≡ i = omega (arith, k.small) in
        rw all (ends (rw z) (rw z))

    pub stops : is_running s.point ≡ false → Due image replies steps₀ s₀ steps s i
    stops p = ends (wrote_stops image s (drop i replies) p) (sym (ran_stops image s (drop i replies) p))

-- a turn of the loop with a runner
pub goes_running : (image replies steps₀ : List ℕ) (s₀ : Session) (steps : List ℕ) (r : Runner) (i : ℕ)
    → Sofar image replies steps₀ s₀ steps (session_of s₀ r) i → Ready s₀ image r → i < length replies → is_running r.point ≡ true
    → (r₁ : Runner) → r₁ ≡ runner_advanced s₀ r (get_or replies i 0) image → (v : ℕ) → v ≡ runner_step r₁
    → Sofar image replies steps₀ s₀ (set steps i v) (session_of s₀ r₁) (i + 1) × Ready s₀ image r₁
goes_running image replies steps₀ s₀ steps r i k ready h run r₁ er v ev =
    let x : ℕ = get_or replies i 0 in
    let knows : Knows s₀ image r₁ = rw er (runner_goes s₀ image r x ready).1 in
    let e : session_of s₀ r₁ ≡ advanced (session_of s₀ r) x image = ap (session_of s₀) er ∙ session_goes s₀ image r x ready in
    let f : v ≡ session_step (advanced (session_of s₀ r) x image) image
    = ev ∙ session_waits s₀ image r₁ knows ∙ ap (λ (z : Session). session_step z image) e in
    (rw (f, e) (goes image replies steps₀ s₀ steps (session_of s₀ r) i k h run), goes_on_ready s₀ image r₁ knows)

-- a part of the step buffer that was written, put back: what stood before the place, what was written, and
-- what stood after it
pub put_back : (place : ℕ) (xs ys w : List ℕ) (n : ℕ) → n ≡ length w → ys ≡ w ++ drop n (take (length xs - place) (drop place xs))
    → take place xs ++ (ys ++ drop (length xs - place) (drop place xs)) ≡ take place xs ++ (w ++ drop (length w) (drop place xs))
put_back place xs ys w n e f =
    let h : length (drop place xs) ≤ length xs - place = omega (arith, length-drop place xs) in
    rw (drop_of_length-le (drop place xs) h, append-nil, f, take_all (length xs - place) (drop place xs) h, e)

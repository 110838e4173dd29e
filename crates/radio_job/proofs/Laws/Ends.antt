-- The job ends after 3 n + 7 replies at most, whatever they are.
use mathlib.Core.Path.{◌≡◌, refl, subst}
use mathlib.Core.List.{List, [], ◌∷◌}
use Prim.Native.Nat.{ℕ, zero, suc, ◌+◌, ◌*◌, ◌≤◌}
use native.Mathlib.Omega.{arith}
use lib.Dec.{eqb}
use lib.ListN.{length}
use Rattle.std.specs.Prelude.{Option, Some, None, Ok, Err, IfErr}
use Rattle.laws.proofs.Tests.{by_test}
use Rattle.exchange.specs.Exchange.{ended, ask, after, fed}
use Rattle.exchange.proofs.Laws.Exchange.{fed_ended}
use Rattle.radio_command.specs.declared.CommandName.{CommandName}
use Rattle.radio_command.specs.declared.CommandName.TheVariants.{InfOk, InfError}
use Rattle.radio_command.specs.declared.RadioCommand.{RadioCommand}
use Rattle.radio_command.specs.Command.{read_command}
use Rattle.radio_job.specs.declared.Ending.{Ending}
use Rattle.radio_job.specs.Image.{page_count, image_pages, padded}
use Rattle.radio_job.specs.Job.{JobExchange, take_reply, ends_bad, unless, answer_ending, confirmed, fetched, fed_pages}
use Rattle.radio_job.specs.Job.{Standing, name_ending, read_ending, same_bytes, page_ending, pages_compared}
use Rattle.radio_job.specs.Job.{protects, restores, job}
use Rattle.radio_job.specs.Claims.{EndsIn, JobEnds}
use Rattle.radio_job.proofs.Laws.Image.{pages_many}

-- an exchange that has ended, by a number
pub record HasEnded (e : JobExchange) : Type 0 where
  pub ending : Ending
  pub is : e ≡ ended ending
  pub number : ending.number ≡ 0 → ⊥

-- an end after a reply is by a number
abbrev ByNumber : Standing → Type 0
ByNumber v = IfErr v (λ e. e.number ≡ 0 → ⊥)

name_numbered : (x : CommandName) (c : ℕ) → ByNumber (name_ending x c)
name_numbered InfOk c = tt
name_numbered InfError c = λ q. let y : ◌≡◌ {A = ℕ} 42 0 = q in omega arith
name_numbered _ c = λ q. let y : ◌≡◌ {A = ℕ} 28 0 = q in omega arith

read_numbered : (x : Option RadioCommand) → ByNumber (read_ending x)
read_numbered (Some c) = name_numbered c.name c.p0
read_numbered None = λ q. let y : ◌≡◌ {A = ℕ} 28 0 = q in omega arith

answer_numbered : (r : List ℕ) → ByNumber (answer_ending r)
unfolding answer_ending
answer_numbered r = read_numbered (read_command r)

page_numbered : (i : ℕ) (p r : List ℕ) → ByNumber (page_ending i p r)
unfolding page_ending
page_numbered i p r = by_test (same_bytes r p) (λ t. rw t tt) (λ t. rw t (λ q. let y : ◌≡◌ {A = ℕ} 43 0 = q in omega arith))

unless_in : (v : Standing) (n : ℕ) (rest : JobExchange) → ByNumber v → EndsIn n rest → EndsIn n (unless v rest)
unless_in (Ok _) n rest b e = e
unless_in (Err x) n rest b e = b

confirmed_in : (m : List ℕ) (n : ℕ) (rest : JobExchange) → EndsIn n rest → EndsIn (suc n) (confirmed m rest)
unfolding confirmed
confirmed_in m n rest e = λ r. unless_in (answer_ending r) n rest (answer_numbered r) e

fetched_in : (p n : ℕ) (k : List ℕ → JobExchange) → ((r : List ℕ) → EndsIn n (k r)) → EndsIn (suc (suc n)) (fetched p k)
unfolding fetched
fetched_in p n k e = confirmed_in _ (suc n) _ e

-- replies for pages fed, and for pages compared
abbrev one_each : List (List ℕ) → ℕ → ℕ
one_each [] n = n
one_each (p ∷ ps) n = suc (one_each ps n)

abbrev two_each : List (List ℕ) → ℕ → ℕ
two_each [] n = n
two_each (p ∷ ps) n = suc (suc (two_each ps n))

one_sum : (ps : List (List ℕ)) (n : ℕ) → one_each ps n ≡ length ps + n
one_sum [] n = let z : n ≡ 0 + n = omega arith in z
one_sum (p ∷ ps) n = let i = one_sum ps n in let z : suc (one_each ps n) ≡ suc (length ps) + n = omega arith in z

two_sum : (ps : List (List ℕ)) (n : ℕ) → two_each ps n ≡ 2 * length ps + n
two_sum [] n = let z : n ≡ 2 * 0 + n = omega arith in z
two_sum (p ∷ ps) n = let i = two_sum ps n in let z : suc (suc (two_each ps n)) ≡ 2 * suc (length ps) + n = omega arith in z

fed_in : (ps : List (List ℕ)) (n : ℕ) (rest : JobExchange) → EndsIn n rest → EndsIn (one_each ps n) (fed_pages ps rest)
unfolding fed_pages
fed_in [] n rest e = e
fed_in (p ∷ []) n rest e = confirmed_in p n rest e
fed_in (p ∷ q ∷ qs) n rest e = λ r. fed_in (q ∷ qs) n rest e

compared_in : (ps : List (List ℕ)) (i n : ℕ) (rest : JobExchange) → EndsIn n rest → EndsIn (two_each ps n) (pages_compared i ps rest)
unfolding pages_compared
compared_in [] i n rest e = e
compared_in (p ∷ ps) i n rest e =
    fetched_in i (two_each ps n) _ (λ r. unless_in (page_ending i p r) (two_each ps n) _ (page_numbered i p r) (compared_in ps (suc i) n rest e))

protects_in : (c : List ℕ) → EndsIn 1 (protects c)
unfolding protects
protects_in c = confirmed_in _ 0 _ (λ e. let z : ◌≡◌ {A = ℕ} 32 0 = e in omega arith)

restores_in : (ps : List (List ℕ)) (c : List ℕ) → EndsIn (suc (suc (suc (two_each ps 1)))) (restores ps c)
unfolding restores
restores_in ps c =
    confirmed_in _ (suc (suc (two_each ps 1))) _
    (confirmed_in c (suc (two_each ps 1)) _ (confirmed_in _ (two_each ps 1) _ (compared_in ps 0 1 _ (protects_in c))))

pub job_ends : JobEnds
unfolding job
job_ends g =
    let ps = image_pages g.image in
    let m = suc (suc (suc (two_each ps 1))) in
    let a = one_sum ps m in
    let b = two_sum ps 1 in
    let l = pages_many (page_count g.image) (padded g.image) in
    let z : suc (suc (suc (one_each ps m))) ≡ 3 * page_count g.image + 7 = omega arith in
    subst (λ (n : ℕ). EndsIn n (job g)) z
    (fetched_in 127 (suc (one_each ps m)) _ (λ old. confirmed_in _ (one_each ps m) _ (fed_in ps m _ (restores_in ps _))))

-- so after as many replies the exchange has ended, by a number
pub ends_fed : (n : ℕ) (e : JobExchange) (rs : List (List ℕ)) → EndsIn n e → n ≤ length rs → HasEnded (fed take_reply e rs)
unfolding fed after
ends_fed n (ended x) rs e h = rw (fed_ended take_reply x rs) (record { ending = x; is = refl; number = e })
ends_fed zero (ask a k) rs e h = absurd e
ends_fed (suc n) (ask a k) [] e h = absurd (let z : suc n ≤ 0 = h in omega arith)
ends_fed (suc n) (ask a k) (r ∷ rs) e h =
    let z : suc n ≤ suc (length rs) = h in
    by_test (eqb (length r) a.expect)
    (λ t. rw t (ends_fed n (k r) rs (e r) (omega arith)))
    (λ t. rw t (rw (fed_ended take_reply ends_bad rs) (record { ending = ends_bad; is = refl; number = λ q. let y : ◌≡◌ {A = ℕ} 28 0 = q in omega arith })))

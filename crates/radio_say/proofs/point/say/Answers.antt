-- `radio_say::point::say` meets its contract: each return by the tests on its way and what the calls give.
use Rattle.std.proofs.Common.{List, ℕ, ap, ◌∙◌, length, take, ◌≤◌, arith}
use Rattle.std.proofs.lemmas.List.{length-take-le}
use Rattle.radio_calls.specs.Calls.{takes_answer, message_put}
use Rattle.radio_say.specs.Code.Say.{point_says, say_answer, say_out}
use Rattle.radio_say.proofs.Laws.Said.{says_not, no_room, no_record, no_point, may_fits, says_so, says_short, put_first}
use Rattle.radio_say.proofs.point.say.Goals as goal

pub returns-in_default : goal.returns-in_default
returns-in_default c =
    let a = c.args in
    let k = says_not a.point a.image.now a.held.now a.out.now _ (no_record a.point a.image.now a.held.now a.out.now c.in_default.ensures.1) c.says.ensures in
    record { value = k.0; out_after = k.1 }

pub returns-in_default-point_of : goal.returns-in_default-point_of
returns-in_default-point_of c =
    let a = c.args in
    let k = says_not a.point a.image.now a.held.now a.out.now _ (no_point a.point a.image.now a.held.now a.out.now c.in_default-point_of.ensures) c.says-in_default-point_of.ensures in
    record { value = k.0; out_after = k.1 }

pub returns-in_default-first_chunk_mut : goal.returns-in_default-first_chunk_mut
returns-in_default-first_chunk_mut c =
    let a = c.args in
    let k = says_not a.point a.image.now a.held.now a.out.now _ (no_room a.point a.image.now a.held.now a.out.now c.in_default-first_chunk_mut.ensures.cases) c.says-in_default-first_chunk_mut.ensures in
    record { value = k.0; out_after = k.1 }

pub returns : goal.returns
returns c =
    let a = c.args in
    let h = a.held.now in
    let o = a.out.now in
    let kept = c.in-Ok.ensures.1 in
    let at = c.in-Some.at in
    let is = c.in-Some.ensures in
    let first = c.in-Some-first_chunk_mut.ensures.cases in
    let may = may_fits at.point at.image.now h o first.enough kept.long at.image_fits at.point_fits in
    let value = c.say_at.ensures.value ∙ ap (λ (x : List ℕ). takes_answer (point_says at.point at.image.now (take 256 x))) kept.same in
    let out = c.say_at.ensures.out_after ∙ ap (λ (x : List ℕ). message_put (point_says at.point at.image.now (take 256 x)) c.in-Some-first_chunk_mut.out.now) kept.same ∙ ap (λ (x : List ℕ). message_put (point_says at.point at.image.now (take 256 h)) x) first.same in
    let long : 256 ≤ length h = let l = kept.long in omega arith in
    let short = says_short at.point at.image.now (take 256 h) (length-take-le 256 h long) at.point_fits in
    let k = says_so at.point at.image.now h o _ _ may value (put_first _ o c.say_at.new.out short first.enough out) in
    record {
      value = k.0 ∙ ap (λ p. say_answer p at.image.now h o) is.0 ∙ ap (λ i. say_answer a.point i h o) is.1;
      out_after = k.1 ∙ ap (λ p. say_out p at.image.now h o) is.0 ∙ ap (λ i. say_out a.point i h o) is.1;
    }

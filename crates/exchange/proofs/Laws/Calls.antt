-- What follows for every family of calls: the claims of specs/Calls.antt.
use mathlib.Core.Path.{◌≡◌, sym, ap, ◌∙◌}
use mathlib.Core.Bool.{cond}
use mathlib.Core.List.{List, [], ◌∷◌, ◌++◌, append-nil, append_assoc}
use lib.Dec.{eqb}
use borrow.Author.Tests.{eqb-true, ne_eqb}
use Rattle.laws.proofs.Tests.{by_test}
use Rattle.exchange.specs.Calls.{Family, call_done, call_heard, told, in_a_row, MayFollow, GoesOn, RefusedUnchanged, ListsAreReplies, ListsAlike}

module _ (F : Family) where
  pub refused_unchanged : RefusedUnchanged F
  unfolding call_done
  refused_unchanged c n = rw (ne_eqb (F.refusal c) 0 n)

  module _ (l : F.Lent) (by : List F.Reply → F.Told) (g : GoesOn F l by) where
    one : (c : F.Call) (qs : List F.Reply) → (F.refusal c ≡ 0 → F.AsLeft l (by qs) c)
        → call_heard F (by qs) c ≡ by (qs ++ cond (eqb (F.refusal c) 0) (F.replies c) [])
    unfolding call_heard call_done
    one c qs m =
        by_test (eqb (F.refusal c) 0)
        (λ e. rw e (g qs c (eqb-true (F.refusal c) 0 e) (m (eqb-true (F.refusal c) 0 e))))
        (λ e. rw e (ap by (sym (append-nil qs))))

    more : (calls : List F.Call) (qs : List F.Reply) → MayFollow F l (by qs) calls → told F (by qs) calls ≡ by (qs ++ in_a_row F calls)
    unfolding told in_a_row
    more [] qs m = ap by (sym (append-nil qs))
    more (c ∷ cs) qs m =
        let d : List F.Reply = cond (eqb (F.refusal c) 0) (F.replies c) [] in
        let h = one c qs m.0 in
        ap (λ (x : F.Told). told F x cs) h ∙ more cs (qs ++ d) (rw h at m.1) ∙ ap by (append_assoc qs d (in_a_row F cs))

    pub lists_are_replies : ListsAreReplies F l by
    lists_are_replies calls m = more calls [] m

    pub lists_alike : ListsAlike F l by
    lists_alike calls others m n e = lists_are_replies calls m ∙ ap by e ∙ sym (lists_are_replies others n)

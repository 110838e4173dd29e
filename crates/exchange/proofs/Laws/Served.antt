-- A sound machine's calls go on by their replies, so their lists are the replies in a row.
use mathlib.Core.Path.{◌≡◌, ap, ◌∙◌}
use mathlib.Core.List.{List}
use mathlib.Core.Option.{some}
use Prim.Native.Nat.{ℕ}
use Rattle.exchange.specs.Machine.{Machine, Sound, after_replies}
use Rattle.exchange.specs.Calls.{GoesOn, ListsAreReplies}
use Rattle.exchange.specs.Served.{Face, family, AddsUp, by_replies}
use Rattle.exchange.proofs.Laws.Machine.{replies_follow, parts_join}
use Rattle.exchange.proofs.Laws.Calls.{lists_are_replies}

module _ (M : Machine) (F : Face M) (S : Sound M) (A : AddsUp M F) (l : M.Lent) (s : M.Session) (f : M.Fine l s) where
  goes_on : GoesOn (family M F) l (by_replies M F l s)
  goes_on qs c e h =
      let g = replies_follow M S l s qs f in
      let z = after_replies M l s qs in
      let u : M.unpacked c.held ≡ some z = ap (λ (r : List ℕ). M.unpacked r) h.0 ∙ g.held in
      let ok : F.refusal (some z) l c.replies c.room ≡ 0 = rw (u, h.1) at e in
      let known = ap (λ (x : M.Exchange). F.hears (F.knows (M.left l s) qs) c.room (F.answer x c.replies c.room)) g.leaves
      ∙ A (M.left l s) z l qs c.replies c.room ok in
      let held = ap (λ (x : M.Session). M.packed x) (parts_join M l s qs c.replies) in
      rw (u, h.1) (λ i. record { held = held i; known = known i })

  pub served : ListsAreReplies (family M F) l (by_replies M F l s)
  served = lists_are_replies (family M F) l (by_replies M F l s) goes_on

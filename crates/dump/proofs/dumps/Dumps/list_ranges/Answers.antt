-- `dump::dumps::Dumps::list_ranges` meets its contract: the loop keeps `Sofar`, by the laws of Listing.
use native.Mathlib.Omega.{arith}
use Rattle.dump.proofs.Laws.Listing.{starts, goes_on, full, done}
use Rattle.dump.proofs.dumps.Dumps.list_ranges.Goals as goal

pub loop-at-init : goal.loop-at-init
loop-at-init c = (omega arith, λ next d. starts _ _ _ next c.args.self.same_length d)

pub returns-then-list-place-lt2 : goal.returns-then-list-place-lt2
returns-then-list-place-lt2 c =
    let s = c.loop-at.invariant.1 _ c.next_difference.ensures in
    let p = full _ _ _ _ _ _ s _ c.args.self.same_length c.in-Some.is c.if-list-place-lt2.true in
    record { value = p.0; list_after = p.1 }

pub loop-at-preserved : goal.loop-at-preserved
loop-at-preserved c =
    let s = c.loop-at.invariant.1 _ c.next_difference.ensures in
    let e = c.args.self.same_length in
    let room = c.if-list-place-lt2.false in
    let f = c.range_end-end.ensures in
    (f.within, λ next d. goes_on _ _ _ _ _ _ s _ _ next e c.in-Some.is room f d)

pub returns : goal.returns
returns c =
    let p = done _ _ _ _ _ _ (c.loop-at.invariant.1 _ c.next_difference.ensures) c.in_default.is in
    record { value = p.0; list_after = p.1 }

-- `dump::dumps::Dumps::first_difference` meets its contract. The loop over pages keeps that all bytes before its
-- page are equal, the loop over bytes that those of its page before the offset are; a page lies in the dump
-- by the laws of Pages.
use native.Mathlib.Omega.{arith}
use Rattle.std.proofs.lemmas.Bool.Decides.{Decides-eqb}
use Rattle.std.proofs.lemmas.Slice.Eq.{slice_eq-Decides}
use lib.ListN.{length}
use Rattle.dump_ranges.proofs.Laws.First.{none_found, found_at}
use Rattle.dump.proofs.Laws.Stretch.{equal_join}
use Rattle.dump.proofs.Laws.Pages.{all_pages, page_same}
use Rattle.dump.proofs.dumps.Dumps.first_difference.Goals as goal

pub loop-page-preserved-then-eq : goal.loop-page-preserved-then-eq
loop-page-preserved-then-eq c =
    let s = c.args in
    let e = slice_eq-Decides Decides-eqb _ _ _ c.eq.ensures in
    page_same s.self.a.now s.self.b.now c.loop-page.page s.size c.loop-page.invariant (e.0 c.if-eq.true)

pub returns-after-loop-page : goal.returns-after-loop-page
returns-after-loop-page c =
    let s = c.args in
    let p = c.loop-page in
    let last = all_pages (length s.self.a.now) s.size p.page c.requires.2 (rw c.len.ensures at c.loop-page-test.false) in
    record { same = none_found s.size s.self.a.now s.self.b.now s.self.same_length (λ k h. p.invariant k (omega arith) (omega arith)); in_page = tt }

pub returns-then-self-at : goal.returns-then-self-at
returns-then-self-at c =
    let s = c.args in
    let p = c.loop-page in
    let l = c.loop-offset in
    let t = c.loop-offset-test.true in
    let same = equal_join s.self.a.now s.self.b.now 0 _ _ p.invariant l.invariant.1 in record {
      same =
          found_at s.size p.page l.offset s.self.a.now s.self.b.now s.self.same_length t (omega arith) (λ k h. same k (omega arith) h)
          c.if-self-at.true;
      in_page = t;
    }

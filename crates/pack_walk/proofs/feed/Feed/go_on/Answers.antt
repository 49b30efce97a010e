use Rattle.std.proofs.Common.{◌∙◌, ◌+◌, subst, sym}
use Rattle.pack_walk.specs.code.Feeds.{AreAt}
use Rattle.pack_walk.proofs.feed.Feed.go_on.Goals as goal

pub next_rows-requires-clause-valid : goal.next_rows-requires-clause-valid
next_rows-requires-clause-valid c = rw c.as_slice.ensures c.self.invariant.lanes.valid

pub invariant_of-self : goal.invariant_of-self
invariant_of-self c =
    let a = c.self.inside in
    let kept = c.self.invariant in
    let lanes = c.as_slice.ensures in
    let moved = subst (λ xs. AreAt xs (a.cycles + 1) c.next_rows.new.cursors) lanes (c.next_rows.ensures.moved a.cycles (subst (λ xs. AreAt xs a.cycles a.cursors) (sym lanes) kept.cursors)) in
    record {
      width = kept.width ∙ sym c.fill.ensures.long;
      lanes = kept.lanes;
      cursors = moved;
      columns = c.fill.ensures.fed (a.cycles + 1) (subst (AreAt a.lanes.now.lanes (a.cycles + 1)) (sym c.as_slice-2.ensures) moved);
    }

use Rattle.std.proofs.Common.{◌≡◌, ◌∙◌, ℕ, get_or, sym, ap, subst}
use Rattle.plan_defs.specs.Homes.{home_of}
use Rattle.home_pick.specs.{code.Bags.times, code.Moves.AreUsesWithout, code.Spread.AreSpreadWithout, Crossings.uses_by}
use Rattle.home_pick.proofs.{LinkLemmas.taken_low, LinkLemmas.taken_times, SpreadLemmas.lifted_spread, WorkLemmas.lift_some, WorkLemmas.lifted_uses}
use Rattle.home_pick.proofs.moves.lift.Goals.{After-bag_of-taken, After-unmark_all}
use Rattle.home_pick.proofs.moves.lift.Goals as goal

counts : (c : After-bag_of-taken) (i : ℕ) → times c.bag_of-taken.result.now i ≡ uses_by c.args.nodes.now c.args.v i
counts c = taken_times c.args.nodes.now c.args.takes.now c.args.v c.bag_of-taken.result.now c.requires.takes c.requires.node c.bag_of-taken.ensures

pub take_bag-requires : goal.take_bag-requires
take_bag-requires c =
    let counted = counts (goal.at.take_bag-requires c).After-bag_of-taken in
    record {
      within = taken_low c.args.nodes.now c.args.v _ c.bag_of-taken.result.now c.requires.nodes counted c.requires.work.uses.size;
      bags = c.requires.work.uses.bags;
      some = lift_some c.args.nodes.now c.args.work.now.homes c.args.work.now.uses c.args.v (get_or c.as_slice.result.now c.args.v 0) c.bag_of-taken.result.now c.requires.nodes c.requires.work.are c.requires.work.uses c.requires.node counted
          (ap (λ xs. get_or xs c.args.v 0) c.as_slice.ensures);
    }

pub unmark_all-requires-clause-within : goal.unmark_all-requires-clause-within
unmark_all-requires-clause-within c = taken_low c.args.nodes.now c.args.v _ c.bag_of-taken.result.now c.requires.nodes (counts (goal.at.unmark_all-requires-clause-within c).After-bag_of-taken) c.requires.work.spread.size

-- the uses by the node are taken away, and the marks of what then isn't used everywhere
lifted : (c : After-unmark_all) → AreUsesWithout c.args.nodes.now c.args.work.now.homes c.args.v c.take_bag.new.bags × AreSpreadWithout c.args.nodes.now c.args.work.now.homes c.args.v c.unmark_all.new.spread
lifted c =
    let own : get_or c.as_slice.result.now c.args.v 0 ≡ home_of c.args.work.now.homes c.args.v = ap (λ xs. get_or xs c.args.v 0) c.as_slice.ensures in
    let counted = taken_times c.args.nodes.now c.args.takes.now c.args.v c.bag_of-taken.result.now c.requires.takes c.requires.node c.bag_of-taken.ensures in
    let without = lifted_uses c.args.nodes.now c.args.work.now.homes c.args.work.now.uses c.take_bag.new.bags c.args.v (get_or c.as_slice.result.now c.args.v 0) c.bag_of-taken.result.now c.requires.work.are c.requires.work.uses c.requires.node counted own c.take_bag.ensures.bags c.take_bag.ensures.gives in
    (without, lifted_spread c.args.nodes.now c.args.work.now.homes c.take_bag.new.bags c.args.work.now.spread c.unmark_all.new.spread c.args.v (get_or c.as_slice.result.now c.args.v 0) c.bag_of-taken.result.now c.requires.nodes c.requires.work.are c.requires.work.spread without c.requires.node counted own c.unmark_all.ensures)

pub weigh-requires-clause-spread : goal.weigh-requires-clause-spread
weigh-requires-clause-spread c = subst (AreSpreadWithout c.args.nodes.now c.args.work.now.homes c.args.v) (sym c.as_slice-spread.ensures) (lifted (goal.at.weigh-requires-clause-spread c).After-unmark_all).1

pub weigh-requires-clause-uses : goal.weigh-requires-clause-uses
weigh-requires-clause-uses c = (lifted (goal.at.weigh-requires-clause-uses c).After-unmark_all).0

pub returns-clause-lifted : goal.returns-clause-lifted
returns-clause-lifted c =
    let so_far = lifted (goal.at.returns-clause-lifted c).After-unmark_all in
    record {
      are = c.requires.work.are;
      without = so_far.0;
      loads = c.requires.work.loads;
      spread = so_far.1;
      size = c.in_ok-weigh.ensures.size ∙ c.requires.work.size;
      touched = c.in_ok-weigh.ensures.touched;
      pulls = c.in_ok-weigh.ensures.weighed;
      count = c.requires.work.count;
    }

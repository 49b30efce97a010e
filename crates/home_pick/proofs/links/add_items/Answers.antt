use Rattle.std.proofs.Common.{◌≡◌, ◌∙◌, ℕ, get_or, ap, arith}
use Rattle.home_pick.specs.{code.Bags.times, Crossings.uses_by}
use Rattle.home_pick.proofs.{LinkLemmas.gives_taken, LinkLemmas.taken_low, LinkLemmas.taken_times, links.add_items.Goals.After-bag_of}
use Rattle.home_pick.proofs.links.add_items.Goals as goal

counts : (c : After-bag_of) (i : ℕ) → times c.bag_of.result.now i ≡ uses_by c.args.nodes.now c.items.u i
counts c = taken_times c.args.nodes.now c.args.takes.now c.items.u c.bag_of.result.now c.requires.takes (omega arith) c.bag_of.ensures

pub give_bag-requires-clause-within : goal.give_bag-requires-clause-within
give_bag-requires-clause-within c = taken_low c.args.nodes.now c.items.u _ c.bag_of.result.now c.requires.nodes (counts (goal.at.give_bag-requires-clause-within c).After-bag_of) (c.items.invariant.gives.size ∙ c.requires.size)

pub items-preserved : goal.items-preserved
items-preserved c = record {
  ports = c.as_slice-ports.ensures;
  bags = c.in_ok-give_bag.ensures.bags;
  gives = gives_taken c.args.nodes.now c.args.homes.now c.bag_of.result.now c.args.uses.now c.items.uses c.give_bag.new.bags c.items.u (get_or c.as_slice-ports.result.now c.items.u 0) (counts (goal.at.items-preserved c).After-bag_of)
      (ap (λ xs. get_or xs c.items.u 0) c.as_slice-ports.ensures) c.items.invariant.gives c.in_ok-give_bag.ensures.gives;
}

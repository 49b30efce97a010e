use Rattle.std.proofs.Common.{List, ℕ, subst}
use Rattle.plan_defs.specs.Homes.{host_of}
use Rattle.home_pick.specs.{Bags.where_at, Crossings.times_in, code.Uses.Gives}
use Rattle.home_pick.proofs.LinkLemmas.{uses_are}
use Rattle.home_pick.proofs.links.add_all.Goals as goal

pub returns : goal.returns
returns c =
    uses_are c.args.nodes.now c.args.homes.now c.args.uses.now c.add_items.new.uses c.add_blocks.new.uses c.give_all.new.bags
    c.requires.size c.requires.none
    c.in_ok-give_all.ensures.bags c.in_ok-add_items.ensures.gives c.in_ok-add_blocks.ensures.gives
    (subst (λ (xs : List ℕ). Gives c.add_blocks.new.uses c.give_all.new.bags (λ i port. where_at (host_of c.args.homes.now) port (times_in xs i))) c.as_slice.ensures c.in_ok-give_all.ensures.gives)

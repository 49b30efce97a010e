use Rattle.std.proofs.Common.{◌≡◌}
use Rattle.plan_defs.specs.Homes.{block_home}
use Rattle.home_pick.specs.{Bags.where_at, Crossings.block_uses, code.Uses.AreBags, code.Uses.Gives}
use Rattle.home_pick.proofs.SumLemmas.{total}
use Rattle.home_pick.proofs.links.add_blocks.Given as goal

abbrev pub invariant-memories : goal.invariant-memories
invariant-memories l = record {
  blocks : l.blocks ≡ l.nodes.blocks;
  ports : l.ports ≡ l.homes.blocks;
  bags : AreBags l.uses;
  gives : Gives l.fn.uses l.uses (λ i port. total (λ m. where_at (block_home l.homes m) port (block_uses l.nodes m i)) l.m);
}

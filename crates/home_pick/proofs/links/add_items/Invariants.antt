use Rattle.std.proofs.Common.{◌≡◌}
use Rattle.plan_defs.specs.Homes.{home_of}
use Rattle.home_pick.specs.{Bags.where_at, Crossings.uses_by, code.Uses.AreBags, code.Uses.Gives}
use Rattle.home_pick.proofs.SumLemmas.{total}
use Rattle.home_pick.proofs.links.add_items.Given as goal

abbrev pub invariant-items : goal.invariant-items
invariant-items l = record {
  ports : l.ports ≡ l.homes.items;
  bags : AreBags l.uses;
  gives : Gives l.fn.uses l.uses (λ i port. total (λ u. where_at (home_of l.homes u) port (uses_by l.nodes u i)) l.u);
}

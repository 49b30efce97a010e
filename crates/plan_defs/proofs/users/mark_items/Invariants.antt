use Rattle.std.proofs.Common.{◌≡◌}
use Rattle.plan_defs.specs.Bits.{Adds}
use Rattle.plan_defs.proofs.UserLemmas.{ItemTakesBelow}
use Rattle.plan_defs.proofs.users.mark_items.Given as goal

abbrev pub invariant-items : goal.invariant-items
invariant-items l = record {
  adds : Adds l.fn.rows l.rows (ItemTakesBelow l.nodes l.homes l.taker);
  whole : l.items ≡ l.nodes.items;
  homes : l.ports ≡ l.homes.items;
}

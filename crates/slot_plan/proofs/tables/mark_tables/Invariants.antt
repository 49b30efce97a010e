use Rattle.std.proofs.Common.{◌≡◌}
use Rattle.plan_defs.specs.Bits.{Adds}
use Rattle.slot_plan.proofs.TableLemmas.{UsesTableBelow}
use Rattle.slot_plan.proofs.tables.mark_tables.Given as goal

abbrev pub invariant-items : goal.invariant-items
invariant-items l = record {
  adds : Adds l.fn.rows l.rows (UsesTableBelow l.nodes l.homes l.node);
  whole : l.items ≡ l.nodes.items;
  homes : l.ports ≡ l.homes.items;
}

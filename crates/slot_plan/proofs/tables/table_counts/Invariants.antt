use Rattle.slot_plan.specs.UsedTables.{AreTableCounts}
use Rattle.slot_plan.proofs.tables.table_counts.Given as goal

abbrev pub invariant-ports : goal.invariant-ports
invariant-ports l = AreTableCounts l.nodes l.homes l.port l.counts

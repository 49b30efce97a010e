use Rattle.plan_defs.specs.Bits.{HasBit}
use Rattle.slot_plan.specs.code.UsedTables.{CountsBelow}
use Rattle.slot_plan.proofs.tables.count.Given as goal

abbrev pub invariant-tables : goal.invariant-tables
invariant-tables l = CountsBelow (HasBit l.rows l.port) l.table l.count

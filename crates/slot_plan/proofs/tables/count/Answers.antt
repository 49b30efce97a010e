use Rattle.std.proofs.Common.{arith}
use Rattle.plan_defs.specs.Bits.{HasBit}
use Rattle.slot_plan.proofs.TableLemmas.{counted_none, counted_more, counted_few}
use Rattle.slot_plan.proofs.tables.count.Goals as goal

pub tables-init : goal.tables-init
tables-init c = counted_none (HasBit c.args.rows.now c.args.port)

pub counted-count-requires : goal.counted-count-requires
counted-count-requires c = let few = counted_few (HasBit c.args.rows.now c.args.port) c.tables.table c.tables.count c.tables.invariant in omega (arith, few)

pub tables-preserved : goal.tables-preserved
tables-preserved c = rw c.counted-count.ensures (counted_more (HasBit c.args.rows.now c.args.port) c.tables.table c.tables.count c.has-is.result c.tables.invariant c.has-is.ensures)

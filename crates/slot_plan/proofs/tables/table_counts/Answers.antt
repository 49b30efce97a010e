use Rattle.std.proofs.Common.{length, subst}
use Rattle.plan_defs.specs.Bits.{HasBit}
use Rattle.slot_plan.specs.code.UsedTables.{CountsBelow}
use Rattle.slot_plan.proofs.TableLemmas.{uses_are, counted_few, counts_none, counts_more}
use Rattle.slot_plan.proofs.tables.table_counts.Goals as goal

pub ports-init : goal.ports-init
ports-init c = rw c.new-counts.ensures (counts_none c.args.nodes.now c.args.homes.now)

pub ports-preserved : goal.ports-preserved
ports-preserved c =
    let counts = subst (λ n. CountsBelow (HasBit c.in_ok-rows.rows c.ports.port) n c.count.result) c.len.ensures c.count.ensures in
    rw c.in_ok-push.ensures.ok (counts_more _ _ _ _ _ c.ports.invariant
    (uses_are c.args.nodes.now c.args.homes.now c.in_ok-rows.rows c.ports.port c.count.result c.requires.nodes c.in_ok-rows.ensures counts)
    (counted_few (HasBit c.in_ok-rows.rows c.ports.port) (length c.args.nodes.now.tables) c.count.result counts))

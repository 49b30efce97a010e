use Rattle.std.proofs.Common.{refl, sym, subst}
use Rattle.slot_plan.specs.code.UsedTables.{HasTable}
use Rattle.slot_plan.proofs.tables.mark_table.Goals as goal

pub put-requires-clause-within : goal.put-requires-clause-within
put-requires-clause-within c = (c.requires c.in-Node.table (subst (λ i. HasTable i c.in-Node.table) (sym c.in-Node.is) refl)).within

pub put-requires-clause-room : goal.put-requires-clause-room
put-requires-clause-room c = (c.requires c.in-Node.table (subst (λ i. HasTable i c.in-Node.table) (sym c.in-Node.is) refl)).room

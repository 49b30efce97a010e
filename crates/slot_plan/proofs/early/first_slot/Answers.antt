use Rattle.std.proofs.Common.{sym, subst}
use Rattle.node_defs.specs.Takes.{Awaits}
use Rattle.slot_plan.specs.code.Early.{IsFrom}
use Rattle.slot_plan.proofs.early.first_slot.Goals as goal

pub after_all-requires : goal.after_all-requires
after_all-requires c = λ o awaits. c.requires o (subst (λ i. Awaits i o) (sym c.in-Node.is) awaits)

pub returns-in-Node : goal.returns-in-Node
returns-in-Node c = subst (λ i. IsFrom (Awaits i) c.args.slots.now c.after_all.result) (sym c.in-Node.is) c.after_all.ensures

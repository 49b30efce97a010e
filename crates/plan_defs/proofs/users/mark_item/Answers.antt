use Rattle.std.proofs.Common.{refl, sym, subst}
use Rattle.node_defs.specs.Takes.{Takes}
use Rattle.plan_defs.proofs.users.mark_item.Goals as goal

pub mark_feeds-requires : goal.mark_feeds-requires
mark_feeds-requires c = λ o takes. c.requires o (subst (λ i. Takes i o) (sym c.in-Node.is) takes)

pub put-requires-clause-within : goal.put-requires-clause-within
put-requires-clause-within c = (c.requires c.in-Latch.op (subst (λ i. Takes i c.in-Latch.op) (sym c.in-Latch.is) refl)).within

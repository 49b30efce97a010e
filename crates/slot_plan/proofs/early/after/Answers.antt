use Rattle.std.proofs.Common.{sym, subst}
use Rattle.node_defs.specs.Takes.{FeedAwaits}
use Rattle.slot_plan.specs.code.Early.{IsFrom}
use Rattle.slot_plan.proofs.early.after.Goals as goal

pub after_tagged-requires : goal.after_tagged-requires
after_tagged-requires c = λ o awaits. c.requires o (subst (λ f. FeedAwaits f o) (sym c.in-From.is) awaits)

pub returns-in-From : goal.returns-in-From
returns-in-From c = subst (λ f. IsFrom (FeedAwaits f) c.args.slots.now c.after_tagged.result) (sym c.in-From.is) c.after_tagged.ensures

use Rattle.std.proofs.Common.{refl, sym, subst}
use Rattle.node_defs.specs.Takes.{FeedTakes}
use Rattle.plan_defs.proofs.users.mark_feed.Goals as goal

pub put-requires-clause-within : goal.put-requires-clause-within
put-requires-clause-within c = (c.requires c.in-From.item (subst (λ f. FeedTakes f c.in-From.item) (sym c.in-From.is) refl)).within

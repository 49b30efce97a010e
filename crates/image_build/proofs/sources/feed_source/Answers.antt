use Rattle.std.proofs.Common.{sym, subst, refl}
use Rattle.node_defs.specs.Takes.{FeedTakes}
use Rattle.image_build.proofs.sources.feed_source.Goals as goal

pub source_of-requires-clause-item : goal.source_of-requires-clause-item
source_of-requires-clause-item c = c.requires.taken c.in-From.item (subst (λ feed. FeedTakes feed c.in-From.item) (sym c.in-From.is) refl)

use Rattle.std.proofs.Common.{◌∙◌, ap}
use Rattle.std.specs.Prelude.{max}
use Rattle.home_pick.specs.Better.{bound_of, fair_share, most_load}
use Rattle.home_pick.proofs.loads.bound_of.Goals as goal

pub returns : goal.returns
unfolding bound_of
returns c =
    c.max.ensures ∙ (ap (λ m. max m c.share-share.result) c.most_of.ensures
    ∙ ap (max (most_load c.args.nodes.now c.args.homes.now)) (c.share-share.ensures ∙ ap (λ n. fair_share n c.args.homes.now.logic) c.node_count.ensures))

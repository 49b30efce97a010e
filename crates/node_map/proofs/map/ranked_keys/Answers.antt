use Rattle.std.proofs.Common.{arith}
use Rattle.node_map.proofs.RankLemmas.{order_short}
use Rattle.node_map.proofs.map.ranked_keys.Goals as goal

pub own_ranks-requires-clause-short : goal.own_ranks-requires-clause-short
own_ranks-requires-clause-short c =
    omega (arith, order_short c.args.net.now c.args.timing.now c.args.order.now c.requires.order, c.requires.valid.few_signals)

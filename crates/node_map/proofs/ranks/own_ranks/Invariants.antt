use Rattle.node_map.proofs.RankLemmas.{OwnTo}
use Rattle.node_map.proofs.ranks.own_ranks.Given as goal

abbrev pub invariant-gates : goal.invariant-gates
invariant-gates l = OwnTo l.net l.timing l.order l.gate-index l.own

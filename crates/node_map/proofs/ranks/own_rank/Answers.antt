use Rattle.std.proofs.Common.{◌≤◌, length, arith}
use Rattle.node_map.proofs.lemmas.ShapeLemmas.{few_groups}
use Rattle.node_map.proofs.ranks.own_rank.Goals as goal

pub overflow_add-count : goal.overflow_add-count
overflow_add-count c =
    let few : length c.operands-ops.result.now ≤ 1024 = rw c.operands-ops.ensures c.requires.few in
    omega (arith, few_groups (length c.operands-ops.result.now), c.helper_count.ensures, few)

use Rattle.std.proofs.Common.{◌-◌}
use Rattle.node_defs.proofs.lemmas.GroupLemmas.{Counted}
use Rattle.node_defs.proofs.groups.helper_count.Given as goal

abbrev pub invariant-levels : goal.invariant-levels
invariant-levels l = Counted l.fn.operands l.helpers l.count

abbrev pub decreases-levels : goal.decreases-levels
decreases-levels l = l.count - 4

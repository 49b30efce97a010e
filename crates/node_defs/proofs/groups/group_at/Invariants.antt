use Rattle.std.proofs.Common.{◌-◌}
use Rattle.node_defs.proofs.lemmas.GroupLemmas.{AtLevel}
use Rattle.node_defs.proofs.groups.group_at.Given as goal

abbrev pub invariant-levels : goal.invariant-levels
invariant-levels l = AtLevel l.fn.operands l.fn.place l.first l.count l.left

abbrev pub decreases-levels : goal.decreases-levels
decreases-levels l = l.count - 4

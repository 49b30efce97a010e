use Rattle.home_pick.proofs.FillLemmas.{left_more, left_none}
use Rattle.home_pick.proofs.blocks.most_left.Goals as goal

pub ports-init : goal.ports-init
ports-init c = left_none c.args.left.now

pub ports-preserved : goal.ports-preserved
ports-preserved c = rw c.max-most.ensures (left_more c.args.left.now c.ports.a c.ports.most c.ports.invariant)

use Rattle.home_pick.proofs.FillLemmas.{filled_none}
use Rattle.home_pick.proofs.blocks.empty.Goals as goal

pub returns : goal.returns
returns c = rw c.new.ensures (filled_none c.args.nodes.now c.args.machine.now c.in_ok-left.left c.in_ok-left.ensures)

use Rattle.home_pick.proofs.TurnLemmas.{turned_none}
use Rattle.home_pick.proofs.turns.begin.Goals as goal

pub returns-clause-turned : goal.returns-clause-turned
returns-clause-turned c = rw c.in_ok-skips.ensures (turned_none c.args.nodes.now c.args.machine.now c.args.limits c.requires.machine.logic_least c.requires.limits)

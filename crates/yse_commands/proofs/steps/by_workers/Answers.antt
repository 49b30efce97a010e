-- What the run writes is the trace, and its visits are those of the netlist's turns.
use Rattle.yse_commands.proofs.{GateLemmas.image_turns, ShownLemmas.run_trace}
use Rattle.yse_commands.proofs.steps.by_workers.Goals as goal

pub returns-clause-printed : goal.returns-clause-printed
returns-clause-printed g c = run_trace c.args.run.net c.args.run.timing c.args.stimulus c.args.run.image c.requires.run.image

pub returns-clause-visits : goal.returns-clause-visits
returns-clause-visits g c =
    image_turns g.G.Gate c.args.words.now c.args.run.net c.args.run.timing c.args.stimulus c.args.run.image c.requires.run.image c.args.gates.now _ _ c.in_ok-wrote.ensures.visits

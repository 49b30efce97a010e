use Rattle.node_defs.proofs.RunLemmas as runs
use Rattle.node_defs.proofs.law.one_run.Goals as goal

pub returns : goal.returns
returns c net timing nodes are stimulus = runs.one_run net timing nodes are stimulus

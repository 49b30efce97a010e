use Rattle.std.proofs.Common.{rules}
use Rattle.crew_run.proofs.count_gate.CountGateGate.at.Goals as goal

pub returns-clause-latest : goal.returns-clause-latest
returns-clause-latest c = search rules

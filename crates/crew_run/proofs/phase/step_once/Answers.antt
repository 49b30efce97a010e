use Rattle.std.proofs.Common.{rules}
use Rattle.crew_run.proofs.phase.step_once.Goals as goal

pub at-requires-clause-room : goal.at-requires-clause-room
at-requires-clause-room g c = search rules

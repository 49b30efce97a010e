use Rattle.std.proofs.Common.{rules}
use Rattle.call_steps.proofs.checks.of_design.Goals as goal

pub returns-in-Loop : goal.returns-in-Loop
returns-in-Loop c = search rules

use Rattle.std.proofs.Common.{rules}
use Rattle.machine_run.proofs.window.block_cycles.Goals as goal

pub returns : goal.returns
returns c = search rules

use Rattle.std.proofs.Common.{arith}
use Rattle.pack_run.proofs.running.asked.Goals as goal

pub returns-else-finished-saturating_sub : goal.returns-else-finished-saturating_sub
returns-else-finished-saturating_sub c = omega (arith, c.saturating_sub.ensures, c.if-finished-saturating_sub.false)

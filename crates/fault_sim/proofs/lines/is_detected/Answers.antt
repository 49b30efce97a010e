use Rattle.std.proofs.Common.{refl}
use Rattle.fault_sim.proofs.lines.is_detected.Goals as goal

pub returns-in-Seen : goal.returns-in-Seen
returns-in-Seen c = rw c.in-Seen.is refl

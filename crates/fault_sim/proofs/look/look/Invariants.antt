use Rattle.fault_sim.proofs.Looking.{IsLookedTo}
use Rattle.fault_sim.proofs.look.look.Given as goal

abbrev pub invariant-faults : goal.invariant-faults
invariant-faults l = IsLookedTo l.net l.row l.cycle l.k l.fn.verdicts l.verdicts

use Rattle.std.proofs.Common.{◌≡◌}
use Rattle.fault_sim.specs.Faults.{faults_from}
use Rattle.fault_sim.proofs.all.all_faults.Given as goal

abbrev pub invariant-signals : goal.invariant-signals
invariant-signals l = l.faults ≡ faults_from 0 l.k

-- New gates.
use Rattle.std.specs.Prelude.{Option, Some, replicate, ◌≡◌}
use Rattle.limits.specs.declared.TheConstants.{MAX_PORTS}
use Rattle.crew_run.specs.contracts.count_gate.CountGateGate.TheImpl as count_gate
use Rattle.crew_run.specs.declared.count_gate.CountGate.{CountGate}

-- there is a gate, which was told nothing
pub record IsNew (gate : Option CountGate) : Type 0 where
  pub counts : CountGate
  pub is : gate ≡ Some counts
  pub times : count_gate.ghosts.times counts ≡ replicate MAX_PORTS 0
  pub latest : count_gate.ghosts.latest counts ≡ replicate MAX_PORTS 0

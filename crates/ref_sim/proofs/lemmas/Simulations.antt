-- Along an order there is exactly one simulation.
use Rattle.std.proofs.Common.{List, ℕ}
use Rattle.net_defs.specs.{declared.netlist.Netlist.Netlist, declared.timing.Timing.Timing, declared.stimulus.Stimulus.Stimulus, Loops.IsOrder}
use Rattle.net_defs.specs.Reference.{HasOneSimulation}
use Rattle.ref_sim.proofs.{Existence.simulation, Existence.is_simulation, Uniqueness.simulation_unique}

pub one_along : (net : Netlist) (timing : Timing) (stimulus : Stimulus) (order : List ℕ) → IsOrder net timing order → HasOneSimulation net timing stimulus
one_along net timing stimulus order is_order = record {
  states = simulation net timing stimulus order is_order;
  exists = is_simulation net timing stimulus order is_order;
  only = λ others is. simulation_unique net timing stimulus order is_order (simulation net timing stimulus order is_order) others (is_simulation net timing stimulus order is_order) is;
}

use Rattle.std.proofs.Common.{arith}
use Rattle.ref_sim.proofs.run.observe_lanes.Goals as goal

pub run-requires-clause-ready : goal.run-requires-clause-ready
run-requires-clause-ready g c = record {
  places = c.in_ok-state.ensures.places;
  few = omega (arith, c.in_ok-state.ensures.lanes, c.requires.lanes);
  words = λ l low. c.in_ok-state.ensures.shaped l (omega (arith, low, c.in_ok-state.ensures.lanes));
  room = c.in_ok-ports.ensures;
}

pub run-requires-clause-start : goal.run-requires-clause-start
run-requires-clause-start g c = λ l low. c.in_ok-state.ensures.first l (omega (arith, low, c.in_ok-state.ensures.lanes))

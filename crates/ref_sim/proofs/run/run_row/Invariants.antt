use Rattle.std.proofs.Common.{◌≡◌, ◌+◌, true, length}
use Rattle.net_ops.specs.States.{IsReady}
use Rattle.ref_sim.specs.code.Runs.{RunsTo, cycles_before}
use Rattle.ref_sim.proofs.run.run_row.Given as goal

abbrev pub invariant-times : goal.invariant-times
invariant-times g l = record {
  ready : IsReady g.W.Wire.lanes l.course.net.now l.state l.ports;
  lanes : length l.state.memories ≡ length l.fn.state.memories;
  runs : RunsTo g.W.Wire.lane (g.W.Wire.held l.course.forces.now) l.course.net.now l.course.timing.now l.course.stim.now (g.O.Observer.has_seen l.observer l.course.net.now) true (cycles_before l.course.stim.now l.r + l.time) l.state;
  size : g.O.Observer.size l.observer ≡ g.O.Observer.size l.fn.observer;
}

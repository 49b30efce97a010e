use Rattle.std.proofs.Common.{◌≡◌, ◌+◌, length}
use Rattle.ref_sim.specs.code.Runs.{AreWide}
use Rattle.ref_sim.proofs.trace_rows.push_rows.Given as goal

abbrev pub invariant-loop-time : goal.invariant-loop-time
invariant-loop-time l = record {
  wide : AreWide l.net l.rows;
  long : length l.rows ≡ length l.fn.rows + l._time;
}

use Rattle.std.proofs.Common.{◌≡◌, ◌++◌, ◌<◌, map}
use Rattle.std.specs.List.{range_with_len}
use Rattle.large_run.specs.Large.{gate_signal, gate_state}
use Rattle.large_run.proofs.netlist.push_gates.Given as goal

abbrev pub invariant-drawn : goal.invariant-drawn
invariant-drawn l = record {
  signals : l.signals ≡ l.fn.signals ++ map gate_signal (range_with_len 0 l.j);
  state : l.draws.state ≡ gate_state l.j;
  below : l.draws.state < 30269;
}

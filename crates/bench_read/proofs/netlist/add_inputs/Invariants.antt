use Rattle.std.proofs.Common.{◌≡◌, ◌++◌, map}
use Rattle.bench_read.proofs.Common.{flat_map, lines_in, lines_at, input_names, input_signal}
use Rattle.bench_read.proofs.netlist.add_inputs.Given as goal

abbrev pub invariant-lines : goal.invariant-lines
invariant-lines l = l.signals ++ map input_signal (flat_map input_names (lines_at l._at-iterator)) ≡ map input_signal (flat_map input_names (lines_in l.draft))

use Rattle.std.proofs.Common.{◌≡◌, ◌++◌, map}
use Rattle.std.specs.List.{range_with_len}
use Rattle.large_run.specs.Large.{input_signal}
use Rattle.large_run.proofs.netlist.push_inputs.Given as goal

abbrev pub invariant-inputs : goal.invariant-inputs
invariant-inputs l = l.signals ≡ l.fn.signals ++ map input_signal (range_with_len 0 l.i)

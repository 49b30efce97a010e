use Rattle.std.proofs.Common.{◌≡◌, map, take}
use Rattle.bench_read.proofs.list_reading.add_names.Given as goal

abbrev pub invariant-loop-signal : goal.invariant-loop-signal
invariant-loop-signal l = l.names ≡ map (λ signal. signal.name) (take l.signal-index l.signals)

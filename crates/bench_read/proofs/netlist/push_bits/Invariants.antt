use Rattle.std.proofs.Common.{◌≡◌, ◌++◌, map, take}
use Rattle.bench_read.proofs.Common.{bit_signals}
use Rattle.bench_read.proofs.netlist.push_bits.Given as goal

abbrev pub invariant-loop-bit : goal.invariant-loop-bit
invariant-loop-bit l = l.signals ≡ l.initial.signals ++ bit_signals l.block (map (λ driver. driver.name.now) (take l.bit l.outs))

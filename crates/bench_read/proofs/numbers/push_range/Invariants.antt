use Rattle.std.proofs.Common.{◌≡◌, ◌++◌}
use Rattle.bench_read.proofs.Common.{range_with_len}
use Rattle.bench_read.proofs.numbers.push_range.Given as goal

abbrev pub invariant-loop-k : goal.invariant-loop-k
invariant-loop-k l = l.numbers ≡ l.initial.numbers ++ range_with_len l.first l.k

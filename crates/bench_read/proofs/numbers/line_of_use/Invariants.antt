use Rattle.std.proofs.Common.{◌≡◌}
use Rattle.bench_read.proofs.Common.{placed_in, line_of_use}
use Rattle.bench_read.proofs.numbers.line_of_use.Given as goal

abbrev pub invariant-lines : goal.invariant-lines
invariant-lines l = line_of_use l.at-iterator l.left ≡ line_of_use (placed_in l.draft) l.place

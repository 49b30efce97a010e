use Rattle.std.proofs.Common.{◌≡◌, replicate}
use Rattle.rank_find.proofs.numbers.zeros.Given as goal

abbrev pub invariant-loop-signal : goal.invariant-loop-signal
invariant-loop-signal l = record {
  so_far : l.rank ≡ replicate l._signal-index 0;
  whole : l._signal-items ≡ l.net.signals;
}

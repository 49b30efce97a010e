use Rattle.std.proofs.Common.{◌≡◌, replicate}
use Rattle.node_map.proofs.ranks.zeros.Given as goal

abbrev pub invariant-signals : goal.invariant-signals
invariant-signals l = record {
  so_far : l.own ≡ replicate l._signal-index 0;
  whole : l._signal-items ≡ l.net.signals;
}

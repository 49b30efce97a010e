use Rattle.std.proofs.Common.{◌≡◌, map}
use Rattle.std.specs.List.{range_with_len}
use Rattle.node_map.specs.code.Places.{start_of}
use Rattle.node_map.proofs.numbering.starts.Given as goal

abbrev pub invariant-signals : goal.invariant-signals
invariant-signals l = record {
  so_far : l.starts ≡ map (start_of l.net) (range_with_len 0 l.signal);
  at : l.next ≡ start_of l.net l.signal;
}

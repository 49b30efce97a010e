use Rattle.std.proofs.Common.{◌≡◌, ◌++◌, map}
use Rattle.std.specs.List.{range_with_len}
use Rattle.node_map.specs.code.Places.{key_from}
use Rattle.node_map.proofs.keys.push_keys.Given as goal

abbrev pub invariant-places : goal.invariant-places
invariant-places l = l.keys.items ≡ l.initial.keys.items ++ map (key_from l.net l.signal l.count l.pasts.items) (range_with_len 0 l.place)

use Rattle.std.proofs.Common.{◌≡◌, map, take}
use Rattle.node_map.specs.code.Places.{name_of}
use Rattle.node_map.proofs.numbering.names.Given as goal

abbrev pub invariant-keys : goal.invariant-keys
invariant-keys l = l.names ≡ map (name_of l.net) (take l.key-index l.keys)

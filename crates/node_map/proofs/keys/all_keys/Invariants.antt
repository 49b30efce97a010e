use Rattle.std.proofs.Common.{◌≡◌}
use Rattle.node_map.specs.code.Places.{keys_to}
use Rattle.node_map.proofs.keys.all_keys.Given as goal

abbrev pub invariant-signals : goal.invariant-signals
invariant-signals l = l.keys.items ≡ keys_to l.net l.timing l.own l.signal

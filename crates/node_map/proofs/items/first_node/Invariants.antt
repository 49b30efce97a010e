use Rattle.std.proofs.Common.{◌≡◌, ◌<◌, ℕ}
use Rattle.std.specs.Prelude.{Some, slice_get}
use Rattle.node_map.specs.declared.keys.Key.{Key}
use Rattle.node_map.proofs.items.first_node.Given as goal

abbrev pub invariant-keys : goal.invariant-keys
invariant-keys l = (y : ℕ) (key : Key) → y < l.x → slice_get l.keys y ≡ Some key → key.class ≡ 2 → ⊥

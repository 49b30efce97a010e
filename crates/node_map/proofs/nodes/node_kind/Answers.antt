use Rattle.std.proofs.Common.{lt-ltb, refl, sym}
use Rattle.node_map.proofs.nodes.node_kind.Goals as goal

pub returns-then-place-helper_count : goal.returns-then-place-helper_count
returns-then-place-helper_count c =
    rw c.base_kind.ensures (rw (sym c.helper_count.ensures) (rw (lt-ltb c.args.place c.helper_count.result c.if-place-helper_count.true) refl))

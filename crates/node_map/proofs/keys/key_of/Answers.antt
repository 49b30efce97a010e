use Rattle.std.proofs.Common.{refl}
use Rattle.node_map.proofs.keys.key_of.Goals as goal

pub returns : goal.returns
returns c = rw c.class.ensures (rw c.saturating_sub.ensures (rw c.number.ensures refl))

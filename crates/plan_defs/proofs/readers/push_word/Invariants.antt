use Rattle.std.proofs.Common.{◌≢◌, ◌+◌, ◌-◌, ◌*◌, ◌≤◌}
use Rattle.plan_defs.specs.{Bits.HasBit, code.Lists.ListsBelow}
use Rattle.plan_defs.proofs.readers.push_word.Given as goal

pub record invariant-bits (l : goal.Live-bits) : Type 0 where
  pub listed : ListsBelow (λ port. HasBit l.rows l.item port × (port ≢ l.home)) (64 * l.w + l.from) l.ports
  pub from : l.from ≤ 64

abbrev pub decreases-bits : goal.decreases-bits
decreases-bits l = 64 - l.from

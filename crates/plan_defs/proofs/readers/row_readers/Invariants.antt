use Rattle.std.proofs.Common.{◌≢◌, ◌*◌}
use Rattle.plan_defs.specs.{Bits.HasBit, code.Lists.ListsBelow}
use Rattle.plan_defs.proofs.readers.row_readers.Given as goal

abbrev pub invariant-words : goal.invariant-words
invariant-words l = ListsBelow (λ port. HasBit l.rows l.item port × (port ≢ l.home)) (64 * l.w) l.ports

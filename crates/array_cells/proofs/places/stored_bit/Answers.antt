use Rattle.array_cells.proofs.PlaceLemmas.{stored_undefined}
use Rattle.array_cells.proofs.places.stored_bit.Goals as goal

pub returns-in_default : goal.returns-in_default
returns-in_default c = stored_undefined c.args.we c.args.bit c.in_default.not-One

pub returns-in-One : goal.returns-in-One
returns-in-One c = rw c.in-One.is c.settle.ensures

use Rattle.std.proofs.Common.{refl}
use Rattle.pack_walk.proofs.cells.row_start.Goals as goal

pub returns : goal.returns
returns c = refl

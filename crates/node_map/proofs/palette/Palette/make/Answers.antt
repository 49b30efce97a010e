use Rattle.std.proofs.Common.{rules}
use Rattle.node_map.proofs.palette.Palette.make.Goals as goal

pub returns-clause-number : goal.returns-clause-number
returns-clause-number c = search rules

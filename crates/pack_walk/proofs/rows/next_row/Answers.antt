use Rattle.std.proofs.Common.{arith}
use Rattle.pack_walk.proofs.CursorLemmas.{stays_behind}
use Rattle.pack_walk.proofs.rows.next_row.Goals as goal

pub returns-else-cursor-len : goal.returns-else-cursor-len
returns-else-cursor-len c = λ n at. stays_behind c.args.stim.now n c.args.cursor (omega (arith, c.len.ensures)) at

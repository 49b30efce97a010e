use Rattle.std.proofs.Common.{arith}
use Rattle.port_host.proofs.CursorLemmas.{row_stays, row_over}
use Rattle.port_host.proofs.cursor.next.Goals as goal

pub returns-then-cursor-gt1 : goal.returns-then-cursor-gt1
returns-then-cursor-gt1 c = λ n valid at. row_stays c.args.stim.now n c.args.cursor.row c.args.cursor.rest (omega arith) c.requires at

pub returns-else-cursor-gt1 : goal.returns-else-cursor-gt1
returns-else-cursor-gt1 c = λ n valid at. row_over c.args.stim.now n c.args.cursor.row c.args.cursor.rest c.times.result valid (omega arith) c.requires c.times.ensures at

-- The call that was made is that of the words that were read.
use Rattle.std.proofs.Common.{rules}
use Rattle.yse_top.proofs.program.ended.Goals as goal

pub returns-in-Ok : goal.returns-in-Ok
returns-in-Ok g c = search rules

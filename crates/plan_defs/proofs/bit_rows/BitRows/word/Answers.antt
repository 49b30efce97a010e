use Rattle.std.proofs.Common.{rules}
use Rattle.plan_defs.proofs.bit_rows.BitRows.word.Goals as goal

pub returns : goal.returns
returns c = search rules

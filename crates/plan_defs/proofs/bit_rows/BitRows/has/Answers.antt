use Rattle.std.proofs.{Common.rules, lemmas.Grind.common_steps}
use Rattle.plan_defs.proofs.bit_rows.BitRows.has.Goals as goal

pub returns-then-bit-self : goal.returns-then-bit-self
returns-then-bit-self c = search (rules, common_steps)

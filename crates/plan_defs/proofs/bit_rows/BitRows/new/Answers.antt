use Rattle.std.proofs.{Common.rules, lemmas.Grind.common_steps}
use Rattle.plan_defs.proofs.bit_rows.BitRows.new.Goals as goal

pub returns-clause-none : goal.returns-clause-none
returns-clause-none c = search (rules, common_steps)

pub returns-clause-shape : goal.returns-clause-shape
returns-clause-shape c = search (rules, common_steps)

use Rattle.std.proofs.{Common.rules, lemmas.Grind.common_steps}
use Rattle.text_lines.proofs.numbers.number.Goals as goal

pub loop-byte-preserved : goal.loop-byte-preserved
loop-byte-preserved c = search (rules, common_steps)

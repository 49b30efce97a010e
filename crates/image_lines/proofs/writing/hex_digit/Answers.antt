use Rattle.std.proofs.{Common.arith, lemmas.Bool.le-ltb}
use Rattle.image_lines.proofs.writing.hex_digit.Goals as goal

pub returns-else-digit-lt10 : goal.returns-else-digit-lt10
returns-else-digit-lt10 c = rw (le-ltb c.args.digit 10 c.if-digit-lt10.false) (omega (arith, c.if-digit-lt10.false))

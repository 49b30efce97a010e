use Rattle.std.proofs.Common.{rules}
use Rattle.image_lines.specs.Tokens.{plain_number}
use Rattle.image_lines.proofs.tokens.plain_number.Goals as goal

pub returns : goal.returns
unfolding plain_number
returns c = search rules

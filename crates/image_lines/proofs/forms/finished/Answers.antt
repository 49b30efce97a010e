use Rattle.std.proofs.Common.{rules}
use Rattle.image_lines.proofs.forms.finished.Goals as goal

pub returns-clause-read : goal.returns-clause-read
returns-clause-read c = search rules

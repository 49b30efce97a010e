use Rattle.std.proofs.Common.{refl}
use Rattle.refusals.proofs.diagnostics.status_of.Goals as goal

pub returns-in-ImageText : goal.returns-in-ImageText
returns-in-ImageText c = rw c.in-ImageText.is refl

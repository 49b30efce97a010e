use Rattle.std.proofs.Common.{rules}
use Rattle.machine_text.proofs.quantity.Quantity.is_word.Goals as goal

pub returns-else-eq : goal.returns-else-eq
returns-else-eq c = search rules

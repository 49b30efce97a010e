use Rattle.std.proofs.Common.{refl}
use Rattle.cmd_words.proofs.settings.allows_units.Goals as goal

pub returns-in-Rank : goal.returns-in-Rank
returns-in-Rank c = rw c.in-Rank.is refl

use Rattle.std.proofs.Common.{refl}
use Rattle.stim_text.proofs.reading.cycles_with.Goals as goal

pub returns : goal.returns
returns c = refl

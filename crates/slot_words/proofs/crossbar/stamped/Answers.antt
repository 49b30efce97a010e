use Rattle.std.proofs.Common.{refl}
use Rattle.slot_words.proofs.crossbar.stamped.Goals as goal

pub returns : goal.returns
returns c = rw c.code.ensures refl

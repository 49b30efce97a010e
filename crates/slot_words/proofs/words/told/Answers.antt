use Rattle.std.proofs.Common.{refl}
use Rattle.slot_words.proofs.words.told.Goals as goal

pub returns-then-number-eq-UNCLAIMED : goal.returns-then-number-eq-UNCLAIMED
returns-then-number-eq-UNCLAIMED c = rw c.if-number-eq-UNCLAIMED.true refl

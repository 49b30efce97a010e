use Rattle.std.proofs.Common.{refl}
use Rattle.slot_words.proofs.links.word_in_turn.Goals as goal

pub returns-else-banks-eq1 : goal.returns-else-banks-eq1
returns-else-banks-eq1 c = refl

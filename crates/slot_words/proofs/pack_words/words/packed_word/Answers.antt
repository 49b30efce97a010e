use Rattle.std.proofs.Common.{refl}
use Rattle.slot_words.proofs.pack_words.words.packed_word.Goals as goal

pub returns : goal.returns
returns c = refl

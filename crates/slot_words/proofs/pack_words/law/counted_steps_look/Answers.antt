use Rattle.std.proofs.Common.{slice_set}
use Rattle.slot_words.proofs.LookLemmas.{counted_look}
use Rattle.slot_words.proofs.pack_words.law.counted_steps_look.Goals as goal

pub returns : goal.returns
returns c key s word number id held old new act before there counted after =
    counted_look key.image.value s.words (slice_set s.words word number) s.views id old new before.looks there counted after.looks

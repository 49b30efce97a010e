use Rattle.slot_words.proofs.{PackedLemmas.rule_sound, lemmas.SoundLemmas.rule_distinct}
use Rattle.slot_words.specs.packed.Words.{packs}
use Rattle.slot_words.proofs.pack_words.law.rule_is_sound.Goals as goal

pub returns-clause-sound : goal.returns-clause-sound
returns-clause-sound c = rule_sound

pub returns-clause-distinct : goal.returns-clause-distinct
returns-clause-distinct c = rule_distinct packs

pub returns-clause-looks : goal.returns-clause-looks
returns-clause-looks c key s kept = kept.looks

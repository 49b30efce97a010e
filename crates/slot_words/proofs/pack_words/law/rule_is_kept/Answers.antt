use Rattle.slot_words.proofs.pack_words.law.rule_is_kept.Goals as goal

pub returns-clause-kept : goal.returns-clause-kept
returns-clause-kept c key s kept = kept

pub returns-clause-held : goal.returns-clause-held
returns-clause-held c key s kept = kept

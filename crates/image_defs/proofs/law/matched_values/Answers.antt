use Rattle.image_defs.proofs.lemmas.MatchLemmas as lemmas
use Rattle.image_defs.proofs.law.matched_values.Goals as goal

pub returns : goal.returns
returns c image claims nodes timing fits matches stimulus values are =
    lemmas.shows_items image claims nodes timing stimulus values fits matches are

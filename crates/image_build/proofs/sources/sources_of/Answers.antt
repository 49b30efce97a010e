use Rattle.std.proofs.lemmas.List.Elements.{Contains-get_or}
use Rattle.image_build.proofs.sources.sources_of.Goals as goal

pub source_of-requires-clause-item : goal.source_of-requires-clause-item
source_of-requires-clause-item c = c.requires.items _ (Contains-get_or c.args.items.now c.items.k 0 c.items-test.true)

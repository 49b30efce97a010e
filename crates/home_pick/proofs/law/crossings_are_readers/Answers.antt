use Rattle.home_pick.proofs.ReaderLemmas.{crossings_counted}
use Rattle.home_pick.proofs.law.crossings_are_readers.Goals as goal

pub returns : goal.returns
returns c = crossings_counted

use Rattle.image_check.proofs.SearchLemmas.{not_found}
use Rattle.image_check.proofs.search.place_of.Goals as goal

pub returns-in-Err : goal.returns-in-Err
returns-in-Err c = not_found c.args.numbers.now c.args.number _ c.requires c.in-Err.ensures.position

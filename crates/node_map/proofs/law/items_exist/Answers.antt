use Rattle.node_map.proofs.ExistLemmas.{items_there}
use Rattle.node_map.proofs.law.items_exist.Goals as goal

pub returns : goal.returns
returns c net timing order valid is_order = items_there net timing order valid is_order

use Rattle.std.proofs.Common.{rules}
use Rattle.home_pick.proofs.bags.give.Goals as goal

pub add-requires-clause-new : goal.add-requires-clause-new
add-requires-clause-new c = search rules

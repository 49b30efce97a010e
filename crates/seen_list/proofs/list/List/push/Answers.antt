use Rattle.std.proofs.Common.{rules}
use Rattle.seen_list.proofs.list.List.push.Goals as goal

pub returns-clause-ok : goal.returns-clause-ok
returns-clause-ok g c = search rules

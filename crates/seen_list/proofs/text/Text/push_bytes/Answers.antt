use Rattle.std.proofs.Common.{rules}
use Rattle.seen_list.proofs.text.Text.push_bytes.Goals as goal

pub returns-clause-ok : goal.returns-clause-ok
returns-clause-ok c = search rules

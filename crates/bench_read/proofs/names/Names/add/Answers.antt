-- The names are the keys as they are seen, and a key is found where its bytes are.
use Rattle.bench_read.proofs.Common.{list_any-map}
use Rattle.bench_read.proofs.names.Names.add.Goals as goal

pub returns-clause-is_new : goal.returns-clause-is_new
returns-clause-is_new c = rw (← c.self.view_is, list_any-map) c.in_ok-insert.ensures.added

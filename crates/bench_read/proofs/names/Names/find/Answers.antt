-- The names are the keys as they are seen, and a key is found where its bytes are.
use Rattle.std.proofs.Common.{refl, bytes_eq}
use Rattle.list_laws.proofs.Tests.{position-map}
use Rattle.bench_read.proofs.names.Names.find.Goals as goal

pub returns : goal.returns
returns c = rw (c.get_index_of.ensures.index, ← c.self.view_is, position-map (bytes_eq c.args.name.now) (λ key. key.now) c.self.inside.set.keys) refl

use Rattle.std.proofs.Common.{refl}
use Rattle.edge_io.proofs.plain_sink.PlainSink.write.Goals as goal

pub returns : goal.returns
returns c = rw (c.in-Ok.ensures.items, ← c.self.view_is) refl

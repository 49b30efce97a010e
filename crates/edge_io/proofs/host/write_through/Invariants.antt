use Rattle.std.specs.Io.KnownBytes.{Keeps}
use Rattle.edge_io.proofs.host.write_through.Given as goal

-- a call that was cut off took no byte
abbrev pub invariant-tries : goal.invariant-tries
invariant-tries g l = Keeps (g.W.Write.contents l.initial.writer) (g.W.Write.contents l.writer)

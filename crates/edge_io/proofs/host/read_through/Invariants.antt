use Rattle.std.specs.Io.KnownBytes.{Keeps}
use Rattle.edge_io.proofs.host.read_through.Given as goal

-- a call that was cut off gave no byte
abbrev pub invariant-tries : goal.invariant-tries
invariant-tries g l = Keeps (g.F.Read.remaining l.initial.file) (g.F.Read.remaining l.file)

use Rattle.port_array.specs.{Lanes.IsWhole, code.Lanes.HasActed}
use Rattle.port_array.proofs.memory.edge.Given as goal

abbrev pub invariant-lanes : goal.invariant-lanes
invariant-lanes g l = record {
  acted : HasActed g.W.Word l.bank l.block l.k l.initial.memory l.memory;
  whole : IsWhole g.W.Word l.block l.memory;
}

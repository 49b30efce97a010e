use Rattle.port_array.specs.{Lanes.AreWhole, code.Lanes.HaveActed}
use Rattle.port_array.proofs.memory.edge_all.Given as goal

abbrev pub invariant-all : goal.invariant-all
invariant-all g l = record {
  acted : HaveActed g.W.Word l.bank l.blocks l.b l.initial.memories l.memories;
  whole : AreWhole g.W.Word l.blocks l.memories;
}

use Rattle.std.proofs.Common.{◌<◌, subst}
use Rattle.port_array.proofs.LaneMemories.{acted_lane}
use Rattle.port_array.proofs.memory.edge.Goals as goal

pub lanes-preserved : goal.lanes-preserved
lanes-preserved g c = record {
  acted = acted_lane g.W.Word c.args.bank.now c.args.block.now c.lanes.k c.args.memory.now c.lanes.memory c.edge_lane.new.memory (subst (λ n. c.lanes.k < n) c.count-k-end.ensures c.lanes-test.true) c.lanes.invariant.acted c.edge_lane.ensures.acted c.edge_lane.ensures.others;
  whole = c.edge_lane.ensures.whole;
}

use Rattle.std.proofs.Common.{◌∙◌}
use Rattle.node_map.specs.code.Wires.{past_of}
use Rattle.node_map.proofs.PastLemmas.{map_taken, map_whole}
use Rattle.node_map.proofs.wires.fill_operands.Goals as goal

pub operands-preserved : goal.operands-preserved
operands-preserved c =
    c.in_ok-push.ensures.items
    ∙ map_taken (past_of c.args.net.now c.args.own.now c.args.late) c.args.ops.now c.operands.operand-index c.operands.pasts.items c.past.result c.operands-test.true c.operands.invariant c.past.ensures

pub returns : goal.returns
returns c = map_whole (past_of c.args.net.now c.args.own.now c.args.late) c.args.ops.now c.operands.operand-index c.operands.pasts.items c.operands-test.false c.operands.invariant

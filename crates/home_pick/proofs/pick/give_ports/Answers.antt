use Rattle.std.proofs.Common.{arith}
use Rattle.plan_defs.proofs.UserLemmas.{read_at}
use Rattle.home_pick.proofs.HomeLemmas.{ports_more}
use Rattle.home_pick.proofs.pick.give_ports.Goals as goal

pub items-preserved : goal.items-preserved
items-preserved c = rw (c.in_ok-push.ensures.ok, c.item_port-port.ensures.ports) (record {
  so_far = ports_more c.args.nodes.now c.args.machine.now c.args.blocks.now c.items.turns.ports c.item_port-port.result c.items.i _ c.requires.nodes c.items.invariant.so_far
      (read_at c.args.nodes.now.items c.as_slice-items.result.now c.items.i _ c.as_slice-items.ensures (omega arith)) c.item_port-port.ensures.home;
  turned = c.item_port-port.ensures.turned;
  whole = c.as_slice-items.ensures;
})

use Rattle.std.proofs.Common.{◌≡◌, length, subst, arith}
use Rattle.plan_defs.specs.Picks.{AreHoused}
use Rattle.home_pick.proofs.pick.block_ports.Goals as goal

pub returns-clause-housed : goal.returns-clause-housed
returns-clause-housed c =
    let whole : c.memories.block ≡ length c.args.nodes.now.blocks = omega arith in
    subst (AreHoused c.args.nodes.now c.args.machine.now c.memories.filling.ports) whole c.memories.invariant.housed

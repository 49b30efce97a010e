use Rattle.std.proofs.Common.{subst, length}
use Rattle.home_pick.specs.code.Rooms.{AreItemPorts}
use Rattle.home_pick.proofs.HomeLemmas.{homes_are, picked_are}
use Rattle.home_pick.proofs.pick.homes.Goals as goal

pub returns : goal.returns
returns c =
    let picked =
    picked_are _ _ _ _ c.in_ok-blocks.ensures.housed c.in_ok-limits.ensures.few
    (subst (λ blocks. AreItemPorts c.args.nodes.now c.args.machine.now blocks (length c.args.nodes.now.items) c.in_ok-items.items) c.as_slice-2.ensures c.in_ok-items.ensures) in
    record { picked = picked; homes = homes_are _ _ _ c.requires.nodes c.requires.machine picked; refused = tt }

use Rattle.std.proofs.Common.{subst, sym}
use Rattle.port_walk.specs.Placed.{CanTakeValue}
use Rattle.port_walk.proofs.BlockLemmas.{take_kept, take_made}
use Rattle.port_walk.proofs.any_port.AnyPort.took.Goals as goal

pub invariant_of-self : goal.invariant_of-self
invariant_of-self c =
    let can = subst (λ view. CanTakeValue view c.args.v) (sym c.self.view_is) c.requires in
    take_kept c.self.inside c.self.invariant can.j can.link can.receiving c.took.new.self c.took.ensures

pub returns : goal.returns
returns c = take_made c.self.inside c.took.new.self c.took.ensures _ c.self.view_is

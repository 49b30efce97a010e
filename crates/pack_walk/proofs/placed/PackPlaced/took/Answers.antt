use Rattle.std.proofs.Common.{subst, sym}
use Rattle.port_walk.specs.Stands.{IsReceiving}
use Rattle.pack_walk.specs.Placed.{CanTake}
use Rattle.pack_walk.proofs.PlacedLemmas.{stand_is, take_kept, take_made}
use Rattle.pack_walk.proofs.placed.PackPlaced.took.Goals as goal

pub took-requires : goal.took-requires
took-requires c =
    let can = subst (λ view. CanTake view c.args.values) (sym c.self.view_is) c.requires in
    record { j = can.j; link = can.link; receiving = subst (λ s. IsReceiving s can.j can.link) (stand_is c.self.inside c.self.invariant) can.receiving; value = can.values_are }

pub invariant_of-self : goal.invariant_of-self
invariant_of-self c =
    let can = subst (λ view. CanTake view c.args.values) (sym c.self.view_is) c.requires in
    take_kept c.self.inside c.self.invariant can.j can.link (subst (λ s. IsReceiving s can.j can.link) (stand_is c.self.inside c.self.invariant) can.receiving) c.took.new.self c.took.ensures

pub returns : goal.returns
returns c = take_made c.self.inside c.self.invariant c.took.new.self c.took.ensures _ c.self.view_is

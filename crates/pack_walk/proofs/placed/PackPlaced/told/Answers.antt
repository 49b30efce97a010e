use Rattle.std.proofs.Common.{◌∙◌, ap, subst, sym}
use Rattle.port_walk.specs.Stands.{IsEnding}
use Rattle.pack_walk.specs.Placed.{stand_of}
use Rattle.pack_walk.proofs.PlacedLemmas.{stand_is, room_now}
use Rattle.pack_walk.proofs.placed.PackPlaced.told.Goals as goal

pub told-requires-clause-end : goal.told-requires-clause-end
told-requires-clause-end c = subst IsEnding (ap stand_of (sym c.self.view_is) ∙ stand_is c.self.inside c.self.invariant) c.requires

pub told-requires-clause-room : goal.told-requires-clause-room
told-requires-clause-room c =
    room_now c.self.inside c.self.invariant (subst IsEnding (ap stand_of (sym c.self.view_is) ∙ stand_is c.self.inside c.self.invariant) c.requires).early

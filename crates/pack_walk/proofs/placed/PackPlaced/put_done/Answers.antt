use Rattle.std.proofs.Common.{◌∙◌, ap, subst, sym}
use Rattle.port_walk.specs.Stands.{CanPut}
use Rattle.pack_walk.specs.Placed.{stand_of}
use Rattle.pack_walk.proofs.PlacedLemmas.{stand_is, put_kept, put_made}
use Rattle.pack_walk.proofs.placed.PackPlaced.put_done.Goals as goal

pub put_done-requires : goal.put_done-requires
put_done-requires c = subst CanPut (ap stand_of (sym c.self.view_is) ∙ stand_is c.self.inside c.self.invariant) c.requires

pub invariant_of-self : goal.invariant_of-self
invariant_of-self c =
    put_kept c.self.inside c.self.invariant (subst CanPut (ap stand_of (sym c.self.view_is) ∙ stand_is c.self.inside c.self.invariant) c.requires) c.put_done.new.self c.put_done.ensures

pub returns : goal.returns
returns c = put_made c.self.inside c.self.invariant c.put_done.new.self c.put_done.ensures _ c.self.view_is

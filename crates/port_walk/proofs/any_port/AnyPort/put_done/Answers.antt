use Rattle.std.proofs.Common.{subst, sym}
use Rattle.port_walk.specs.Placed.{CanPut}
use Rattle.port_walk.proofs.BlockLemmas.{put_kept, put_made}
use Rattle.port_walk.proofs.any_port.AnyPort.put_done.Goals as goal

pub invariant_of-self : goal.invariant_of-self
invariant_of-self c = put_kept c.self.inside c.self.invariant (subst CanPut (sym c.self.view_is) c.requires) c.put_done.new.self c.put_done.ensures

pub returns : goal.returns
returns c = put_made c.self.inside c.put_done.new.self c.put_done.ensures _ c.self.view_is

use Rattle.pack_walk.proofs.PlacedLemmas.{next_of}
use Rattle.pack_walk.proofs.placed.PackPlaced.next.Goals as goal

pub returns : goal.returns
returns c = next_of c.self.inside c.self.invariant c.args.known.now c.next.result c.next.ensures _ c.self.view_is

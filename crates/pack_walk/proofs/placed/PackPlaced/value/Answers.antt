use Rattle.std.proofs.Common.{subst}
use Rattle.port_walk.specs.Stands.{IsSending}
use Rattle.pack_walk.specs.Placed.{IsNextValue}
use Rattle.pack_walk.proofs.PlacedLemmas.{stand_is}
use Rattle.pack_walk.proofs.placed.PackPlaced.value.Goals as goal

pub returns : goal.returns
returns c = subst (λ view. IsNextValue view c.value.result) c.self.view_is (record {
  each = λ i link sending. c.value.ensures.each i link (subst (λ s. IsSending s i link) (stand_is c.self.inside c.self.invariant) sending);
})

use Rattle.std.proofs.Common.{subst, refl}
use Rattle.port_walk.specs.Walks.{IsNextValue}
use Rattle.port_walk.proofs.MoveLemmas.{next_value, at_here}
use Rattle.port_walk.proofs.walk.Walk.value.Goals as goal

pub returns : goal.returns
returns g c =
    let kept = c.self.invariant in
    subst (λ view. IsNextValue g.W.Word view c.self.inside.value) c.self.view_is (next_value g.W.Word _ kept _ (at_here g.W.Word kept _ refl))

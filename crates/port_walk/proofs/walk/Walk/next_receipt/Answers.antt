use Rattle.std.proofs.Common.{subst, refl}
use Rattle.port_walk.specs.{Stands.IsNextReceipt, Walks.Walked}
use Rattle.port_walk.proofs.{MoveLemmas.at_here, WalkLemmas.receiving_here}
use Rattle.port_walk.proofs.walk.Walk.next_receipt.Goals as goal

pub returns : goal.returns
returns g c =
    let kept = c.self.invariant in
    subst (λ (view : Walked _). IsNextReceipt view.stand c.self.inside.took) c.self.view_is (record {
      each = λ j link receiving. (receiving_here g.W.Word kept _ (at_here g.W.Word kept _ refl) j link receiving).number;
    })

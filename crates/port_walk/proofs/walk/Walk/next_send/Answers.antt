use Rattle.std.proofs.Common.{subst, refl}
use Rattle.port_walk.specs.{Stands.IsNextSend, Walks.Walked}
use Rattle.port_walk.proofs.{MoveLemmas.at_here, WalkLemmas.sending_here}
use Rattle.port_walk.proofs.walk.Walk.next_send.Goals as goal

pub returns : goal.returns
returns g c =
    let kept = c.self.invariant in
    subst (λ (view : Walked _). IsNextSend view.stand c.self.inside.sent) c.self.view_is (record {
      each = λ i link sending. (sending_here g.W.Word kept _ (at_here g.W.Word kept _ refl) i link sending).number;
    })

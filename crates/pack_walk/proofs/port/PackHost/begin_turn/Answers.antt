use Rattle.std.proofs.Common.{true, subst, sym}
use Rattle.image_defs.specs.Ports.{CanBegin}
use Rattle.port_bank.specs.Packed.{InEachLane}
use Rattle.pack_walk.proofs.HostLemmas.{ready_moved}
use Rattle.pack_walk.proofs.port.PackHost.begin_turn.Goals as goal

pub invariant_of-self : goal.invariant_of-self
invariant_of-self c =
    let a = c.self.inside in
    let can : InEachLane CanBegin a.bank = subst (InEachLane CanBegin) (sym c.self.view_is) c.requires in
    ready_moved a true a.bank.executed a.bank.received c.begin_turn.new.self c.self.invariant (λ _ l low. (can l low).more) c.begin_turn.ensures

use Rattle.std.proofs.Common.{subst, sym}
use Rattle.image_defs.specs.Ports.{CanEnd}
use Rattle.port_bank.specs.Words.{InEachLane}
use Rattle.port_bank.proofs.LaneBanks.{kept_ended}
use Rattle.port_bank.proofs.bank.Bank.end_turn.Goals as goal

pub invariant_of-self : goal.invariant_of-self
invariant_of-self g c =
    kept_ended g.W.Word.lanes g.met.W.Word.some g.W.Word.lane g.W.Word.stimulus _ _ c.is_edge-self-inside.result _ c.swap.new.self c.self.invariant
    (subst (InEachLane g.W.Word (λ view. CanEnd view)) (sym c.self.view_is) c.requires) c.is_edge-self-inside.ensures c.swap.ensures.count c.swap.ensures.lanes

use Rattle.std.proofs.Common.{◌≡◌, ◌∙◌, true, ap}
use Rattle.image_defs.specs.Ports.{lane_port, CanEnd}
use Rattle.port_bank.proofs.lemmas.LaneLemmas.{in_lane}
use Rattle.port_array.proofs.LaneKept.{ready_ended}
use Rattle.port_array.proofs.port.ArrayPort.end_turn.Goals as goal

pub invariant_of-self : goal.invariant_of-self
invariant_of-self g c =
    let begun : c.self.inside.bank.begun ≡ true = ap (λ view. view.begun) c.self.view_is ∙ (in_lane g.W.Word.lanes (λ l. CanEnd (lane_port g.W.Word.stimulus l c.args.self.now)) c.requires 0 g.met.W.Word.some).begun in
    ready_ended g.W.Word _ c.end_turn.new.self c.self.invariant begun c.end_turn.ensures

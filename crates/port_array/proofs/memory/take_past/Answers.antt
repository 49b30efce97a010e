use Rattle.std.proofs.Common.{◌∙◌, sym, ap}
use Rattle.image_defs.specs.{Steps.value_of_member, Steps.past_value, Ports.lane_port}
use Rattle.port_bank.specs.Reads.{past_in, IsTaken}
use Rattle.port_bank.proofs.lemmas.{LaneLemmas.in_lane, TurnLemmas.past_at_hand, TurnLemmas.past_taken}
use Rattle.port_array.proofs.memory.take_past.Goals as goal

pub returns : goal.returns
returns g c =
    let view = lane_port g.W.Word.stimulus c.args.k c.args.bank.now in
    let at = c.requires.past in
    c.at.ensures
    ∙ in_lane g.W.Word.lanes (λ l. IsTaken (lane_port g.W.Word.stimulus l c.args.bank.now) c.args.source (g.W.Word.lane c.take.result l)) c.take.ensures c.args.k c.requires.lane at.port at.is (past_at_hand view at.port c.args.source at.past)
    ∙ past_taken view at.port c.args.source at.past
    ∙ ap (value_of_member (λ port. past_value view.port port.ins (past_in view).value c.args.source)) (sym at.is)

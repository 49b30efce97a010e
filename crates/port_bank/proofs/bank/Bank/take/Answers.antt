use Rattle.std.proofs.Common.{◌∙◌, ap}
use Rattle.image_defs.specs.Ports.{lane_port}
use Rattle.port_bank.specs.{Flat.operand_of, Reads.IsRead, Reads.IsTaken}
use Rattle.port_bank.proofs.lemmas.LaneLemmas.{in_each, in_lane}
use Rattle.port_bank.proofs.bank.Bank.take.Goals as goal

pub returns : goal.returns
returns g c =
    let value = c.read.result in
    in_each g.W.Word.lanes (λ l. IsTaken (lane_port g.W.Word.stimulus l c.args.self.now) c.args.source (g.W.Word.lane value l))
    (λ l low port is hand. in_lane g.W.Word.lanes (λ l. IsRead (lane_port g.W.Word.stimulus l c.args.self.now) c.operand_of.result (g.W.Word.lane value l)) c.read.ensures l low
    port c.args.source is hand (c.operand_of.ensures ∙ ap (λ view. operand_of view.image.slots c.args.source) c.self.view_is))

use Rattle.std.proofs.Common.{◌≡◌, ◌∙◌, false, ap}
use Rattle.image_defs.specs.Ports.{lane_port, CanBegin}
use Rattle.port_bank.proofs.lemmas.LaneLemmas.{in_lane}
use Rattle.port_array.proofs.LaneKept.{all_read, ready_begun}
use Rattle.port_array.proofs.port.ArrayPort.begin_turn.Goals as goal

pub begin_memories-requires-clause-past : goal.begin_memories-requires-clause-past
begin_memories-requires-clause-past g c = all_read g.W.Word _ c.self.invariant

pub invariant_of-self : goal.invariant_of-self
invariant_of-self g c =
    let fresh : c.self.inside.bank.begun ≡ false = ap (λ view. view.begun) c.self.view_is ∙ (in_lane g.W.Word.lanes (λ l. CanBegin (lane_port g.W.Word.stimulus l c.args.self.now)) c.requires 0 g.met.W.Word.some).fresh in
    ready_begun g.W.Word _ c.begin_memories.new.memories c.self.invariant fresh c.begin_memories.ensures.whole c.begin_memories.ensures.acted c.begin_memories.ensures.same
    c.begin_turn.new.self c.begin_turn.ensures

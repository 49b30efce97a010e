use Rattle.port_array.proofs.LaneKept.{ready_received}
use Rattle.port_array.proofs.port.ArrayPort.receive.Goals as goal

pub invariant_of-self : goal.invariant_of-self
invariant_of-self g c = ready_received g.W.Word _ c.receive.new.self c.self.invariant c.receive.ensures

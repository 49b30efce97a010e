use Rattle.std.proofs.Common.{◌+◌}
use Rattle.pack_walk.proofs.HostLemmas.{ready_moved, still_runs}
use Rattle.pack_walk.proofs.port.PackHost.receive.Goals as goal

pub invariant_of-self : goal.invariant_of-self
invariant_of-self c =
    let a = c.self.inside in
    ready_moved a a.bank.begun a.bank.executed (a.bank.received + 1) c.receive.new.self c.self.invariant (still_runs a c.self.invariant) c.receive.ensures

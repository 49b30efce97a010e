use Rattle.order_run.specs.code.Made.{AreFirstCorePorts}
use Rattle.order_run.proofs.core_ports.make.Given as goal

abbrev pub invariant-ports : goal.invariant-ports
invariant-ports l = AreFirstCorePorts l.image l.stim l.banks l.p l.core_ports

use Rattle.order_run.specs.code.Core.{HasStepped}
use Rattle.order_run.proofs.core_run.Core.run_round.Given as goal

abbrev pub invariant-ports : goal.invariant-ports
invariant-ports l = HasStepped l.fn.self l.port l.moved l.self

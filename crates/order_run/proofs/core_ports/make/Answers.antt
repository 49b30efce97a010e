use Rattle.order_run.proofs.StartLemmas.{core_ports_more}
use Rattle.order_run.proofs.core_ports.make.Goals as goal

pub ports-preserved : goal.ports-preserved
ports-preserved c =
    core_ports_more c.args.image.now c.args.stim.now c.args.banks c.ports.p c.in_ok-first_core_port.field-0 c.ports.core_ports c.push.new.self c.ports.invariant c.in_ok-first_core_port.ensures c.in_ok-push.ensures.ok

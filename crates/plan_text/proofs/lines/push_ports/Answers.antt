use Rattle.plan_text.specs.Lines.{port_line}
use Rattle.plan_text.proofs.FigureLemmas.{text_more}
use Rattle.plan_text.proofs.lines.push_ports.Goals as goal

pub ports-preserved : goal.ports-preserved
ports-preserved c = text_more c.args.text.now c.ports.text _ (port_line c.args.homes.now c.args.figures.now) c.ports.port c.ports.invariant c.in_ok-push_port.ensures

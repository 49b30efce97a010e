use Rattle.std.proofs.Common.{◌∙◌, ap, sym}
use Rattle.port_host.specs.Rows.{rows_done}
use Rattle.port_host.proofs.HostLemmas.{rows_here}
use Rattle.port_host.proofs.port.HostPort.rows_done.Goals as goal

pub returns : goal.returns
returns c = sym (rows_here c.self.inside c.self.invariant) ∙ ap (λ view. rows_done view.port) c.self.view_is

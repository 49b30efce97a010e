use Rattle.std.proofs.Common.{◌∙◌, ap, sym}
use Rattle.port_host.specs.Rows.{given_up}
use Rattle.port_host.proofs.HostLemmas.{ready_given_up, rows_here}
use Rattle.port_host.proofs.port.HostPort.give_up.Goals as goal

pub invariant_of-self : goal.invariant_of-self
invariant_of-self c = ready_given_up c.self.inside c.self.invariant

pub returns : goal.returns
returns c =
    let a = c.self.inside in
    ap (λ n. record { port = a.bank; window = a.window; first_row = n }) (sym (rows_here a c.self.invariant)) ∙ ap given_up c.self.view_is

use Rattle.std.proofs.Common.{◌∙◌, ap}
use Rattle.order_run.specs.Core.{rows_of}
use Rattle.order_run.proofs.RoundLemmas.{host_there, is_host, rows_here}
use Rattle.order_run.proofs.core_run.Core.rows_done.Goals as goal

pub rows_done-requires-clause-host : goal.rows_done-requires-clause-host
rows_done-requires-clause-host c core_port at = is_host c.self.inside c.self.invariant c.len.result c.len.ensures c.as_slice.result.now c.as_slice.ensures core_port at

pub returns : goal.returns
returns c =
    let host = host_there c.self.inside c.self.invariant c.len.result c.len.ensures c.as_slice.result.now c.as_slice.ensures in
    c.rows_done.ensures host.0 host.1
    ∙ (rows_here c.self.inside c.self.invariant c.len.result c.len.ensures c.as_slice.result.now c.as_slice.ensures host.0 host.1
    ∙ ap rows_of c.self.view_is)

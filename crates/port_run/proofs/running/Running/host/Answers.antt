use Rattle.std.proofs.Common.{MatchOption, subst, ◌≢◌}
use Rattle.image_defs.specs.Places.{host_of}
use Rattle.port_run.specs.{Kept.view_of, Pairs.IsHostOf, Pairs.RunView}
use Rattle.port_run.proofs.RunLemmas.{host_of_run}
use Rattle.port_run.proofs.running.Running.host.Goals as goal

pub returns : goal.returns
returns c =
    let a = c.self.inside in
    subst (λ (x : RunView). MatchOption c.host.result (x.pass.port ≢ host_of x.pass.image) (λ h. IsHostOf x h.now)) c.self.view_is
    (host_of_run (λ h. h.now) (view_of a) a.port c.host.result c.self.invariant.port c.self.invariant.until c.known-known.ensures.fit c.host.ensures)

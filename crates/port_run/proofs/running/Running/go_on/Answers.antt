use Rattle.std.proofs.Common.{subst, sym}
use Rattle.port_walk.specs.Placed.{CanGoOn}
use Rattle.port_run.specs.Pairs.{placed}
use Rattle.port_run.proofs.RunLemmas.{block_next, kept_on}
use Rattle.port_run.proofs.running.Running.go_on.Goals as goal

pub go_on-requires : goal.go_on-requires
go_on-requires c = subst CanGoOn (sym c.self.invariant.port) (subst (λ run. CanGoOn (placed run)) (sym c.self.view_is) c.requires)

pub invariant_of-self : goal.invariant_of-self
invariant_of-self c = kept_on c.self.inside c.go_on.new.self c.self.invariant c.go_on.ensures

pub returns : goal.returns
returns c = block_next c.self.inside c.args.self.now c.go_on.new.self c.self.invariant c.self.view_is c.go_on.ensures

use Rattle.std.proofs.Common.{◌∙◌, ap}
use Rattle.home_pick.specs.{Better.settled, Crossings.moved}
use Rattle.home_pick.proofs.WorkLemmas.{settled_is}
use Rattle.home_pick.proofs.moves.settle.Goals as goal

pub returns-clause-homes : goal.returns-clause-homes
returns-clause-homes c =
    c.in_ok-put.ensures.homes
    ∙ (ap (moved c.lift.new.work.homes c.args.v) c.choice-port.ensures.best
    ∙ (settled_is c.args.nodes.now c.args.machine.now c.args.bound c.lift.new.work.homes c.args.v
    ∙ ap (λ h. settled c.args.nodes.now c.args.machine.now c.args.bound h c.args.v) c.in_ok-lift.ensures.homes))

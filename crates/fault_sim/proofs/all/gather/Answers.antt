use Rattle.std.proofs.Common.{[], sym, subst}
use Rattle.fault_sim.specs.{Verdicts.AreVerdicts, code.Groups.group_faults}
use Rattle.fault_sim.proofs.Gathering.{verdicts_none, verdicts_named, gather_more, gather_all}
use Rattle.fault_sim.proofs.all.gather.Goals as goal

pub groups-init : goal.groups-init
groups-init c = subst (AreVerdicts c.args.net.now c.args.timing.now c.args.stim.now []) (sym c.new-verdicts.ensures) (verdicts_none c.args.net.now c.args.timing.now c.args.stim.now)

pub groups-preserved : goal.groups-preserved
groups-preserved c =
    gather_more c.args.net.now c.args.timing.now c.args.stim.now c.args.groups.now c.groups.group-index c.group-item.result c.groups.verdicts c.in-Ok.made c.as_slice.result.now c.extend_from_slice.new.self c.groups.invariant c.groups-test.true c.group-item.is c.requires
    c.in-Ok.is c.as_slice.ensures c.in_ok-extend_from_slice.ensures.ok

pub returns-clause-verdicts : goal.returns-clause-verdicts
returns-clause-verdicts c = gather_all c.args.net.now c.args.timing.now c.args.stim.now c.args.groups.now c.groups.group-index c.groups.verdicts c.groups-test.false c.groups.invariant

pub returns-clause-named : goal.returns-clause-named
returns-clause-named c =
    verdicts_named c.args.net.now c.args.timing.now c.args.stim.now (group_faults c.args.groups.now) c.groups.verdicts
    (gather_all c.args.net.now c.args.timing.now c.args.stim.now c.args.groups.now c.groups.group-index c.groups.verdicts c.groups-test.false c.groups.invariant)

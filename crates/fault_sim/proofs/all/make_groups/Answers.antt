use Rattle.std.proofs.Common.{◌+◌, ◌≤◌, length, sym, subst, arith, take}
use Rattle.fault_sim.specs.code.Groups.{AreGroups}
use Rattle.fault_sim.proofs.Gathering.{groups_more}
use Rattle.fault_sim.proofs.all.make_groups.Goals as goal

pub groups-preserved : goal.groups-preserved
groups-preserved c =
    let begun = c.groups.begun in
    let end = begun + c.min.result in
    let within : end ≤ length c.args.faults.now = omega (arith, c.min.ensures, c.groups.invariant.within) in
    record {
      groups = subst (AreGroups c.args.net.now (take end c.args.faults.now)) (sym c.in_ok-push.ensures.ok)
          (groups_more c.args.net.now c.args.faults.now begun end c.groups.groups c.in_ok-make_group.field-0 c.groups.invariant.groups c.in_ok-make_group.ensures.faults (omega arith) within (omega (arith, c.min.ensures, c.most_faults-most.ensures.few)) c.requires);
      within = within;
    }

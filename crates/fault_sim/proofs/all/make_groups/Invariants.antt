use Rattle.std.proofs.Common.{◌-◌, ◌≤◌, length, take}
use Rattle.fault_sim.specs.code.Groups.{AreGroups}
use Rattle.fault_sim.proofs.all.make_groups.Given as goal

abbrev pub invariant-groups : goal.invariant-groups
invariant-groups l = record {
  groups : AreGroups l.net (take l.begun l.faults) l.groups;
  within : l.begun ≤ length l.faults;
}

abbrev pub decreases-groups : goal.decreases-groups
decreases-groups l = length l.faults - l.begun

use Rattle.std.proofs.Common.{take}
use Rattle.fault_sim.specs.{code.Groups.group_faults, Verdicts.AreVerdicts}
use Rattle.fault_sim.proofs.all.gather.Given as goal

abbrev pub invariant-groups : goal.invariant-groups
invariant-groups l = AreVerdicts l.net l.timing l.stim (group_faults (take l.group-index l.groups)) l.verdicts

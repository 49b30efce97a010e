-- Groups of faults that run side by side.
use Rattle.std.specs.Prelude.{◌<◌, ◌≡◌, ℕ, List, length, Some, slice_get, All, IfOk}
use Rattle.std.specs.List.{flat_map}
use Rattle.wide_planes.specs.declared.TheConstants.{WIDE_LANES}
use Rattle.net_defs.specs.declared.{netlist.Netlist.Netlist, timing.Timing.Timing, stimulus.Stimulus.Stimulus, faults.Fault.Fault}
use Rattle.fault_sim.specs.{declared.all.Group.Group, Faults.IsFault, Verdicts.AreVerdicts}

-- the faults fit into the lanes beside the good design
pub record IsGroup (net : Netlist) (group : Group) : Type 0 where
  pub few : length group.faults < WIDE_LANES
  pub faults : All (IsFault net) group.faults

-- the faults of some groups, one group after the other
abbrev pub group_faults : List Group → List Fault
group_faults groups = flat_map (λ group. group.faults) groups

-- the groups of these faults
pub record AreGroups (net : Netlist) (all : List Fault) (groups : List Group) : Type 0 where
  pub faults : group_faults groups ≡ all
  pub each : All (IsGroup net) groups

-- where a group is done, its verdicts are those on its faults
abbrev pub IsDone : Netlist → Timing → Stimulus → Group → Type 0
IsDone net timing stimulus group = IfOk group.verdicts (AreVerdicts net timing stimulus group.faults)

-- a group has run: its faults stay
pub record IsRun (net : Netlist) (timing : Timing) (stimulus : Stimulus) (before after : Group) : Type 0 where
  pub faults : after.faults ≡ before.faults
  pub done : IsDone net timing stimulus after

-- each has
pub record AreRun (net : Netlist) (timing : Timing) (stimulus : Stimulus) (before after : List Group) : Type 0 where
  pub count : length after ≡ length before
  pub each :
      (k : ℕ) (one other : Group) → slice_get before k ≡ Some one → slice_get after k ≡ Some other
      → IsRun net timing stimulus one other

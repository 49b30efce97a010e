-- Where a fault is first seen.
use Rattle.std.specs.Prelude.{◌≡◌, ℕ, ◌<◌, ◌≤◌, Bool, true, false, List, length, Some, slice_get, All}
use Rattle.logic_four.specs.declared.V4.{V4, TheVariants.Zero, TheVariants.One}
use Rattle.net_defs.specs.declared.{netlist.Netlist.Netlist, timing.Timing.Timing, stimulus.Stimulus.Stimulus}
use Rattle.net_defs.specs.{Time.value_at, Time.cycle_count, Steps.State, Trace.cells_of, Reference.IsSimulation, declared.faults.Fault.Fault, Loops.IsCircle}
use Rattle.fault_sim.specs.declared.faults.Verdict.{Verdict, TheVariants.Seen, TheVariants.Unseen}
use Rattle.fault_sim.specs.Faults.{IsFault, stuck, all_faults}

-- a tester sees that the second value is wrong where the first is right: one is 0, and the other 1
abbrev pub differs : V4 → V4 → Bool
differs Zero One = true
differs One Zero = true
differs _ _ = false

-- the fault is seen in a cycle, counted from 1, and a column, counted from 0
abbrev pub is_seen : Netlist → Timing → List State → List State → ℕ → ℕ → Bool
is_seen net timing good faulty cycle column =
    differs (value_at (cells_of net timing good cycle) column) (value_at (cells_of net timing faulty cycle) column)

-- it is seen there first within so many cycles: the least cycle, and the least column of that
pub record IsFirstSeen (net : Netlist) (timing : Timing) (cycles : ℕ) (good faulty : List State) (cycle column : ℕ) : Type 0 where
  pub counted : 1 ≤ cycle
  pub within : cycle ≤ cycles
  pub printed : column < length net.printed
  pub seen : is_seen net timing good faulty cycle column ≡ true
  pub no_cycle_before : (earlier any : ℕ) → 1 ≤ earlier → earlier < cycle → is_seen net timing good faulty earlier any ≡ false
  pub no_column_before : (before : ℕ) → before < column → is_seen net timing good faulty cycle before ≡ false

-- it is not seen within so many cycles
abbrev pub IsUnseen : Netlist → Timing → ℕ → List State → List State → Type 0
IsUnseen net timing cycles good faulty =
    (cycle column : ℕ) → 1 ≤ cycle → cycle ≤ cycles → is_seen net timing good faulty cycle column ≡ false

-- the verdict on a good and a faulty run of so many cycles
abbrev pub Judges : Netlist → Timing → ℕ → List State → List State → Verdict → Type 0
Judges net timing cycles good faulty (Seen cycle column) = IsFirstSeen net timing cycles good faulty cycle column
Judges net timing cycles good faulty Unseen = IsUnseen net timing cycles good faulty

-- the verdict on a fault: it judges the reference simulation against that of the faulty netlist
pub record IsVerdict (net : Netlist) (timing : Timing) (stimulus : Stimulus) (fault : Fault) (verdict : Verdict) : Type 0 where
  pub good : List State
  pub is_good : IsSimulation net timing stimulus good
  pub faulty : List State
  pub is_faulty : IsSimulation (stuck net fault) timing stimulus faulty
  pub judges : Judges net timing (cycle_count stimulus) good faulty verdict

-- one verdict for each of these faults
pub record AreVerdicts (net : Netlist) (timing : Timing) (stimulus : Stimulus) (faults : List Fault) (verdicts : List Verdict) : Type 0 where
  pub count : length verdicts ≡ length faults
  pub each :
      (k : ℕ) (fault : Fault) (verdict : Verdict) → slice_get faults k ≡ Some fault → slice_get verdicts k ≡ Some verdict
      → IsVerdict net timing stimulus fault verdict

-- the verdicts on all stuck faults: two for each signal in signal order, that on stuck at 0 first
abbrev pub AreAllVerdicts : Netlist → Timing → Stimulus → List Verdict → Type 0
AreAllVerdicts net timing stimulus verdicts = AreVerdicts net timing stimulus (all_faults net) verdicts

-- what a verdict names is there
abbrev pub IsNamed : Netlist → Stimulus → Verdict → Type 0
IsNamed net stimulus (Seen cycle column) = (1 ≤ cycle) × (cycle ≤ cycle_count stimulus) × (column < length net.printed)
IsNamed net stimulus Unseen = Unit {0}

-- there is one list of verdicts on these faults, and no second one
pub record HasOneList (net : Netlist) (timing : Timing) (stimulus : Stimulus) (faults : List Fault) : Type 0 where
  pub verdicts : List Verdict
  pub exists : AreVerdicts net timing stimulus faults verdicts
  pub only : (others : List Verdict) → AreVerdicts net timing stimulus faults others → others ≡ verdicts

-- so it is where the netlist has no loop
abbrev pub HaveOneList : Type 0
HaveOneList =
    (net : Netlist) (timing : Timing) (stimulus : Stimulus) (faults : List Fault)
    → ((members : List ℕ) → IsCircle net timing members → ⊥) → All (IsFault net) faults → HasOneList net timing stimulus faults

-- all stuck faults of a netlist are stuck faults of it
abbrev pub AreAllFaults : Type 0
AreAllFaults = (net : Netlist) → All (IsFault net) (all_faults net)

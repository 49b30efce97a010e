-- Coverage: which values each signal has, and which changes it makes, at the ends of the cycles of the
-- reference simulation. X and Z give no mark, and neither does a change from or to them.
use Rattle.std.specs.Prelude.{◌≡◌, ◌↔◌, ℕ, ◌+◌, ◌<◌, ◌≤◌, List, length, IsTrue, Some, slice_get}
use Rattle.logic_four.specs.declared.V4.{V4, TheVariants.Zero, TheVariants.One}
use Rattle.net_defs.specs.declared.{netlist.Netlist.Netlist, timing.Timing.Timing, stimulus.Stimulus.Stimulus}
use Rattle.net_defs.specs.{Time.value_at, Time.cycle_count, Steps.State, Loops.IsCircle, Reference.IsSimulation}
use Rattle.ref_sim.specs.Observing.{end_row}
use Rattle.cover_sim.specs.declared.marks.Marks.{Marks}

-- the value of a signal at the end of a cycle, counted from 1: that of the cycle's last turn
abbrev pub end_value : Timing → List State → ℕ → ℕ → V4
end_value timing states signal cycle = value_at (end_row timing states cycle) signal

-- in some of so many cycles it is this value
abbrev pub Has : ℕ → (ℕ → V4) → V4 → Type 0
Has cycles value wanted = (cycle : ℕ) × (1 ≤ cycle) × (cycle ≤ cycles) × (value cycle ≡ wanted)

-- from some of so many cycles to the next it changes from one value to the other
abbrev pub Changes : ℕ → (ℕ → V4) → V4 → V4 → Type 0
Changes cycles value from to =
    (cycle : ℕ) × (1 ≤ cycle) × (cycle < cycles) × (value cycle ≡ from) × (value (cycle + 1) ≡ to)

-- the marks of what has this value in each of so many cycles
pub record IsMarked (cycles : ℕ) (value : ℕ → V4) (marks : Marks) : Type 0 where
  pub zero : IsTrue marks.zero ↔ Has cycles value Zero
  pub one : IsTrue marks.one ↔ Has cycles value One
  pub rise : IsTrue marks.rise ↔ Changes cycles value Zero One
  pub fall : IsTrue marks.fall ↔ Changes cycles value One Zero

-- the marks of each signal, in signal order, by the reference simulation
pub record AreMarks (net : Netlist) (timing : Timing) (stimulus : Stimulus) (marks : List Marks) : Type 0 where
  pub states : List State
  pub simulation : IsSimulation net timing stimulus states
  pub signals : length marks ≡ length net.signals
  pub each :
      (s : ℕ) (mark : Marks) → slice_get marks s ≡ Some mark
      → IsMarked (cycle_count stimulus) (end_value timing states s) mark

-- there is one list of marks, and no second one
pub record HasOneCoverage (net : Netlist) (timing : Timing) (stimulus : Stimulus) : Type 0 where
  pub marks : List Marks
  pub exists : AreMarks net timing stimulus marks
  pub only : (others : List Marks) → AreMarks net timing stimulus others → others ≡ marks

-- so it is where the netlist has no loop
abbrev pub HaveOneCoverage : Type 0
HaveOneCoverage =
    (net : Netlist) (timing : Timing) (stimulus : Stimulus)
    → ((members : List ℕ) → IsCircle net timing members → ⊥) → HasOneCoverage net timing stimulus

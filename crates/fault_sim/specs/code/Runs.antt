-- A group of runs side by side, cycle by cycle.
use Rattle.std.specs.Prelude.{◌≡◌, ℕ, ◌+◌, ◌<◌, ◌≤◌, Bool, true, false, List, [], length, Option, Some, None, slice_get, slice_index_or}
use Rattle.std.specs.List.{list_all}
use Rattle.limits.specs.declared.TheConstants.{MAX_CYCLES}
use Rattle.logic_four.specs.declared.V4.{V4}
use Rattle.fault_sim.specs.{declared.wires.Lanes.Lanes, code.Lanes.lane_row, declared.faults.Verdict.Verdict}
use Rattle.fault_sim.specs.{declared.faults.Verdict.TheVariants.Seen, declared.faults.Verdict.TheVariants.Unseen, Lines.is_detected}
use Rattle.fault_sim.specs.Verdicts.{differs, Judges}
use Rattle.wide_planes.specs.{declared.TheConstants.WIDE_LANES, declared.planes.Words.Words, Lanes.bit_of}
use Rattle.net_defs.specs.{declared.netlist.Netlist.Netlist, declared.timing.Timing.Timing, Time.value_at, Steps.State, Steps.values_of, Trace.cells_of}

-- the values of two rows at a printed name tell the fault
abbrev pub differs_in : Netlist → List V4 → List V4 → ℕ → Bool
differs_in net good faulty column = differs (value_at (values_of good net.printed) column) (value_at (values_of faulty net.printed) column)

-- the first column in which they do
pub record IsFirstColumn (net : Netlist) (good faulty : List V4) (column : ℕ) : Type 0 where
  pub printed : column < length net.printed
  pub here : differs_in net good faulty column ≡ true
  pub before : (j : ℕ) → j < column → differs_in net good faulty j ≡ false

abbrev pub FindsColumn : Netlist → List V4 → List V4 → Option ℕ → Type 0
FindsColumn net good faulty (Some column) = IsFirstColumn net good faulty column
FindsColumn net good faulty None = (j : ℕ) → differs_in net good faulty j ≡ false

-- what a verdict becomes after a cycle, by the last rows of the good and the faulty design
abbrev pub IsLooked : Netlist → List V4 → List V4 → ℕ → Verdict → Verdict → Type 0
IsLooked net good faulty cycle (Seen before at) new = new ≡ Seen before at
IsLooked net good faulty cycle Unseen (Seen here column) = (here ≡ cycle) × IsFirstColumn net good faulty column
IsLooked net good faulty cycle Unseen Unseen = (j : ℕ) → differs_in net good faulty j ≡ false

-- a lane without a mark differs from the good design in no printed name
abbrev pub MarkOthers : Netlist → List Lanes → Words → Type 0
MarkOthers net row marks = (k j : ℕ) → k < WIDE_LANES → bit_of marks k ≡ 0 → differs_in net (lane_row 0 row) (lane_row k row) j ≡ false

-- all verdicts became so
pub record AreLooked (net : Netlist) (row : List Lanes) (cycle : ℕ) (old new : List Verdict) : Type 0 where
  pub count : length new ≡ length old
  pub each : (k : ℕ) (before after : Verdict) → slice_get old k ≡ Some before → slice_get new k ≡ Some after → IsLooked net (lane_row 0 row) (lane_row (k + 1) row) cycle before after

-- each fault is seen
abbrev pub are_decided : List Verdict → Bool
are_decided verdicts = list_all is_detected verdicts

-- these states show at the ends of the first cycles what a lane of these rows has at the printed names
abbrev pub ShowsRows : Netlist → Timing → List State → ℕ → List (List Lanes) → Type 0
ShowsRows net timing states l rows = (c : ℕ) → c < length rows → cells_of net timing states (c + 1) ≡ values_of (lane_row l (slice_index_or rows c [])) net.printed

-- the verdicts on so many cycles, each of which ended with one of these rows: each judges every pair of runs that
-- show the rows of the good design and of its own lane
pub record HasJudged (net : Netlist) (verdicts : List Verdict) (cycles : ℕ) (rows : List (List Lanes)) (left : ℕ) : Type 0 where
  pub few : length verdicts < WIDE_LANES
  pub count : cycles ≡ length rows
  pub short : cycles + left ≤ MAX_CYCLES
  pub judged :
      (k : ℕ) (verdict : Verdict) → slice_get verdicts k ≡ Some verdict
      → (timing : Timing) (good faulty : List State) → ShowsRows net timing good 0 rows → ShowsRows net timing faulty (k + 1) rows
      → Judges net timing cycles good faulty verdict

-- Many runs side by side: the good design in lane 0, and a fault in each further lane.
use Rattle.std.specs.Prelude.{◌≡◌, ℕ, zero, suc, ◌≤◌, ◌==◌, false, if◌then◌else◌, List, [], ◌∷◌, length, map, Option, Some, None, slice_get, slice_index_or}
use Rattle.logic_four.specs.declared.V4.TheVariants.{Zero, One, Undef, HighZ}
use Rattle.logic_four.specs.{declared.V4.V4, declared.Kind.Kind, Gates.gate_value}
use Rattle.wide_planes.specs.Lanes as wide
use Rattle.wide_planes.specs.declared.planes.Wide.{Wide}
use Rattle.fault_sim.specs.declared.{wires.Lanes.Lanes, force.Forces.Forces}
use Rattle.net_defs.specs.{declared.netlist.Netlist.Netlist, Time.value_at, declared.faults.Fault.Fault}

-- the value of a lane of a place, and those of a row
abbrev pub lane_of : Lanes → ℕ → V4
lane_of place l = wide.lane_of place.planes l

abbrev pub lane_row : ℕ → List Lanes → List V4
lane_row l row = map (λ place. lane_of place l) row

-- the values of a lane of a row of planes
abbrev pub wide_row : ℕ → List Wide → List V4
wide_row l row = map (λ p. wide.lane_of p l) row

-- the fault of a lane
abbrev pub lane_fault : List Fault → ℕ → Option Fault
lane_fault faults zero = None
lane_fault faults (suc k) = slice_get faults k

-- the value at which a signal is stuck in a lane, and undefined where it is free
abbrev pub force_at : List Fault → ℕ → ℕ → V4
force_at faults l s = of_fault (lane_fault faults l) where
  of_fault : Option Fault → V4
  of_fault None = Undef
  of_fault (Some fault) = if s == fault.signal then fault.value else Undef

-- a gate is known by its kind, and any kind serves
abbrev pub pair_value : Kind → V4 → V4 → V4
pair_value kind a b = gate_value kind (a ∷ b ∷ [])

abbrev pub wide_form : Kind → Type 0
wide_form kind = Unit {0}

-- a signal is stuck at 0 or 1
abbrev pub stuck_value : V4 → Option V4
stuck_value Zero = Some Zero
stuck_value One = Some One
stuck_value Undef = None
stuck_value HighZ = None

-- what a lane's signal is stuck at
abbrev pub stuck_in : Forces → ℕ → ℕ → Option V4
stuck_in forces l s = if slice_index_or forces.stuck s false then stuck_value (value_at (wide_row l forces.planes) s) else None

-- what each signal is stuck at, lane by lane
pub record AreForces (net : Netlist) (faults : List Fault) (forces : Forces) : Type 0 where
  pub planes : length forces.planes ≡ length net.signals
  pub flags : length forces.stuck ≡ length net.signals
  pub each : (l : ℕ) → l ≤ length faults → (s : ℕ) → stuck_in forces l s ≡ stuck_value (force_at faults l s)

-- The values that stand side by side in planes.
use Rattle.std.specs.Prelude.{◌≡◌, ℕ, ◌+◌, ◌*◌, ◌<◌, if◌then◌else◌}
use Rattle.std.specs.Int.{bit_at}
use Rattle.limits.specs.declared.TheConstants.{LANES}
use Rattle.logic_four.specs.{declared.V4.V4, Values.value_of, Gates.is_known}
use Rattle.lane_planes.specs.declared.planes.Planes.{Planes}

-- the value of a lane
unfoldable pub lane_of : Planes → ℕ → V4
lane_of p k = value_of (bit_at p.low k + 2 * bit_at p.high k)

-- a value, and another in its place where that is 0 or 1
abbrev pub forced_value : V4 → V4 → V4
forced_value v force = if is_known force then force else v

-- two planes have the same value in each lane
abbrev pub AreAlike : Planes → Planes → Type 0
AreAlike p q = (k : ℕ) → k < LANES → lane_of p k ≡ lane_of q k

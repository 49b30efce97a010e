-- The values that stand in one lane of a row.
use Rattle.std.specs.Prelude.{ℕ, List, map, Option, Some, None}
use Rattle.logic_four.specs.declared.V4.{V4}

-- the values of a lane of a row
abbrev pub lane_row : {W : Type 0} → (W → ℕ → V4) → ℕ → List W → List V4
lane_row lane l row = map (λ w. lane w l) row

-- a value, or another that is held in its place
abbrev pub forced : Option V4 → V4 → V4
forced None v = v
forced (Some held) v = held

-- Which slots of which ports are taken.
use Rattle.std.specs.Prelude.{◌≡◌, ◌⊎◌, ℕ, ◌+◌, ◌*◌, ◌^◌, ◌<◌, ◌≤◌, List, length, Contains, Option, Some, None}
use Rattle.limits.specs.declared.TheConstants.{MAX_PORTS}
use Rattle.plan_defs.specs.{declared.bit_rows.BitRows.BitRows, Bits.HasBit, Lists.IsLeastFree}
use Rattle.slot_plan.specs.declared.board.Board.{Board}

-- there are two rows for each port
abbrev pub HasRows : BitRows → ℕ → Type 0
HasRows rows ports = (row : ℕ) → row < 2 * ports → row * rows.stride + rows.stride ≤ length rows.words

pub record IsBoard (board : Board) : Type 0 where
  pub few : board.ports ≤ MAX_PORTS
  pub small : board.rows.stride < 2 ^ 32
  pub room : HasRows board.rows board.ports
  -- there is a bit for each word, which says of full words alone that they are full
  pub bits : board.rows.stride ≡ 64 * board.full.stride
  pub notes : HasRows board.full board.ports
  pub full : (row w b : ℕ) → HasBit board.full row w → b < 64 → HasBit board.rows row (64 * w + b)

-- the home's row has bit s, or that of what one of the readers receives
abbrev pub IsTaken : BitRows → ℕ → ℕ → List ℕ → ℕ → Type 0
IsTaken rows ports home readers s = HasBit rows home s ⊎ ((r : ℕ) × Contains readers r × HasBit rows (ports + r) s)

-- s is before the first that is asked for, or one of these rows has it
abbrev pub IsRuledOut : BitRows → ℕ → ℕ → List ℕ → ℕ → ℕ → Type 0
IsRuledOut rows ports home readers from s = (s < from) ⊎ IsTaken rows ports home readers s

-- slot s can't be taken at the home and for these readers
abbrev pub IsShut : Board → ℕ → List ℕ → ℕ → ℕ → Type 0
IsShut board home readers from s = IsRuledOut board.rows board.ports home readers from s

-- what is found among the numbers below the end: the least that is free, or that none of them is
abbrev pub Finds : (ℕ → Type 0) → ℕ → Option ℕ → Type 0
Finds IsOut end (Some n) = IsLeastFree IsOut n
Finds IsOut end None = (m : ℕ) → m < end → IsOut m

-- the row is the home's, or that of what one of the readers receives
abbrev pub IsRowFor : Board → ℕ → List ℕ → ℕ → Type 0
IsRowFor board home readers row = (row ≡ home) ⊎ ((r : ℕ) × Contains readers r × (row ≡ board.ports + r))

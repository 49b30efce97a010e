-- The values that stand side by side in wide planes.
use Rattle.std.specs.Prelude.{ℕ, ◌+◌, ◌*◌, ◌/◌, ◌%◌, slice_index}
use Rattle.std.specs.Int.{bit_at}
use Rattle.logic_four.specs.{declared.V4.V4, declared.V4.TheVariants.Zero, declared.V4.TheVariants.One, Values.value_of}
use Rattle.wide_planes.specs.declared.planes.{Words.Words, Wide.Wide}

-- the bit of a lane
unfoldable pub bit_of : Words → ℕ → ℕ
bit_of w k = bit_at (slice_index w.words (k / 32)) (k % 32)

-- the value of a lane
unfoldable pub lane_of : Wide → ℕ → V4
lane_of p k = value_of (bit_of p.low k + 2 * bit_of p.high k)

-- 1 where one value is 0 and the other 1
abbrev pub opposite : V4 → V4 → ℕ
opposite Zero One = 1
opposite One Zero = 1
opposite _ _ = 0

-- Counts that stand still at the last value of a 64-bit number.
use Rattle.std.specs.Prelude.{ℕ, ◌+◌, ◌-◌, ◌^◌, ◌<◌, min, max, Bool, if◌then◌else◌}

-- a count after n more; it stops at the last value, and one that is past it stays
abbrev pub raised : ℕ → ℕ → ℕ
raised count n = max count (min (count + n) (2 ^ 64 - 1))

-- a count after one more where `b` holds, and as it was elsewhere
abbrev pub raised_if : Bool → ℕ → ℕ
raised_if b count = if b then raised count 1 else count

-- the count rose, or stands at its last value
abbrev pub Rose : ℕ → ℕ → Type 0
Rose old new = old < 2 ^ 64 - 1 → old < new
